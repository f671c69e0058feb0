-- How lookups are compared with the arguments that count.
use Rattle.std.proofs.Common.{◌≡◌, ℕ, suc, zero, ◌+◌, ◌<◌, ◌≤◌, ◌++◌, ◌==◌, ◌||◌, ◌&&◌, Bool, true}
use Rattle.std.proofs.Common.{false}
use Rattle.std.proofs.Common.{not, List, [], ◌∷◌, length, map, filter, take, get_or, set, Option}
use Rattle.std.proofs.Common.{Some, None}
use Rattle.std.proofs.Common.{refl, sym, ap, ◌∙◌, arith, cond, append_assoc, eq-eqb, eqb-true}
use Rattle.std.proofs.Common.{ne_eqb}
use Rattle.std.proofs.lemmas.Bool.{cond-false, or_from}
use Rattle.std.proofs.lemmas.Bool.Decides.{Decides-eqb, Decides-like, same_from_decides}
use Rattle.std.proofs.lemmas.List.Elements.{filter-append, filter_agree}
use Rattle.std.specs.Prelude.{is_some, is_none, option_map}
use Rattle.std.specs.Option.{option_map_or}
use Rattle.std.specs.List.{AllByRecursion, cons_option, filter_map, list_any, slice_get}
use Rattle.std.specs.Str.{bytes_eq}
use Rattle.std.proofs.lemmas.List.{map-append, append-nil}
use Rattle.rustc_parse_format.specs.Characters.{Text}
use Rattle.placeholder_check.specs.Uses.{Use, ByIndex, ByName}
use Rattle.call_faults.specs.declared.faults.InvalidReference.{InvalidReference}
use Rattle.call_faults.specs.declared.faults.Reference.{Reference}
use Rattle.call_faults.specs.declared.arguments.Arguments.{Arguments}
use Rattle.call_faults.specs.Views.{Holds, KnowsNames}
use Rattle.call_faults.specs.Arguments.{FormatArgument, Entry, first_of, has_name, index_of}
use Rattle.call_faults.specs.Arguments.{kept_after}
use Rattle.call_faults.specs.Arguments.{with_given}
use Rattle.call_faults.specs.CallFaults.{CallFault, MissingName}
use Rattle.call_faults.specs.Comparison.{by_index, comparison_faults, indices, is_missing_name}
use Rattle.call_faults.specs.Comparison.{is_redundant}
use Rattle.call_faults.specs.Comparison.{is_position, left_faults, lookup_faults, meant_index}
use Rattle.call_faults.specs.Comparison.{means}
use Rattle.call_faults.specs.Comparison.{is_settled, invalid_references, missing_faults, names}
use Rattle.call_faults.specs.Comparison.{unused_arguments}
use Rattle.call_faults.specs.Lookups.{Lookup, NoTrait, Refer}
use Rattle.text_faults.proofs.Collecting.{list_any-next, map-next}

-- a name that is reported
pub outcome-name : (old : List CallFault) (captures : Bool) (known : List Text) (r : Reference)
    (w : Text) (ls : List Lookup) → captures ≡ false → list_any (bytes_eq w) known ≡ false
    → (old ++ MissingName r w ∷ []) ++ lookup_faults captures (w ∷ known) ls
    ≡ old ++ lookup_faults captures known (Refer r (ByName w) ∷ ls)
outcome-name old captures known r w ls e f = append_assoc old (MissingName r w ∷ [])
    (lookup_faults captures (w ∷ known) ls)
    ∙ ap (λ xs. old ++ xs) (sym (not-there (captures || list_any (bytes_eq w) known) _ _
    (or_from captures (list_any (bytes_eq w) known) e f)))
  where
    not-there : (b : Bool) (xs ys : List CallFault) → b ≡ false → cond b xs ys ≡ ys
    not-there b xs ys e = cond-false b xs ys e

some-inserted : (b : Bool) (i : ℕ) (o : Option ℕ) → is_some (cond b (Some i) o) ≡ (b || is_some o)
some-inserted true i o = refl
some-inserted false i o = refl

pub now-known : (b : Bool) (i : ℕ) (o p : Option ℕ) (c : Bool) → p ≡ cond b (Some i) o
    → is_some o ≡ c → is_some p ≡ (b || c)
now-known b i o p c e f = ap is_some e ∙ some-inserted b i o ∙ ap (λ d. b || d) f

-- an argument that a lookup means is one of those that count
index-below : (ks : List Entry) (count n i : ℕ) → AllByRecursion (λ k. k.index < count) ks
    → option_map_or (λ j. i == j) (option_map (λ (k : Entry). k.index) (slice_get ks n)) false
    ≡ true
    → i < count
index-below [] count n i a e = absurd cc
index-below (k ∷ ks) count zero i a e = let s = eqb-true i k.index e in let h : k.index < count
    = a.0 in omega arith
index-below (k ∷ ks) count (suc n) i a e = index-below ks count n i a.1 e

name-below : (ks : List Entry) (count : ℕ) (w : Text) (i : ℕ)
    → AllByRecursion (λ k. k.index < count) ks
    → option_map_or (λ j. i == j) (index_of ks w) false ≡ true → i < count
name-below [] count w i a e = absurd cc
name-below (k ∷ ks) count w i a e = choose (has_name w k.argument) a e (name-below ks count w i a.1)
  where
    choose : (b : Bool) → AllByRecursion (λ k. k.index < count) (k ∷ ks)
        → option_map_or (λ j. i == j) (cond b (Some k.index) (index_of ks w)) false ≡ true
        → (option_map_or (λ j. i == j) (index_of ks w) false ≡ true → i < count) → i < count
    choose true a e f = let s = eqb-true i k.index e in let h : k.index < count = a.0 in omega arith
    choose false a e f = f e

pub means-below : (ks : List Entry) (count i : ℕ) (l : Lookup)
    → AllByRecursion (λ k. k.index < count) ks → means ks i l ≡ true → i < count
means-below ks count i (NoTrait k t) a e = absurd cc
means-below ks count i (Refer r (ByIndex n)) a e = index-below ks count n i a e
means-below ks count i (Refer r (ByName w)) a e = name-below ks count w i a e

-- one lookup more
pub marked-next : {A : Type 0} (f : A → Lookup) (ks : List Entry) (ls : List A) (j : ℕ) (d : A) (i :
    ℕ)
    (old new b : Bool) → j < length ls → old ≡ list_any (means ks i) (map f (take j ls))
    → b ≡ means ks i (f (get_or ls j d)) → new ≡ (old || b)
    → new ≡ list_any (means ks i) (map f (take (j + 1) ls))
marked-next f ks ls j d i old new b l e g m = m ∙ ap (λ c. c || b) e
    ∙ ap (λ c. list_any (means ks i) (map f (take j ls)) || c) (g
    ∙ sym (or-false (means ks i (f (get_or ls j d)))))
    ∙ sym (list_any-next f (means ks i) ls j d l)
  where
    or-false : (b : Bool) → (b || false) ≡ b
    or-false true = refl
    or-false false = refl

-- the redundant ones of arguments
pub kept-next : {A : Type 0} (f : A → Entry) (p : Entry → Bool) (xs : List A) (i : ℕ) (d : A)
    (old new : List ℕ) (b : Bool) → i < length xs → old ≡ indices (filter p (map f (take i xs)))
    → b ≡ p (f (get_or xs i d)) → new ≡ old ++ cond b ((f (get_or xs i d)).index ∷ []) []
    → new ≡ indices (filter p (map f (take (i + 1) xs)))
kept-next f p xs i d old new b l e g m =
    m ∙ ap (λ ys. ys ++ cond b ((f (get_or xs i d)).index ∷ []) []) e
    ∙ ap (λ c. indices (filter p (map f (take i xs)))
    ++ cond c ((f (get_or xs i d)).index ∷ []) []) g
    ∙ sym (ap (λ ys. indices (filter p ys)) (map-next f xs i d l)
    ∙ ap indices (filter-append p (map f (take i xs)) (f (get_or xs i d) ∷ []))
    ∙ map-append (λ (k : Entry). k.index) (filter p (map f (take i xs))) (cond (p (f (get_or xs i
    d))) (f (get_or xs i d) ∷ []) [])
    ∙ ap (λ ys. indices (filter p (map f (take i xs)))
    ++ ys) (one (p (f (get_or xs i d))) (f (get_or xs i d))))
  where
    one : (b : Bool) (k : Entry) → indices (cond b (k ∷ []) []) ≡ cond b (k.index ∷ []) []
    one true k = refl
    one false k = refl

pub redundant-is : (ls : List Lookup) (n v : Option Text) (found : Text → Bool)
    → ((w : Text) → found w ≡ list_any (is_position w) ls)
    → (is_none n && option_map_or found v false)
    ≡ (is_none n && option_map_or (λ w. list_any (is_position w) ls) v false)
redundant-is ls n None found h = refl
redundant-is ls n (Some w) found h = ap (λ b. is_none n && b) (h w)

-- the arguments that are not marked
pub left-is : (marks : List Bool) (ks : List Entry) (ls : List Lookup)
    → ((i : ℕ) → get_or marks i false ≡ list_any (means ks i) ls)
    → filter (λ k. not (get_or marks k.index false)) ks ≡ unused_arguments ks ls
left-is marks ks ls h = filter_agree (λ (k : Entry). not (get_or marks k.index false))
    (λ (k : Entry). not (list_any (means ks k.index) ls)) (λ k. ap not (h k.index)) ks

-- a collection of arguments knows their names
some-found : (b : Bool) (i : ℕ) (o : Option ℕ) (c : Bool) → is_some o ≡ c
    → is_some (cond b (Some i) o) ≡ (b || c)
some-found true i o c e = refl
some-found false i o c e = e

some-named : (w : Text) (i : ℕ) (n : Option Text) (o : Option ℕ) (ts : List Text)
    → is_some o ≡ list_any (bytes_eq w) ts
    → is_some (cond (option_map_or (bytes_eq w) n false) (Some i) o)
    ≡ list_any (bytes_eq w) (cons_option n ts)
some-named w i None o ts e = e
some-named w i (Some v) o ts e = some-found (bytes_eq w v) i o (list_any (bytes_eq w) ts) e

some-index : (ks : List Entry) (w : Text) → is_some (index_of ks w)
    ≡ list_any (bytes_eq w) (names ks)
some-index [] w = refl
some-index (k ∷ ks) w = some-named w k.index k.argument.name (index_of ks w) (names ks)
    (some-index ks
    w)

pub holds-knows : (ks : List Entry) (a : Arguments) → Holds ks a → KnowsNames (names ks) a.indices
holds-knows ks a h = record { same = λ w. ap is_some (h.names w) ∙ some-index ks w }

-- what was found, part by part
pub compared-parts : (captures : Bool) (ks : List Entry) (ls : List Lookup) (found : List CallFault)
    (lacked : List InvalidReference) (left : List Entry) (b : Bool)
    → found ≡ lookup_faults captures (names ks) ls → lacked ≡ invalid_references ks ls → left
    ≡ unused_arguments ks ls
    → is_settled found lacked left ≡ b
    → found ++ missing_faults lacked ++ left_faults (indices (filter (is_redundant ls) left))
    (indices left)
    ++ cond b (filter_map (by_index ks) ls) [] ≡ comparison_faults captures ks ls
compared-parts captures ks ls found lacked left b e f g h =
    rw (← e, ← f, ← g, h) refl

-- each argument that counts is one of those that are given
below-more : (ks : List Entry) (m n : ℕ) → m ≤ n → AllByRecursion (λ k. k.index < m) ks
    → AllByRecursion (λ k. k.index < n) ks
below-more [] m n l a = tt
below-more (k ∷ ks) m n l a = (let h : k.index < m = a.0 in omega arith, below-more ks m n l a.1)

below-push : (ks : List Entry) (k : Entry) (n : ℕ) → AllByRecursion (λ l. l.index < n) ks
    → k.index < n
    → AllByRecursion (λ l. l.index < n) (ks ++ k ∷ [])
below-push [] k n a l = (l, tt)
below-push (x ∷ ks) k n a l = (a.0, below-push ks k n a.1 l)

with-below : (ks : List Entry) (i : ℕ) (g : FormatArgument) → AllByRecursion (λ k. k.index < i) ks
    → AllByRecursion (λ k. k.index < suc i) (with_given ks i g)
with-below ks i g a = choose (is_some (first_of ks g))
  where
    choose : (b : Bool) → AllByRecursion (λ k. k.index < suc i)
        (cond b ks (ks ++ record { index = i; argument = g } ∷ []))
    choose true = below-more ks i (suc i) (omega arith) a
    choose false = below-push ks (record { index = i; argument = g }) (suc i)
        (below-more ks i (suc i) (omega arith) a) (omega arith)

pub kept-below : (ks : List Entry) (i : ℕ) (gs : List FormatArgument)
    → AllByRecursion (λ k. k.index < i) ks
    → AllByRecursion (λ k. k.index < i + length gs) (kept_after ks i gs)
kept-below ks i [] a = below-more ks i (i + 0) (omega arith) a
kept-below ks i (g ∷ gs) a =
    below-more (kept_after (with_given ks i g) (suc i) gs) (suc i + length gs) (i + suc (length gs))
    (omega arith) (kept-below (with_given ks i g) (suc i) gs (with-below ks i g a))

-- faults that are added one after the other
pub joined : (old a b c d found m l w total : List CallFault) → a ≡ old ++ found → b ≡ a ++ m
    → c ≡ b ++ l → d ≡ c ++ w → found ++ m ++ l ++ w ≡ total → d ≡ old ++ total
joined old a b c d found m l w total e f g h k =
    rw (h, g, f, e, ← k) (append_assoc ((old ++ found) ++ m) l w
    ∙ append_assoc (old ++ found) m (l ++ w) ∙ append_assoc old found (m ++ (l ++ w))
    ∙ ap (λ xs. old ++ xs) (sym (append_assoc (found ++ m) l w ∙ append_assoc found m (l ++ w))))
