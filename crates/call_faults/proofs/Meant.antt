-- Which argument a use means, where the arguments are in order.
use Rattle.std.proofs.Common.{◌≡◌, ℕ, suc, zero, ◌+◌, ◌<◌, ◌≤◌, Bool, true, false, not, ◌||◌, ◌==◌}
use Rattle.std.proofs.Common.{List, [], ◌∷◌, length, map, filter, Option, Some, None, refl, sym, ap}
use Rattle.std.proofs.Common.{◌∙◌, arith, inl, inr, cond, subst, add-zero, zero-add, ne_eqb, eq-eqb}
use Rattle.std.specs.Prelude.{◌⊎◌, nat_le, IsTrue, IsSomeAnd, option_map, is_some}
use Rattle.std.specs.Option.{option_map_or}
use Rattle.std.specs.List.{All, Any, AllByRecursion, Contains, cons_option, list_any, slice_get}
use Rattle.std.specs.List.{filter_map}
use Rattle.std.specs.Str.{bytes_eq}
use Rattle.std.proofs.lemmas.Bool.{or_cases, or_right, leb-false, leb-true, lt-leb, le-leb}
use Rattle.std.proofs.lemmas.Bool.{not-true, eqb-true}
use Rattle.std.proofs.lemmas.Bool.{or_parts, false_from_ne_true, not-false, or_from, or_left}
use Rattle.std.proofs.lemmas.Bool.{not_from_true}
use Rattle.std.proofs.lemmas.Bool.Decides.{not_from_Decides}
use Rattle.std.proofs.lemmas.List.Folds.{Any-from_list_any, list_any-from_Any}
use Rattle.std.proofs.lemmas.Option.{same_Some}
use Rattle.std.proofs.lemmas.Slice.Eq.{bytes_eq-Decides}
use Rattle.rustc_parse_format.specs.Characters.{Text}
use Rattle.placeholder_check.specs.Uses.{Use, ByIndex, ByName}
use Rattle.call_faults.specs.Arguments.{FormatArgument, Entry, MayPrecede, has_name, index_of}
use Rattle.call_faults.specs.Clean.{IsMet, IsUsed}
use Rattle.call_faults.specs.Comparison.{means, meant_index, names, unused_arguments}
use Rattle.call_faults.specs.Lookups.{Lookup, NoTrait, Refer}
use Rattle.call_faults.proofs.Empty.{else-nil, here, none-passes, passes, there}
use Rattle.call_faults.proofs.Lists.{InOrder, numbered, skipped}
use Rattle.call_faults.proofs.Looked.{by_use, is_far, is_unknown}

pub numbered-length : (m : ℕ) (gs : List FormatArgument) → length (numbered m gs) ≡ length gs
numbered-length m [] = refl
numbered-length m (g ∷ gs) = ap suc (numbered-length (suc m) gs)

-- the index that an option has is this one
abbrev pub is_index : ℕ → Option ℕ → Bool
is_index i o = option_map_or (λ j. i == j) o false

-- the use is of the argument g, which has this index
abbrev pub is_use : ℕ → FormatArgument → Use → Bool
is_use i g (ByIndex n) = i == n
is_use i g (ByName w) = has_name w g

index-at : (m n : ℕ) (gs : List FormatArgument) (o : Option FormatArgument) → slice_get gs n ≡ o
    → option_map (λ (k : Entry). k.index) (slice_get (numbered m gs) n)
    ≡ option_map (λ g. m + n) o
index-at m n [] o e = rw (← e) refl
index-at m zero (g ∷ gs) o e = rw (← e) (ap Some (sym (add-zero m)))
index-at m (suc n) (g ∷ gs) o e = index-at (suc m) n gs o e
    ∙ ap (λ (k : ℕ). option_map (λ (g : FormatArgument). k) o) (let h : suc m + n ≡ m + suc n
    = omega arith in h)

by-index : (i n : ℕ) (gs : List FormatArgument) (g : FormatArgument) (o : Option FormatArgument)
    → slice_get gs i ≡ Some g
    → slice_get gs n ≡ o → is_index i (option_map (λ (h : FormatArgument). 0 + n) o) ≡ (i == n)
by-index i n gs g (Some h) e f = ap (λ (k : ℕ). i == k) (zero-add n)
by-index i n gs g None e f = sym (ne_eqb i n (λ s. apart i n s gs g e f))
  where
    apart : (i n : ℕ) → i ≡ n → (gs : List FormatArgument) (g : FormatArgument)
        → slice_get gs i ≡ Some g
        → slice_get gs n ≡ None → ⊥
    apart i n s gs g e f = let h : slice_get gs n ≡ Some g = rw (← s) e in cc

-- an index that is found is one of the numbers
above : (m : ℕ) (gs : List FormatArgument) (w : Text) (i : ℕ) → i < m
    → is_index i (index_of (numbered m gs) w) ≡ false
above m [] w i h = refl
above m (g ∷ gs) w i h = choose (has_name w g) (ne_eqb i m (omega arith)) (above (suc m) gs w i
    (omega arith))
  where
    choose : (b : Bool) → (i == m) ≡ false → is_index i (index_of (numbered (suc m) gs) w) ≡ false
        → is_index i (cond b (Some m) (index_of (numbered (suc m) gs) w)) ≡ false
    choose true e f = e
    choose false e f = f

pub name-is : (n : Option Text) (w : Text) → option_map_or (bytes_eq w) n false ≡ true → n ≡ Some w
name-is None w e = absurd cc
name-is (Some v) w e = ap Some (sym ((bytes_eq-Decides w v).0 e))

pub is-name : (n : Option Text) (w : Text) → n ≡ Some w → option_map_or (bytes_eq w) n false ≡ true
is-name n w e = rw e ((bytes_eq-Decides w w).1 refl)

-- two arguments in order do not have one name
differ : (n o : Option Text) (w : Text) → MayPrecede n o
    → option_map_or (bytes_eq w) n false ≡ true → option_map_or (bytes_eq w) o false ≡ false
differ None o w h e = absurd cc
differ (Some v) None w h e = refl
differ (Some v) (Some u) w h e = false_from_ne_true (bytes_eq w u)
    (λ f. h (sym ((bytes_eq-Decides w v).0 e) ∙ (bytes_eq-Decides w u).0 f))

later-differ : (h : FormatArgument) (gs : List FormatArgument) (i : ℕ) (g : FormatArgument)
    (w : Text)
    → AllByRecursion (λ x. MayPrecede h.name x.name) gs → slice_get gs i ≡ Some g
    → has_name w h ≡ true → has_name w g ≡ false
later-differ h [] i g w a e f = absurd cc
later-differ h (x ∷ gs) zero g w a e f =
    ap (λ (y : FormatArgument). has_name w y) (sym (same_Some x g e)) ∙ differ h.name x.name w a.0 f
later-differ h (x ∷ gs) (suc i) g w a e f = later-differ h gs i g w a.1 e f

first-name : (m : ℕ) (h : FormatArgument) (gs : List FormatArgument) (w : Text) (b : Bool)
    → has_name w h ≡ b
    → is_index (m + 0) (cond b (Some m) (index_of (numbered (suc m) gs) w)) ≡ has_name w h
first-name m h gs w true f = eq-eqb (m + 0) m (omega arith) ∙ sym f
first-name m h gs w false f = above (suc m) gs w (m + 0) (omega arith) ∙ sym f

later-name : (m i : ℕ) (h : FormatArgument) (gs : List FormatArgument) (g : FormatArgument)
    (w : Text) (b : Bool) → m < i
    → (has_name w h ≡ true → has_name w g ≡ false)
    → is_index i (index_of (numbered (suc m) gs) w) ≡ has_name w g → has_name w h ≡ b
    → is_index i (cond b (Some m) (index_of (numbered (suc m) gs) w)) ≡ has_name w g
later-name m i h gs g w true l d r f = ne_eqb i m (λ s. absurd (omega arith)) ∙ sym (d f)
later-name m i h gs g w false l d r f = r

-- where names differ, the first argument with a name is the one that has it
by-name : (m i : ℕ) (gs : List FormatArgument) (g : FormatArgument) (w : Text) → InOrder gs
    → slice_get gs i ≡ Some g
    → is_index (m + i) (index_of (numbered m gs) w) ≡ has_name w g
by-name m i [] g w o e = absurd cc
by-name m zero (h ∷ gs) g w o e =
    first-name m h gs w (has_name w h) refl
    ∙ ap (λ (y : FormatArgument). has_name w y) (same_Some h g e)
by-name m (suc i) (h ∷ gs) g w o e =
    let s : m + suc i ≡ suc m + i = omega arith in
    later-name m (m + suc i) h gs g w (has_name w h) (omega arith) (later-differ h gs i g w o.0 e)
    (rw s (by-name (suc m) i gs g w o.1 e)) refl

pub meant-use : (i : ℕ) (gs : List FormatArgument) (g : FormatArgument) (u : Use) → InOrder gs
    → slice_get gs i ≡ Some g → is_index i (meant_index (numbered 0 gs) u) ≡ is_use i g u
meant-use i gs g (ByIndex n) o e =
    ap (is_index i) (index-at 0 n gs (slice_get gs n) refl)
    ∙ by-index i n gs g (slice_get gs n) e refl
meant-use i gs g (ByName w) o e =
    ap (λ (j : ℕ). is_index j (index_of (numbered 0 gs) w)) (sym (zero-add i))
    ∙ by-name 0 i gs g w o e

-- lookups that mean an argument
pub means-use : (i : ℕ) (gs : List FormatArgument) (g : FormatArgument) (ls : List Lookup)
    → InOrder gs
    → slice_get gs i ≡ Some g
    → list_any (means (numbered 0 gs) i) ls ≡ list_any (by_use (is_use i g)) ls
means-use i gs g [] o e = refl
means-use i gs g (NoTrait k t ∷ ls) o e = means-use i gs g ls o e
means-use i gs g (Refer r u ∷ ls) o e = rw (meant-use i gs g u o e, means-use i gs g ls o e) refl

-- a use of an argument
named : (n : Option Text) (us : List Use) (u : Use) → IsSomeAnd n (λ w. Contains us (ByName w))
    → IsSomeAnd n (λ w. Contains (u ∷ us) (ByName w))
named None us u c = c
named (Some w) us u c = there u (ByName w) us c

kept-used : (us : List Use) (i : ℕ) (g : FormatArgument) (u : Use) → IsUsed us i g
    → IsUsed (u ∷ us) i g
kept-used us i g u (inl c) = inl (there u (ByIndex i) us c)
kept-used us i g u (inr c) = inr (named g.name us u c)

name-used : (n : Option Text) (w : Text) (us : List Use) → n ≡ Some w
    → IsSomeAnd n (λ v. Contains (ByName w ∷ us) (ByName v))
name-used n w us e = rw e (here (ByName w) us)

first-used : (us : List Use) (i : ℕ) (g : FormatArgument) (u : Use) → is_use i g u ≡ true
    → IsUsed (u ∷ us) i g
first-used us i g (ByIndex n) e = let s : i ≡ n = eqb-true i n e in inl (rw s (here (ByIndex n) us))
first-used us i g (ByName w) e = inr (name-used g.name w us (name-is g.name w e))

pub used-of : (us : List Use) (i : ℕ) (g : FormatArgument) → list_any (is_use i g) us ≡ true
    → IsUsed us i g
used-of [] i g e = absurd cc
used-of (u ∷ us) i g e = elim (or_cases (is_use i g u) (list_any (is_use i g) us) e) [
  | inl f ↦ first-used us i g u f
  | inr f ↦ kept-used us i g u (used-of us i g f)
]

name-passes : (i : ℕ) (n v : Option Text) (us : List Use)
    → IsSomeAnd n (λ w. Contains us (ByName w))
    → list_any (is_use i (record { name = n; variable = v })) us ≡ true
name-passes i None v us c = absurd c
name-passes i (Some w) v us c = passes (is_use i (record {
  name = Some w;
  variable
      = v;
})) us (ByName w) c
    (is-name (Some w) w refl)

pub of-used : (us : List Use) (i : ℕ) (g : FormatArgument) → IsUsed us i g
    → list_any (is_use i g) us ≡ true
of-used us i g (inl c) = passes (is_use i g) us (ByIndex i) c (eq-eqb i i refl)
of-used us i g (inr c) = name-passes i g.name g.variable us c

-- a filter that keeps nothing
filter-nil : {A : Type 0} (p : A → Bool) (xs : List A) → filter p xs ≡ []
    → AllByRecursion (λ x. p x ≡ false) xs
filter-nil p [] e = tt
filter-nil p (x ∷ xs) e = let both = else-nil (p x) x (filter p xs) (filter p xs) e in
    (both.0, filter-nil p xs both.1)

nil-filter : {A : Type 0} (p : A → Bool) (xs : List A) → AllByRecursion (λ x. p x ≡ false) xs
    → filter p xs ≡ []
nil-filter p [] h = refl
nil-filter p (x ∷ xs) h = rw h.0 (nil-filter p xs h.1)

all-numbered : (P : Entry → Type 0) (m : ℕ) (gs : List FormatArgument)
    → AllByRecursion P (numbered m gs)
    → (i : ℕ) (g : FormatArgument) → slice_get gs i ≡ Some g
    → P (record { index = m + i; argument = g })
all-numbered P m [] h i g e = absurd cc
all-numbered P m (x ∷ gs) h zero g e =
    let s : m ≡ m + 0 = omega arith in
    subst (λ (k : Entry). P k) (kept-is m (m + 0) x g s (same_Some x g e)) h.0
  where
    kept-is : (m n : ℕ) (x g : FormatArgument) → m ≡ n → x ≡ g → let a : Entry = record {
      index = m;
      argument
          = x;
    } in let b : Entry = record { index = n; argument = g } in a ≡ b
    kept-is m n x g e f = cc
all-numbered P m (x ∷ gs) h (suc i) g e =
    let s : suc m + i ≡ m + suc i = omega arith in
    subst (λ (n : ℕ). P (record { index = n; argument = g })) s
    (all-numbered P (suc m) gs h.1 i g e)

numbered-all : (P : Entry → Type 0) (m : ℕ) (gs : List FormatArgument)
    → ((i : ℕ) (g : FormatArgument) → slice_get gs i ≡ Some g
    → P (record { index = m + i; argument = g }))
    → AllByRecursion P (numbered m gs)
numbered-all P m [] h = tt
numbered-all P m (x ∷ gs) h = (
  let s : m + 0 ≡ m = omega arith in
      subst (λ (n : ℕ). P (record { index = n; argument = x })) s (h 0 x refl),
  numbered-all P (suc m) gs (λ i g e.
      let s : m + suc i ≡ suc m + i = omega arith in
      subst (λ (n : ℕ). P (record { index = n; argument = g })) s (h (suc i) g e)),
)

-- where none is left, each argument is used
pub all-used : (gs : List FormatArgument) (ls : List Lookup) (us : List Use) → InOrder gs
    → ((q : Use → Bool) → list_any (by_use q) ls ≡ list_any q us)
    → unused_arguments (numbered 0 gs) ls ≡ []
    → (i : ℕ) (g : FormatArgument) → slice_get gs i ≡ Some g → IsUsed us i g
all-used gs ls us o same e i g f =
    let left = filter-nil (λ (k : Entry). not (list_any (means (numbered 0 gs) k.index) ls))
    (numbered 0 gs) e in
    let meant = not-false (list_any (means (numbered 0 gs) (0 + i)) ls)
    (all-numbered (λ k. not (list_any (means (numbered 0 gs) k.index) ls)
    ≡ false) 0 gs left i g f) in
    let s : 0 + i ≡ i = omega arith in
    used-of us i g (sym (means-use i gs g ls o f ∙ same (is_use i g)) ∙ (rw s at meant))

pub used-all : (gs : List FormatArgument) (ls : List Lookup) (us : List Use) → InOrder gs
    → ((q : Use → Bool) → list_any (by_use q) ls ≡ list_any q us)
    → ((i : ℕ) (g : FormatArgument) → slice_get gs i ≡ Some g → IsUsed us i g)
    → unused_arguments (numbered 0 gs) ls ≡ []
used-all gs ls us o same h =
    nil-filter (λ (k : Entry). not (list_any (means (numbered 0 gs) k.index) ls)) (numbered 0 gs)
    (numbered-all (λ k. not (list_any (means (numbered 0 gs) k.index) ls) ≡ false) 0 gs
    (λ i g e.
    let s : i ≡ 0 + i = omega arith in
    let meant : list_any (means (numbered 0 gs) i) ls ≡ true
    = means-use i gs g ls o e ∙ same (is_use i g) ∙ of-used us i g (h i g e) in
    not_from_true (list_any (means (numbered 0 gs) (0 + i)) ls) (rw (← s) meant)))

-- the names of arguments
name-any : (w : Text) (n : Option Text) (ts : List Text) (b : Bool)
    → list_any (bytes_eq w) ts ≡ b
    → list_any (bytes_eq w) (cons_option n ts) ≡ (option_map_or (bytes_eq w) n false || b)
name-any w None ts b e = e
name-any w (Some v) ts b e = ap (λ c. bytes_eq w v || c) e

any-names : (w : Text) (m : ℕ) (gs : List FormatArgument)
    → list_any (bytes_eq w) (names (numbered m gs)) ≡ list_any (has_name w) gs
any-names w m [] = refl
any-names w m (g ∷ gs) = name-any w g.name (names (numbered (suc m) gs)) (list_any (has_name w) gs)
    (any-names w (suc m) gs)

has-any : (w : Text) (gs : List FormatArgument) → list_any (has_name w) gs ≡ true
    → Any (λ g. g.name ≡ Some w) gs
has-any w gs e = let a = Any-from_list_any (has_name w) gs e in
    (a.0, a.1, a.2, a.3, name-is (a.1).name w a.4)

any-has : (w : Text) (gs : List FormatArgument) → Any (λ g. g.name ≡ Some w) gs
    → list_any (has_name w) gs ≡ true
any-has w gs a = list_any-from_Any (has_name w) gs (a.0, a.1, a.2, a.3, is-name (a.1).name w a.4)

-- uses that are met
met-one : (captures : Bool) (gs : List FormatArgument) (u : Use) → is_far (length gs) u ≡ false
    → is_unknown captures (names (numbered 0 gs)) u ≡ false → IsMet captures gs u
met-one captures gs (ByIndex n) e f = leb-false (length gs) n e
met-one captures gs (ByName w) e f =
    elim (or_cases captures (list_any (bytes_eq w) (names (numbered 0 gs)))
    (not-false (captures || list_any (bytes_eq w) (names (numbered 0 gs))) f)) [
      | inl c ↦ inl c
      | inr c ↦ inr (has-any w gs (sym (any-names w 0 gs) ∙ c))
    ]

one-far : (captures : Bool) (gs : List FormatArgument) (u : Use) → IsMet captures gs u
    → is_far (length gs) u ≡ false
one-far captures gs (ByIndex n) h = lt-leb (length gs) n h
one-far captures gs (ByName w) h = refl

one-unknown : (captures : Bool) (gs : List FormatArgument) (u : Use) → IsMet captures gs u
    → is_unknown captures (names (numbered 0 gs)) u ≡ false
one-unknown captures gs (ByIndex n) h = refl
one-unknown captures gs (ByName w) (inl c) =
    not_from_true (captures || list_any (bytes_eq w) (names (numbered 0 gs)))
    (or_left captures (list_any (bytes_eq w) (names (numbered 0 gs))) c)
one-unknown captures gs (ByName w) (inr c) =
    not_from_true (captures || list_any (bytes_eq w) (names (numbered 0 gs)))
    (or_right captures (list_any (bytes_eq w) (names (numbered 0 gs)))
    (any-names w 0 gs ∙ any-has w gs c))

pub met-of : (captures : Bool) (gs : List FormatArgument) (us : List Use)
    → list_any (is_far (length gs)) us ≡ false
    → list_any (is_unknown captures (names (numbered 0 gs))) us ≡ false
    → AllByRecursion (IsMet captures gs) us
met-of captures gs [] e f = tt
met-of captures gs (u ∷ us) e f =
    let far = or_parts (is_far (length gs) u) (list_any (is_far (length gs)) us) e in
    let known = or_parts (is_unknown captures (names (numbered 0 gs)) u)
    (list_any (is_unknown captures (names (numbered 0 gs))) us) f in
    (met-one captures gs u far.0 known.0, met-of captures gs us far.1 known.1)

pub of-met-far : (captures : Bool) (gs : List FormatArgument) (us : List Use)
    → AllByRecursion (IsMet captures gs) us → list_any (is_far (length gs)) us ≡ false
of-met-far captures gs [] h = refl
of-met-far captures gs (u ∷ us) h = none-passes (is_far (length gs)) u us
    (one-far captures gs u h.0) (of-met-far captures gs us h.1)

pub of-met-known : (captures : Bool) (gs : List FormatArgument) (us : List Use)
    → AllByRecursion (IsMet captures gs) us
    → list_any (is_unknown captures (names (numbered 0 gs))) us ≡ false
of-met-known captures gs [] h = refl
of-met-known captures gs (u ∷ us) h = none-passes (is_unknown captures (names (numbered 0 gs))) u us
    (one-unknown captures gs u h.0) (of-met-known captures gs us h.1)
