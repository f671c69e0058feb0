-- Names, calls and tokens of a file, one after the other.
use Prim.Native.Char.{code}
use Rattle.std.proofs.Common.{◌≡◌, ◌<◌, ◌≤◌, ◌+◌, ◌-◌, ◌++◌, ◌⊎◌, ℕ, List, [], ◌∷◌, Option, Some}
use Rattle.std.proofs.Common.{None, true, zero, suc, inl, inr, refl, sym, ap, ◌∙◌, arith, length}
use Rattle.std.proofs.Common.{slice_index_or, subst}
use Rattle.std.specs.Prelude.{Bool, Contains, IfSome, IsFalse, IsTrue, codes, false, is_some}
use Rattle.std.specs.Prelude.{nat_lt, ◌&&◌, ◌||◌}
use Rattle.std.proofs.lemmas.Bool.{and_parts, cases_lt, false≢true}
use Rattle.std.proofs.lemmas.List.{get_or_default}
use Rattle.std.proofs.lemmas.List.Elements.{Contains-push_cases}
use Rattle.std.proofs.lemmas.Option.{none-some, same_Some, slice_get_past}
use Rattle.rust_trees.specs.Leaves.{Leaf}
use Rattle.rust_trees.specs.Forests.{IsPair}
use Rattle.format_calls.specs.Marks.{is_mark}
use Rattle.format_calls.specs.declared.listing.Call.{Call}
use Rattle.format_calls.specs.Rows.{Entry, entry}
use Rattle.format_calls.specs.declared.table.Row.{Row}
use Rattle.format_calls.specs.declared.table.Rule.{Rule}
use Rattle.macro_owners.specs.Arms.{Says}
use Rattle.macro_owners.specs.declared.given.Given.{Given}
use Rattle.macro_owners.specs.Given.{AreGiven, IsDefinedAs, given_name, is_definition}
use Rattle.macro_owners.specs.Words.{is_written}
use Rattle.macro_owners.specs.Own.{HasOwn, IsInSight, IsKnown, IsOwn, hides, is_call_of, is_same}

-- Each of the first n of these is so.
abbrev pub EachBefore : {X : Type 0} → (X → Type 0) → List X → ℕ → Type 0
EachBefore {X = X} P xs n = (k : ℕ) → (d : X) → k < n → P (slice_index_or xs k d)

-- The name that g gives is not the word n, but if it is that token.
abbrev pub IsOther : List Leaf → ℕ → Given → Type 0
IsOther xs n g = IsTrue (is_same xs g.name n) → g.name ≡ n

-- The name that g gives is not the word n, if `!` stands before it.
abbrev pub IsUnlike : List Leaf → ℕ → Given → Type 0
IsUnlike xs n g = IsTrue (is_mark (code "!") xs (g.name - 1)) → IsFalse (is_same xs g.name n)

-- If the name of this call stands between two tokens, it is of a known macro.
abbrev pub IsKnownWithin : List Leaf → ℕ → ℕ → Call → Type 0
IsKnownWithin xs from to c = from < c.name → c.name < to → IsKnown xs c.name

-- The token i gives the name n no other macro, and begins a call of it only between n and `end`.
abbrev pub IsClear : List Leaf → ℕ → ℕ → ℕ → Type 0
IsClear xs n end i = IsFalse (hides xs n i) × (IsTrue (is_call_of xs n i) → (n < i) × (i < end))

pub each-none : {X : Type 0} (P : X → Type 0) (xs : List X) → EachBefore P xs 0
each-none P xs = λ k d l. absurd (omega (arith, l))

pub each-more : {X : Type 0} (P : X → Type 0) (xs : List X) (n : ℕ) (e : X) → n < length xs
    → P (slice_index_or xs n e) → EachBefore P xs n → EachBefore P xs (n + 1)
each-more {X = X} P xs n e lt p h = λ k d l. by_order k d l (cases_lt k n)
  where
    by_order : (k : ℕ) (d : X) → k < n + 1 → (k < n) ⊎ (n ≤ k) → P (slice_index_or xs k d)
    by_order k d l (inl m) = h k d m
    by_order k d l (inr m) = subst (λ j. P (slice_index_or xs j d)) {x = n} (omega (arith, l, m))
        (subst P (get_or_default xs n e d lt) p)

pub each-all : {X : Type 0} (P : X → Type 0) (xs : List X) (n : ℕ) (x : X) → length xs ≤ n
    → EachBefore P xs n → Contains xs x → P x
each-all P xs n x l h c = let m = c.1 in subst P c.2 (h c.0 x (omega (arith, l, m)))

-- A token gives the name that g is.
abbrev pub IsGivenBy : List Call → List Leaf → Given → Type 0
IsGivenBy cs xs g = (k : ℕ) × (given_name xs k ≡ Some g.name) × IfSome g.rule (IsDefinedAs cs xs k)

given-at : (cs : List Call) (xs : List Leaf) (i : ℕ) (gs : List Given) (k : ℕ) (g : Given)
    → AreGiven cs xs i gs → k < length gs → slice_index_or gs k g ≡ g → IsGivenBy cs xs g
given-at cs xs i [] k g a l e = absurd (omega (arith, l))
given-at cs xs i (h ∷ gs) zero g a l e = subst (λ v. IsGivenBy cs xs v) e (a.0, a.3, a.4)
given-at cs xs i (h ∷ gs) (suc k) g a l e =
    given-at cs xs (a.0 + 1) gs k g a.5 (omega (arith, l)) e

pub given-by : (cs : List Call) (xs : List Leaf) (gs : List Given) (g : Given)
    → AreGiven cs xs 0 gs → Contains gs g → IsGivenBy cs xs g
given-by cs xs gs g a c = given-at cs xs 0 gs c.0 g a c.1 c.2

-- Among these names is one whose token is the token n.
abbrev pub HasName : List Given → ℕ → Type 0
HasName gs n = (g : Given) × Contains gs g × (g.name ≡ n)

has-more : (h : Given) (gs : List Given) (n : ℕ) → HasName gs n → HasName (h ∷ gs) n
has-more h gs n a = let c = a.1 in let l = c.1 in (a.0, (suc c.0, omega (arith, l), c.2), a.2)

pub given-among : (cs : List Call) (xs : List Leaf) (i : ℕ) (gs : List Given) (j n : ℕ)
    → AreGiven cs xs i gs → i ≤ j → given_name xs j ≡ Some n → HasName gs n
given-among cs xs i [] j n a l e = absurd (none-some _ (sym (a j l) ∙ e))
given-among cs xs i (g ∷ gs) j n a l e = by_order (cases_lt j a.0) (cases_lt a.0 j)
    (λ m. given-among cs xs (a.0 + 1) gs j n a.5 m e)
  where
    by_order : (j < a.0) ⊎ (a.0 ≤ j) → (a.0 < j) ⊎ (j ≤ a.0)
        → (a.0 + 1 ≤ j → HasName gs n) → HasName (g ∷ gs) n
    by_order (inl m) o f = absurd (none-some _ (sym (a.2 j l m) ∙ e))
    by_order (inr m) (inl o) f = has-more g gs n (f (omega (arith, o)))
    by_order (inr m) (inr o) f = (
      g,
      (0, omega arith, refl),
      same_Some _ _ (sym a.3
          ∙ (ap (λ k. given_name xs k) {x = a.0} {y = j} (omega (arith, m, o)) ∙ e)),
    )

pub alone-all : (cs : List Call) (xs : List Leaf) (gs : List Given) (n i j : ℕ)
    → AreGiven cs xs 0 gs → ((g : Given) → Contains gs g → IsOther xs n g)
    → given_name xs i ≡ Some j → IsTrue (is_same xs j n) → j ≡ n
alone-all cs xs gs n i j a h e s =
    let g = given-among cs xs 0 gs i j a (omega arith) e in
    sym g.2 ∙ h g.0 g.1 (subst (λ k. IsTrue (is_same xs k n)) (sym g.2) s)

defined-name : (xs : List Leaf) (i : ℕ) → is_definition xs i ≡ true
    → given_name xs i ≡ Some (i + 2)
defined-name xs i e = rw e refl

bang-after : (xs : List Leaf) (i : ℕ) → IsTrue (is_definition xs i)
    → IsTrue (is_mark (code "!") xs (i + 1))
bang-after xs i e = (and_parts _ _ (and_parts _ _ e).1).0

pub undefined-all : (cs : List Call) (xs : List Leaf) (gs : List Given) (n i : ℕ)
    → AreGiven cs xs 0 gs → ((g : Given) → Contains gs g → IsUnlike xs n g)
    → IsTrue (is_definition xs i) → IsFalse (is_same xs (i + 2) n)
undefined-all cs xs gs n i a h e =
    let g = given-among cs xs 0 gs i (i + 2) a (omega arith) (defined-name xs i e) in
    let q = g.2 in
    subst (λ k. IsFalse (is_same xs k n)) q
    (h g.0 g.1 (subst (λ k. IsTrue (is_mark (code "!") xs k)) {x = i + 1} {y = g.0.name - 1}
    (omega (arith, q)) (bang-after xs i e)))

defined-of : (ds : List Call) (xs : List Leaf) (k : ℕ) (o : Option Rule) → is_some o ≡ true
    → IfSome o (IsDefinedAs ds xs k) → (r : Rule) × IsDefinedAs ds xs k r
defined-of ds xs k None e h = absurd (false≢true e)
defined-of ds xs k (Some r) e h = (r, h)

-- A macro of the file.
pub owns : (cs ds : List Call) (xs : List Leaf) (gs : List Given) (g : Given) (r : Rule)
    (o close : ℕ) → AreGiven ds xs 0 gs → Contains gs g → is_some g.rule ≡ true → o ≡ g.name + 1
    → IsPair xs o close → Says cs xs o close r
    → ((c : Call) → Contains cs c → IsKnownWithin xs o close c)
    → ((i j : ℕ) → given_name xs i ≡ Some j → IsTrue (is_same xs j g.name) → j ≡ g.name)
    → ((i : ℕ) → IsTrue (is_call_of xs g.name i) → IsInSight xs g.name i)
    → ((i : ℕ) → IsFalse (hides xs g.name i)) → IsOwn cs xs g.name r
owns cs ds xs gs g r o close a m e f p s known alone calls shown =
    let by = given-by ds xs gs g a m in
    let k = by.0 in
    let d = (defined-of ds xs k g.rule e by.2).1 in
    let n : g.name ≡ k + 2 = sym (same_Some _ _ (sym (defined-name xs k d.is_definition) ∙ by.1)) in
    let at : o ≡ k + 3 = omega (arith, f, n) in
    record {
      start = k;
      is_name = n;
      is_defined = record {
        close = close;
        is_definition = d.is_definition;
        is_unconditional = d.is_unconditional;
        is_pair = subst (λ v. IsPair xs v close) at p;
        says = subst (λ v. Says cs xs v close r) at s;
      };
      are_known = λ c h l. known c h (omega (arith, at, l));
      is_alone = alone;
      calls = calls;
      is_shown = shown;
    }

-- The innermost delimiters so far.
pub ends-more : (xs : List Leaf) (index opening end new : ℕ) → new ≤ end
    → ((b : ℕ) → IsPair xs opening b → index < b → new ≤ b)
    → ((a b : ℕ) → IsPair xs a b → a < opening → index < b → end ≤ b)
    → (a b : ℕ) → IsPair xs a b → a < opening + 1 → index < b → new ≤ b
ends-more xs index opening end new w f h a b p l m = by_order (cases_lt a opening)
  where
    by_order : (a < opening) ⊎ (opening ≤ a) → new ≤ b
    by_order (inl k) = let q = h a b p k m in omega (arith, w, q)
    by_order (inr k) =
        f b (subst (λ v. IsPair xs v b) {x = a} {y = opening} (omega (arith, k, l)) p) m

pub clear-more : (xs : List Leaf) (n end i : ℕ) → IsClear xs n end i
    → ((j : ℕ) → j < i → IsClear xs n end j) → (j : ℕ) → j < i + 1 → IsClear xs n end j
clear-more xs n end i p h j l = by_order (cases_lt j i)
  where
    by_order : (j < i) ⊎ (i ≤ j) → IsClear xs n end j
    by_order (inl k) = h j k
    by_order (inr k) = subst (λ v. IsClear xs n end v) {x = i} (omega (arith, k, l)) p

neither : (p q r s : Bool) → q ≡ false → r ≡ false → ((p && q) || (r && s)) ≡ false
neither true q r s e f = rw (e, f) refl
neither false q r s e f = rw f refl

written-past : (xs : List Leaf) (i : ℕ) (w : List ℕ) → length xs ≤ i → is_written xs i w ≡ false
written-past xs i w l = rw (slice_get_past xs i l) refl

mark-past : (m : ℕ) (xs : List Leaf) (i : ℕ) → length xs ≤ i → is_mark m xs i ≡ false
mark-past m xs i l = rw (slice_get_past xs i l) refl

-- The tokens after the last one are clear.
clear-past : (xs : List Leaf) (n end i : ℕ) → length xs ≤ i → IsClear xs n end i
clear-past xs n end i l = (
  neither (nat_lt n i) _ _ _ (written-past xs i (codes "macro_use") l)
      (written-past xs i (codes "macro_rules") l),
  λ c. absurd (false≢true (sym (mark-past (code "!") xs (i + 1) (omega (arith, l)))
      ∙ (and_parts _ _ c).0)),
)

pub clear-all : (xs : List Leaf) (n end i : ℕ) → length xs ≤ i
    → ((j : ℕ) → j < i → IsClear xs n end j) → (j : ℕ) → IsClear xs n end j
clear-all xs n end i l h j = by_order (cases_lt j i)
  where
    by_order : (j < i) ⊎ (i ≤ j) → IsClear xs n end j
    by_order (inl k) = h j k
    by_order (inr k) = clear-past xs n end j (omega (arith, k, l))

pub in-sight : (xs : List Leaf) (n end i : ℕ)
    → ((a b : ℕ) → IsPair xs a b → a < n → n < b → end ≤ b) → IsClear xs n end i
    → IsTrue (is_call_of xs n i) → IsInSight xs n i
in-sight xs n end i h c t = let w = c.1 t in let l = w.1 in record {
  follows = w.0;
  is_inside = λ a b p k m. let q = h a b p k m in omega (arith, l, q);
}

pub rows-more : (es : List Entry) (xs : List Leaf) (rows old : List Row) (w : Row)
    → rows ≡ old ++ w ∷ [] → HasOwn es xs (entry w)
    → ((v : Row) → Contains old v → HasOwn es xs (entry v))
    → (v : Row) → Contains rows v → HasOwn es xs (entry v)
rows-more es xs rows old w e h f v c =
    by_last (Contains-push_cases old w v (subst (λ l. Contains l v) e c))
  where
    by_last : Contains old v ⊎ (w ≡ v) → HasOwn es xs (entry v)
    by_last (inl k) = f v k
    by_last (inr g) = subst (λ u. HasOwn es xs (entry u)) g h
