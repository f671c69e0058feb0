-- Numbers that are found once for all tokens.
use Rattle.std.proofs.Common.{◌≡◌, ◌<◌, ◌≤◌, ◌+◌, ◌-◌, ◌++◌, ◌∙◌, ◌⊎◌, ℕ, zero, suc, Bool, true}
use Rattle.std.proofs.Common.{false, List, [], ◌∷◌, Some, inl, inr, refl, ap, arith, sym}
use Rattle.std.proofs.Common.{subst, length, length-drop, drop, min, take}
use Rattle.std.specs.Prelude.{◌||◌, nat_lt, slice_get, if◌then◌else◌}
use Rattle.std.specs.List.{list_any}
use Rattle.std.proofs.lemmas.Bool.{cases_lt, le-ltb, lt-ltb, true≢false}
use Rattle.std.proofs.lemmas.List.{take_all}
use Rattle.std.proofs.lemmas.Option.{none-some}
use Rattle.rust_trees.specs.Leaves.{Leaf}
use Rattle.format_calls.specs.declared.part.Target.{Target}
use Rattle.format_calls.specs.declared.split.Argument.{Argument}
use Rattle.format_calls.specs.Arguments.{tokens_of}
use Rattle.format_calls.specs.Searches.{AreLast, AreLastFrom, IsLast, is_target}
use Rattle.format_calls.proofs.Counting.{or-join, or-nothing}

-- One more token.
any-more : (w : Target) (ys : List Leaf) (n : ℕ) (x : Leaf) → slice_get ys n ≡ Some x
    → list_any (is_target w) (take (suc n) ys)
    ≡ (list_any (is_target w) (take n ys) || is_target w x)
any-more w [] n x e = absurd cc
any-more w (y ∷ ys) zero x e =
    let h : y ≡ x = cc in ap (λ v. is_target w v || false) h ∙ or-nothing (is_target w x)
any-more w (y ∷ ys) (suc n) x e =
    ap (λ b. is_target w y || b) (any-more w ys n x e)
    ∙ or-join (is_target w y) (list_any (is_target w) (take n ys)) (is_target w x)

get-dropped : (xs : List Leaf) (from n k : ℕ) → k ≡ from + n
    → slice_get (drop from xs) n ≡ slice_get xs k
get-dropped xs zero n k e = ap (λ v. slice_get xs v) (omega (arith, e))
get-dropped [] (suc from) n k e = refl
get-dropped (y ∷ ys) (suc from) n zero e = absurd (omega (arith, e))
get-dropped (y ∷ ys) (suc from) n (suc k) e = get-dropped ys from n k (omega (arith, e))

any-none : (w : Target) (xs : List Leaf) (n from : ℕ) → n ≡ 0
    → list_any (is_target w) (take n (drop from xs)) ≡ false
any-none w xs n from e = ap (λ m. list_any (is_target w) (take m (drop from xs))) e

or-true : (a : Bool) → (a || true) ≡ true
or-true true = refl
or-true false = refl

or-parts : (a b : Bool) → (a || b) ≡ false → (a ≡ false) × (b ≡ false)
or-parts true b e = absurd (true≢false e)
or-parts false b e = (refl, e)

-- The number after a token that is wanted, and after one that is not.
pub last-more : (w : Target) (xs : List Leaf) (to last n : ℕ) (x : Leaf) (b : Bool)
    → slice_get xs to ≡ Some x → b ≡ is_target w x → IsLast w xs to last → last ≤ to
    → n ≡ (if b then to + 1 else last) → IsLast w xs (to + 1) n
last-more w xs to last n x b e h l k m from = by_place (cases_lt from (to + 1)) b h m
  where
    on : from ≤ to → list_any (is_target w) (take (to + 1 - from) (drop from xs))
        ≡ (nat_lt from last || is_target w x)
    on r =
        let i : to + 1 - from ≡ suc (to - from) = omega (arith, r) in
        let j : to ≡ from + (to - from) = omega (arith, r) in
        ap (λ v. list_any (is_target w) (take v (drop from xs))) i
        ∙ (any-more w (drop from xs) (to - from) x (get-dropped xs from (to - from) to j ∙ e)
        ∙ ap (λ v. v || is_target w x) (l from))

    by_place : (from < to + 1) ⊎ (to + 1 ≤ from) → (b : Bool) → b ≡ is_target w x
        → n ≡ (if b then to + 1 else last)
        → list_any (is_target w) (take (to + 1 - from) (drop from xs)) ≡ nat_lt from n
    by_place (inl r) true f g =
        on (omega (arith, r)) ∙ (ap (λ v. nat_lt from last || v) (sym f)
        ∙ (or-true (nat_lt from last) ∙ sym (lt-ltb from n (omega (arith, r, g)))))
    by_place (inl r) false f g =
        on (omega (arith, r)) ∙ (ap (λ v. nat_lt from last || v) (sym f)
        ∙ (or-nothing (nat_lt from last) ∙ ap (λ v. nat_lt from v) (sym g)))
    by_place (inr r) true f g =
        any-none w xs (to + 1 - from) from (omega (arith, r))
        ∙ sym (le-ltb from n (omega (arith, r, g)))
    by_place (inr r) false f g =
        any-none w xs (to + 1 - from) from (omega (arith, r))
        ∙ sym (le-ltb from n (omega (arith, r, g, k)))

pub last-bound : (to last n : ℕ) (b : Bool) → last ≤ to → n ≡ (if b then to + 1 else last)
    → n ≤ to + 1
last-bound to last n true l e = omega (arith, e)
last-bound to last n false l e = omega (arith, l, e)

pub last-push : (w : Target) (xs : List Leaf) (at n : ℕ) (ns : List ℕ) → AreLastFrom w xs at ns
    → IsLast w xs (at + length ns) n → AreLastFrom w xs at (ns ++ n ∷ [])
last-push w xs at n [] h l =
    let e : at + 0 ≡ at = omega arith in (subst (λ v. IsLast w xs v n) e l, tt)
last-push w xs at n (m ∷ ns) h l =
    let e : at + length (m ∷ ns) ≡ at + 1 + length ns = omega arith in
    (h.0, last-push w xs (at + 1) n ns h.1 (subst (λ v. IsLast w xs v n) e l))

last-get : (w : Target) (xs : List Leaf) (at i n : ℕ) (ns : List ℕ) → AreLastFrom w xs at ns
    → slice_get ns i ≡ Some n → IsLast w xs (at + i) n
last-get w xs at i n [] h e = absurd cc
last-get w xs at zero n (m ∷ ns) h e =
    let k : m ≡ n = cc in
    let j : at ≡ at + 0 = omega arith in subst (λ v. IsLast w xs v n) j (rw (← k) h.0)
last-get w xs at (suc i) n (m ∷ ns) h e =
    let j : at + 1 + i ≡ at + suc i = omega arith in
    subst (λ v. IsLast w xs v n) j (last-get w xs (at + 1) i n ns h.1 e)

get-last : (w : Target) (xs : List Leaf) (k n : ℕ) (ns : List ℕ) → AreLastFrom w xs 0 ns
    → slice_get ns k ≡ Some n → IsLast w xs k n
get-last w xs k n ns h e =
    let i : 0 + k ≡ k = omega arith in
    subst (λ v. IsLast w xs v n) i (last-get w xs 0 k n ns h e)

-- Whether a wanted token stands in an argument, by the number for its end, or for that of all
-- tokens.
pub found-in : (w : Target) (xs : List Leaf) (ns : List ℕ) (a : Argument) (k n : ℕ)
    → AreLast w xs ns → slice_get ns k ≡ Some n → k ≡ min a.end (length ns - 1)
    → nat_lt a.start n ≡ list_any (is_target w) (tokens_of xs a)
found-in w xs ns a k n last e m = by_case last.cases (cases_lt a.end (length xs))
  where
    by_case : ((ns ≡ []) × (list_any (is_target w) xs ≡ false))
        ⊎ ((length ns ≡ length xs + 1) × AreLastFrom w xs 0 ns)
        → (a.end < length xs) ⊎ (length xs ≤ a.end)
        → nat_lt a.start n ≡ list_any (is_target w) (tokens_of xs a)
    by_case (inl h) l = absurd (none-some n (ap (λ v. slice_get v k) (sym h.0) ∙ e))
    by_case (inr h) (inl l) =
        let i : k ≡ a.end = omega (arith, h.0, m, l) in
        sym (get-last w xs k n ns h.1 e a.start)
        ∙ ap (λ v. list_any (is_target w) (take (v - a.start) (drop a.start xs))) i
    by_case (inr h) (inr l) =
        let d = length-drop a.start xs in
        let i : k ≡ length xs = omega (arith, h.0, m, l) in
        sym (get-last w xs k n ns h.1 e a.start)
        ∙ ap (list_any (is_target w))
        (take_all (k - a.start) (drop a.start xs) (omega (arith, d, i))
        ∙ sym (take_all (a.end - a.start) (drop a.start xs) (omega (arith, d, l))))

none-taken : (w : Target) (n : ℕ) (xs : List Leaf) → list_any (is_target w) xs ≡ false
    → list_any (is_target w) (take n xs) ≡ false
none-taken w zero xs e = refl
none-taken w (suc n) [] e = refl
none-taken w (suc n) (x ∷ xs) e =
    let h = or-parts (is_target w x) (list_any (is_target w) xs) e in
    ap (λ b. b || list_any (is_target w) (take n xs)) h.0 ∙ none-taken w n xs h.1

none-dropped : (w : Target) (n : ℕ) (xs : List Leaf) → list_any (is_target w) xs ≡ false
    → list_any (is_target w) (drop n xs) ≡ false
none-dropped w zero xs e = e
none-dropped w (suc n) [] e = refl
none-dropped w (suc n) (x ∷ xs) e =
    none-dropped w n xs (or-parts (is_target w x) (list_any (is_target w) xs) e).1

-- Nothing stands in an argument for whose end there is no number.
pub found-nowhere : (w : Target) (xs : List Leaf) (ns : List ℕ) (a : Argument) (k : ℕ)
    → AreLast w xs ns → length ns ≤ k → k ≡ min a.end (length ns - 1)
    → false ≡ list_any (is_target w) (tokens_of xs a)
found-nowhere w xs ns a k last l m = by_case last.cases
  where
    by_case : ((ns ≡ []) × (list_any (is_target w) xs ≡ false))
        ⊎ ((length ns ≡ length xs + 1) × AreLastFrom w xs 0 ns)
        → false ≡ list_any (is_target w) (tokens_of xs a)
    by_case (inl h) =
        sym (none-taken w (a.end - a.start) (drop a.start xs) (none-dropped w a.start xs h.1))
    by_case (inr h) = absurd (omega (arith, h.0, l, m))
