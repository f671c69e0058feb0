-- Operands outside of pairs of delimiters.
use Rattle.std.proofs.Common.{◌≡◌, ◌<◌, ◌≤◌, ◌+◌, ◌-◌, ◌++◌, ◌∙◌, ◌⊎◌, ℕ, zero, suc, Bool, true}
use Rattle.std.proofs.Common.{false, List, [], ◌∷◌, Option, Some, None, inl, inr, refl, ap, arith}
use Rattle.std.proofs.Common.{sym, length, drop, take}
use Rattle.std.specs.Prelude.{◌&&◌, ◌||◌, ◌==◌, slice_get, if◌then◌else◌}
use Rattle.std.proofs.lemmas.Bool.{cases_lt}
use Rattle.std.proofs.lemmas.Bool.Decides.{nat_tests}
use Rattle.std.proofs.lemmas.List.{append_assoc, drop_all, length-append}
use Rattle.std.proofs.lemmas.Option.{none-some}
use Rattle.rust_trees.specs.Forests.{Empty, Forest, IsPair, IsWell, Pair, Token, spelling}
use Rattle.rust_trees.specs.Leaves.{Leaf, side}
use Rattle.rust_trees.specs.declared.sides.Delimiter.{Delimiter}
use Rattle.rust_trees.specs.declared.sides.Side.{Side}
use Rattle.rust_trees.specs.declared.sides.Side.TheVariants.{Opens, Closes, Neither}
use Rattle.format_calls.proofs.Parting.{get-shift}
use Rattle.call_forms.specs.Expressions.{closes_parentheses, depth_after, depth_by, ends_operand}
use Rattle.call_forms.specs.Expressions.{ends_pair, is_operand, next_operand}
use Rattle.call_forms.proofs.MovedForms.{from-here, same-length, token-at}

-- A token within delimiters.
inner-step : (n k : ℕ) (x : Leaf) (rest : List Leaf) → 0 < n
    → next_operand false n k (x ∷ rest)
    ≡ next_operand ((n == 1) && closes_parentheses (side x)) (depth_by n (side x)) (k + 1) rest
inner-step n k x rest h =
    let e : (n == 0) ≡ false = grind (arith, nat_tests) in
    ap (λ t. next_operand ((t && is_operand x) || ((n == 1) && closes_parentheses (side x)))
    (depth_after n x) (k + 1) rest) e

and-false : (b : Bool) → (b && false) ≡ false
and-false true = refl
and-false false = refl

-- The same where the token does not close a pair.
inner-on : (n m k : ℕ) (s : Side) (x : Leaf) (rest : List Leaf) → 0 < n → side x ≡ s
    → closes_parentheses s ≡ false → depth_by n s ≡ m
    → next_operand false n k (x ∷ rest) ≡ next_operand false m (k + 1) rest
inner-on n m k s x rest h e c d =
    inner-step n k x rest h
    ∙ (ap (λ s. next_operand ((n == 1) && closes_parentheses s) (depth_by n s) (k + 1) rest) e
    ∙ (ap (λ t. next_operand ((n == 1) && t) (depth_by n s) (k + 1) rest) c
    ∙ (ap (λ t. next_operand t (depth_by n s) (k + 1) rest) (and-false (n == 1))
    ∙ ap (λ v. next_operand false v (k + 1) rest) d)))

-- The same where it closes one within another one.
inner-off : (n k : ℕ) (d : Delimiter) (x : Leaf) (rest : List Leaf) → 0 < n → side x ≡ Closes d
    → next_operand false (n + 1) k (x ∷ rest) ≡ next_operand false n (k + 1) rest
inner-off n k d x rest h e =
    let m : n + 1 - 1 ≡ n = omega arith in
    let z : (n + 1 == 1) ≡ false = grind (arith, nat_tests) in
    inner-step (n + 1) k x rest (omega arith)
    ∙ (ap (λ t. next_operand (t && closes_parentheses (side x)) (depth_by (n + 1) (side x)) (k + 1)
    rest) z
    ∙ (ap (λ s. next_operand false (depth_by (n + 1) s) (k + 1) rest) e
    ∙ ap (λ v. next_operand false v (k + 1) rest) m))

-- Trees within delimiters.
inner-trees : (n k : ℕ) (f : Forest) (rest : List Leaf) → 0 < n → IsWell f
    → next_operand false n k (spelling f ++ rest)
    ≡ next_operand false n (k + length (spelling f)) rest
inner-trees n k Empty rest h w =
    let e : k ≡ k + 0 = omega arith in ap (λ v. next_operand false n v rest) e
inner-trees n k (Token x f) rest h w =
    let e : k + 1 + length (spelling f) ≡ k + suc (length (spelling f)) = omega arith in
    inner-on n n k Neither x (spelling f ++ rest) h w.0 refl refl
    ∙ (inner-trees n (k + 1) f rest h w.1
    ∙ ap (λ v. next_operand false n v rest) e)
inner-trees n k (Pair a f b g) rest h w =
    let l = length-append (spelling f) (b ∷ spelling g) in
    let e : k + 1 + length (spelling f) + 1 + length (spelling g)
    ≡ k + suc (length (spelling f ++ b ∷ spelling g)) = omega (arith, l) in
    inner-on n (n + 1) k (Opens w.0.0) a ((spelling f ++ b ∷ spelling g) ++ rest) h w.0.1 refl refl
    ∙ (ap (λ l. next_operand false (n + 1) (k + 1) l)
    (append_assoc (spelling f) (b ∷ spelling g) rest)
    ∙ (inner-trees (n + 1) (k + 1) f (b ∷ (spelling g ++ rest)) (omega (arith, h)) w.1
    ∙ (inner-off n (k + 1 + length (spelling f)) w.0.0 b (spelling g ++ rest) h w.0.2
    ∙ (inner-trees n (k + 1 + length (spelling f) + 1) g rest h w.2
    ∙ ap (λ v. next_operand false n v rest) e))))

-- A token that is no operand right after another one.
pub operand-step : (b : Bool) (d k : ℕ) (xs : List Leaf) (i end : ℕ) (x : Leaf) → i < end
    → slice_get xs i ≡ Some x → (b && is_operand x) ≡ false
    → next_operand b d k (take (end - i) (drop i xs))
    ≡ next_operand (ends_operand d x) (depth_after d x) (k + 1)
    (take (end - (i + 1)) (drop (i + 1) xs))
operand-step b d k xs i end x h e f =
    let n : end - i ≡ suc (end - (i + 1)) = omega (arith, h) in
    let l : suc i ≡ i + 1 = omega arith in
    ap (λ m. next_operand b d k (take m (drop i xs))) n
    ∙ (ap (λ v. next_operand b d k (take (suc (end - (i + 1))) v)) (from-here xs i x e)
    ∙ (ap (λ t. if t then Some k else next_operand (ends_operand d x) (depth_after d x) (k + 1)
    (take (end - (i + 1)) (drop (suc i) xs))) f
    ∙ ap (λ v. next_operand (ends_operand d x) (depth_after d x) (k + 1)
    (take (end - (i + 1)) (drop v xs))) l))

drop-past : (xs ys : List Leaf) (k n : ℕ) → k ≡ length xs + n → drop k (xs ++ ys) ≡ drop n ys
drop-past [] ys k n e = ap (λ v. drop v ys) (omega (arith, e))
drop-past (x ∷ xs) ys zero n e = absurd (omega (arith, e))
drop-past (x ∷ xs) ys (suc k) n e = drop-past xs ys k n (omega (arith, e))

take-past : (xs ys : List Leaf) (k n : ℕ) → k ≡ length xs + n
    → take k (xs ++ ys) ≡ xs ++ take n ys
take-past [] ys k n e = ap (λ v. take v ys) (omega (arith, e))
take-past (x ∷ xs) ys zero n e = absurd (omega (arith, e))
take-past (x ∷ xs) ys (suc k) n e = ap (λ v. x ∷ v) (take-past xs ys k n (omega (arith, e)))

-- The token that opens a pair.
pair-opening : (xs : List Leaf) (i j : ℕ) (p : IsPair xs i j) → slice_get xs i ≡ Some p.opening
pair-opening xs i j p =
    let e : i ≡ length p.before + 0 = let s = p.starts in omega (arith, s) in
    ap (λ v. slice_get v i) p.joins
    ∙ (ap (λ v. slice_get (p.before ++ p.opening ∷ (p.inside ++ p.closing ∷ p.after)) v) e
    ∙ get-shift p.before (p.opening ∷ (p.inside ++ p.closing ∷ p.after)) 0)

-- The token that closes a pair.
pair-closing : (xs : List Leaf) (i j : ℕ) (p : IsPair xs i j) → slice_get xs j ≡ Some p.closing
pair-closing xs i j p =
    let s = p.starts in
    let t = p.ends in
    let e : j ≡ length p.before + suc (length p.inside + 0) = omega (arith, s, t) in
    ap (λ v. slice_get v j) p.joins
    ∙ (ap (λ v. slice_get (p.before ++ p.opening ∷ (p.inside ++ p.closing ∷ p.after)) v) e
    ∙ (get-shift p.before (p.opening ∷ (p.inside ++ p.closing ∷ p.after))
    (suc (length p.inside + 0))
    ∙ get-shift p.inside (p.closing ∷ p.after) 0))

-- A pair of delimiters whose first one is no operand.
pub pair-step : (b : Bool) (d k : ℕ) (xs : List Leaf) (i j end : ℕ) (x : Leaf) → IsPair xs i j
    → j < end → slice_get xs i ≡ Some x → is_operand x ≡ false
    → next_operand b d k (take (end - i) (drop i xs))
    ≡ next_operand (ends_pair d (slice_get xs j)) d (k + (j + 1 - i))
    (take (end - (j + 1)) (drop (j + 1) xs))
pair-step b d k xs i j end x p h e f =
    let s = p.starts in
    let t = p.ends in
    let o : x ≡ p.opening = let q = sym e ∙ pair-opening xs i j p in cc in
    let m = end - (j + 1) in
    let tail = p.inside ++ p.closing ∷ p.after in
    let joins : xs ≡ p.before ++ p.opening ∷ tail = p.joins in
    let n : end - (i + 1) ≡ length p.inside + suc m = omega (arith, h, t) in
    let u : i + 1 ≡ length p.before + 1 = omega (arith, s) in
    let l : j + 1 ≡ length p.before + suc (length p.inside + 1) = omega (arith, s, t) in
    let g : (b && is_operand x) ≡ false = ap (λ v. b && v) f ∙ and-false b in
    let after : drop (j + 1) xs ≡ p.after =
    ap (λ v. drop (j + 1) v) joins
    ∙ (drop-past p.before (p.opening ∷ tail) (j + 1) (suc (length p.inside + 1)) l
    ∙ drop-past p.inside (p.closing ∷ p.after) (length p.inside + 1) 1 refl) in
    let c : d + 1 - 1 ≡ d = omega arith in
    let z : (d + 1 == 1) ≡ (d == 0) =
    let v : d + 1 ≡ 1 + d = omega arith in ap (λ w. w == 1) v ∙ same-length 1 d 0 in
    let r = ap length p.is_forest.spells in
    let q : k + 1 + length (spelling p.is_forest.forest) + 1 ≡ k + (j + 1 - i) =
    omega (arith, t, r) in
    let off : ends_operand d x ≡ false =
    ap (λ v. ((d == 0) && v) || ((d == 1) && closes_parentheses (side x))) f
    ∙ (ap (λ v. v || ((d == 1) && closes_parentheses (side x))) (and-false (d == 0))
    ∙ (ap (λ v. (d == 1) && closes_parentheses (side v)) o
    ∙ (ap (λ v. (d == 1) && closes_parentheses v) p.pairs.1 ∙ and-false (d == 1)))) in
    operand-step b d k xs i end x (omega (arith, h, t)) e g
    ∙ (ap (λ v. next_operand v (depth_after d x) (k + 1) (take (end - (i + 1)) (drop (i + 1) xs)))
    off
    ∙ (ap (λ v. next_operand false (depth_by d v) (k + 1)
    (take (end - (i + 1)) (drop (i + 1) xs)))
    (ap (λ v. side v) o ∙ p.pairs.1)
    ∙ (ap (λ v. next_operand false (d + 1) (k + 1) (take (end - (i + 1)) v))
    (ap (λ v. drop (i + 1) v) joins ∙ drop-past p.before (p.opening ∷ tail) (i + 1) 1 u)
    ∙ (ap (λ v. next_operand false (d + 1) (k + 1) v)
    (take-past p.inside (p.closing ∷ p.after) (end - (i + 1)) (suc m) n)
    ∙ (ap (λ v. next_operand false (d + 1) (k + 1) (v ++ p.closing ∷ take m p.after)) (sym
    p.is_forest.spells)
    ∙ (inner-trees (d + 1) (k + 1) p.is_forest.forest (p.closing ∷ take m p.after) (omega arith)
    p.is_forest.is_well
    ∙ (inner-step (d + 1) (k + 1 + length (spelling p.is_forest.forest)) p.closing
    (take m p.after) (omega arith)
    ∙ (ap (λ v. next_operand ((d + 1 == 1) && closes_parentheses (side p.closing))
    (depth_by (d + 1) v) (k + 1 + length (spelling p.is_forest.forest) + 1) (take m p.after))
    p.pairs.2
    ∙ (ap (λ v. next_operand (v && closes_parentheses (side p.closing)) (d + 1 - 1)
    (k + 1 + length (spelling p.is_forest.forest) + 1) (take m p.after)) z
    ∙ (ap (λ v. next_operand (ends_pair d (Some p.closing)) v
    (k + 1 + length (spelling p.is_forest.forest) + 1) (take m p.after)) c
    ∙ (ap (λ v. next_operand (ends_pair d (Some p.closing)) d v (take m p.after)) q
    ∙ (ap (λ v. next_operand (ends_pair d v) d (k + (j + 1 - i)) (take m p.after))
    (sym (pair-closing xs i j p))
    ∙ ap (λ v. next_operand (ends_pair d (slice_get xs j)) d (k + (j + 1 - i)) (take m v))
    (sym after)))))))))))))

none-taken : (n : ℕ) → take {A = Leaf} n [] ≡ []
none-taken zero = refl
none-taken (suc n) = refl

-- Where no token is left.
pub operand-none : (b : Bool) (d k : ℕ) (xs : List Leaf) (i n : ℕ) → length xs ≤ i
    → next_operand b d k (take n (drop i xs)) ≡ None
operand-none b d k xs i n h =
    ap (λ v. next_operand b d k v) (ap (λ v. take n v) (drop_all i xs h) ∙ none-taken n)

pub operand-end : (b : Bool) (d k : ℕ) (xs : List Leaf) (i n : ℕ)
    → ◌≡◌ {A = Option Leaf} None (slice_get xs i)
    → next_operand b d k (take n (drop i xs)) ≡ None
operand-end b d k xs i n e = by_place (cases_lt i (length xs))
  where
    by_place : (i < length xs) ⊎ (length xs ≤ i)
        → next_operand b d k (take n (drop i xs)) ≡ None
    by_place (inl h) = let t = token-at xs i h in absurd (none-some t.0 (e ∙ t.1))
    by_place (inr h) = operand-none b d k xs i n h

-- One token has none before it.
pub operand-short : (d k : ℕ) (xs : List Leaf) (i n : ℕ) → n < 2
    → next_operand false d k (take n (drop i xs)) ≡ None
operand-short d k xs i zero h = refl
operand-short d k xs i (suc (suc n)) h = absurd (omega (arith, h))
operand-short d k xs i (suc zero) h = by_rest (drop i xs)
  where
    by_rest : (ys : List Leaf) → next_operand false d k (take 1 ys) ≡ None
    by_rest [] = refl
    by_rest (y ∷ ys) = refl

-- An operand right after another one.
pub operand-found : (b : Bool) (d k : ℕ) (xs : List Leaf) (i end : ℕ) (x : Leaf) → i < end
    → slice_get xs i ≡ Some x → (b && is_operand x) ≡ true
    → next_operand b d k (take (end - i) (drop i xs)) ≡ Some k
operand-found b d k xs i end x h e f =
    let n : end - i ≡ suc (end - (i + 1)) = omega (arith, h) in
    ap (λ m. next_operand b d k (take m (drop i xs))) n
    ∙ (ap (λ v. next_operand b d k (take (suc (end - (i + 1))) v)) (from-here xs i x e)
    ∙ ap (λ t. if t then Some k else next_operand (ends_operand d x) (depth_after d x) (k + 1)
    (take (end - (i + 1)) (drop (suc i) xs))) f)

pub depth-step : (d i : ℕ) (x : Leaf) → d ≤ i → depth_after d x ≤ i + 1
depth-step d i x h = by_side (side x)
  where
    by_side : (s : Side) → depth_by d s ≤ i + 1
    by_side (Opens t) = omega (arith, h)
    by_side (Closes t) = omega (arith, h)
    by_side Neither = omega (arith, h)
