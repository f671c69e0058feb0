-- The fault in the arguments of a call among other tokens.
use Rattle.std.proofs.Common.{◌≡◌, ◌<◌, ◌≤◌, ◌+◌, ◌-◌, ℕ, zero, suc, Bool, List, [], ◌∷◌, refl, ap}
use Rattle.std.proofs.Common.{sym, ◌∙◌, length, arith, map, drop, take, Some}
use Rattle.std.specs.Prelude.{◌&&◌, ◌==◌, codes, not, slice_get}
use Rattle.std.specs.List.{AllByRecursion}
use Rattle.std.specs.Str.{bytes_eq}
use Rattle.std.proofs.lemmas.Bool.Decides.{Decides-eqb, Decides-like, same_from_decides}
use Rattle.rust_trees.specs.Leaves.{Leaf}
use Rattle.format_calls.specs.declared.split.Argument.{Argument}
use Rattle.format_calls.specs.declared.table.Rule.{Rule}
use Rattle.format_calls.specs.Arguments.{tokens_of}
use Rattle.call_forms.specs.Forms.{ends, form_here, form_if, lacks_string}
use Rattle.call_forms.proofs.Embedding.{Embeds}
use Rattle.call_forms.proofs.MovedArguments.{LiesIn, shifted}

-- an argument is as long as before
pub same-length : (g m n : ℕ) → ((g + m) == (g + n)) ≡ (m == n)
same-length g m n = same_from_decides {P = m ≡ n} _ _
    (Decides-like ((g + m) == (g + n)) (λ e. omega (arith, e)) (λ e. ap (λ v. g + v) e)
    (Decides-eqb (g + m) (g + n)))
    (Decides-eqb m n)

-- the tokens from one on
pub from-here : (xs : List Leaf) (i : ℕ) (x : Leaf) → slice_get xs i ≡ Some x
    → drop i xs ≡ x ∷ drop (suc i) xs
from-here [] i x e = absurd cc
from-here (y ∷ ys) zero x e = let h : y ≡ x = cc in ap (λ v. v ∷ ys) h
from-here (y ∷ ys) (suc i) x e = from-here ys i x e

pub token-at : (xs : List Leaf) (i : ℕ) → i < length xs → (x : Leaf) × (slice_get xs i ≡ Some x)
token-at [] i h = absurd (omega (arith, h))
token-at (y ∷ ys) zero h = (y, refl)
token-at (y ∷ ys) (suc i) h = token-at ys i (omega (arith, h))

-- tokens that stand further on
run-same : (xs ys : List Leaf) (g n i : ℕ) → Embeds xs ys g → i + n ≤ length xs
    → take n (drop (g + i) ys) ≡ take n (drop i xs)
run-same xs ys g zero i e h = refl
run-same xs ys g (suc n) i e h =
    let t = token-at xs i (omega (arith, h)) in
    let a = from-here xs i t.0 t.1 in
    let b = from-here ys (g + i) t.0 (e.same i (omega (arith, h)) ∙ t.1) in
    let k : suc (g + i) ≡ g + suc i = omega arith in
    ap (take (suc n)) b
    ∙ (ap (λ v. t.0 ∷ take n (drop v ys)) k
    ∙ (ap (λ v. t.0 ∷ v) (run-same xs ys g n (suc i) e (omega (arith, h)))
    ∙ sym (ap (take (suc n)) a)))

pub tokens-same : (xs ys : List Leaf) (g from to : ℕ) (a : Argument) → Embeds xs ys g
    → to < length xs → LiesIn from to a → tokens_of ys (shifted g a) ≡ tokens_of xs a
tokens-same xs ys g from to a e w l =
    let r = l.rises in
    let s = l.ends in
    let d : (g + a.end) - (g + a.start) ≡ a.end - a.start = omega arith in
    ap (λ n. take n (drop (g + a.start) ys)) d
    ∙ run-same xs ys g (a.end - a.start) a.start e (omega (arith, r, s, w))

pub parts-same : (xs ys : List Leaf) (g from to : ℕ) (bs : List Argument) → Embeds xs ys g
    → to < length xs → AllByRecursion (λ a. LiesIn from to a) bs
    → map (tokens_of ys) (map (shifted g) bs) ≡ map (tokens_of xs) bs
parts-same xs ys g from to [] e w l = refl
parts-same xs ys g from to (a ∷ bs) e w l =
    ap (λ p. p ∷ map (tokens_of ys) (map (shifted g) bs)) (tokens-same xs ys g from to a e w l.0)
    ∙ ap (λ ps. tokens_of xs a ∷ ps) (parts-same xs ys g from to bs e w l.1)

lacks-same : (w : List ℕ) (g close : ℕ) (bs : List Argument)
    → lacks_string w (g + close) (map (shifted g) bs) ≡ lacks_string w close bs
lacks-same w g close [] = refl
lacks-same w g close (a ∷ []) =
    ap (λ t. bytes_eq w (codes "write") && not t) (same-length g a.end close)
lacks-same w g close (a ∷ b ∷ bs) = refl

ends-same : (g close : ℕ) (bs : List Argument)
    → ends (g + close) (map (shifted g) bs) ≡ ends close bs
unfolding ends
ends-same g close [] = refl
ends-same g close (b ∷ bs) =
    ap (λ t. t ∷ ends (g + close) (map (shifted g) bs)) (same-length g b.end close)
    ∙ ap (λ v. (b.end == close) ∷ v) (ends-same g close bs)

-- The same is wrong.
pub form-same : (is_new : Bool) (w : List ℕ) (r : Rule) (xs ys : List Leaf) (g from to : ℕ)
    (bs : List Argument) → Embeds xs ys g → to < length xs
    → AllByRecursion (λ a. LiesIn from to a) bs
    → form_here is_new w r (g + to) (map (shifted g) bs) (map (tokens_of ys) (map (shifted g) bs))
    ≡ form_here is_new w r to bs (map (tokens_of xs) bs)
form-same is_new w r xs ys g from to bs e h l =
    ap (λ ps. form_here is_new w r (g + to) (map (shifted g) bs) ps)
    (parts-same xs ys g from to bs e h l)
    ∙ (ap (λ b. form_if is_new w r b (ends (g + to) (map (shifted g) bs)) (map (tokens_of xs) bs))
    (lacks-same w g to bs)
    ∙ ap (λ v. form_if is_new w r (lacks_string w to bs) v (map (tokens_of xs) bs))
    (ends-same g to bs))
