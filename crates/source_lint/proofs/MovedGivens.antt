-- The arguments of a call among other tokens, as its placeholders refer to them.
use Rattle.std.proofs.Common.{◌≡◌, ◌<◌, ◌+◌, ◌-◌, ℕ, zero, suc, List, [], ◌∷◌, None, refl, ap, ◌∙◌}
use Rattle.std.proofs.Common.{length, arith, map, drop}
use Rattle.std.specs.Prelude.{◌&&◌, ◌==◌, not, nat_lt, slice_get, option_and_then}
use Rattle.std.specs.Prelude.{if◌then◌else◌}
use Rattle.std.specs.List.{AllByRecursion}
use Rattle.std.proofs.lemmas.List.{drop-map}
use Rattle.rust_trees.specs.Leaves.{Leaf}
use Rattle.format_calls.specs.declared.split.Argument.{Argument}
use Rattle.asm_lint.specs.Names.{name_of}
use Rattle.source_lint.specs.Givens.{given_argument, variable, variable_of}
use Rattle.source_lint.specs.Readings.{arguments_before}
use Rattle.call_forms.proofs.Embedding.{Embeds}
use Rattle.call_forms.proofs.MovedArguments.{LiesIn, less-same, shifted}
use Rattle.asm_lint.proofs.MovedStrings.{name-same, size-same}
use Rattle.source_lint.proofs.ArgumentsBefore.{before-at, before-lie}

variable-same : (xs ys : List Leaf) (g from to : ℕ) (a : Argument) → Embeds xs ys g
    → to < length xs → LiesIn from to a → variable_of ys (shifted g a) ≡ variable_of xs a
variable-same xs ys g from to a e h l =
    let s = l.stops in
    ap (λ o. if not a.is_named && (nat_lt (g + a.start) (g + a.end)
    && ((g + a.end) - (g + a.start)) == 1) then option_and_then variable o else None)
    (e.same a.start (omega (arith, h, s)))
    ∙ (ap (λ b. if not a.is_named && (b && ((g + a.end) - (g + a.start)) == 1)
    then option_and_then variable (slice_get xs a.start) else None) (less-same g a.start a.end)
    ∙ ap (λ b. if not a.is_named && (nat_lt a.start a.end && b)
    then option_and_then variable (slice_get xs a.start) else None) (size-same g a.start a.end))

given-same : (xs ys : List Leaf) (g from to : ℕ) (a : Argument) → Embeds xs ys g → to < length xs
    → LiesIn from to a → given_argument ys (shifted g a) ≡ given_argument xs a
given-same xs ys g from to a e h l =
    ap (λ n. record { name = n; variable = variable_of ys (shifted g a) })
    (name-same xs ys g from to a e h l)
    ∙ ap (λ v. record { name = name_of xs a; variable = v })
    (variable-same xs ys g from to a e h l)

givens-same : (xs ys : List Leaf) (g from to : ℕ) (bs : List Argument) → Embeds xs ys g
    → to < length xs → AllByRecursion (λ a. LiesIn from to a) bs
    → map (given_argument ys) (map (shifted g) bs) ≡ map (given_argument xs) bs
givens-same xs ys g from to [] e h l = refl
givens-same xs ys g from to (a ∷ bs) e h l =
    ap (λ v. v ∷ map (given_argument ys) (map (shifted g) bs)) (given-same xs ys g from to a e h
    l.0)
    ∙ ap (λ v. given_argument xs a ∷ v) (givens-same xs ys g from to bs e h l.1)

pub lies-drop : (from to n : ℕ) (bs : List Argument) → AllByRecursion (λ a. LiesIn from to a) bs
    → AllByRecursion (λ a. LiesIn from to a) (drop n bs)
lies-drop from to zero bs l = l
lies-drop from to (suc n) [] l = tt
lies-drop from to (suc n) (a ∷ bs) l = lies-drop from to n bs l.1

pub others-same : (xs ys : List Leaf) (g from to end n : ℕ) (bs : List Argument) → Embeds xs ys g
    → to < length xs → AllByRecursion (λ a. LiesIn from to a) bs
    → map (given_argument ys) (arguments_before (g + end) (drop n (map (shifted g) bs)))
    ≡ map (given_argument xs) (arguments_before end (drop n bs))
others-same xs ys g from to end n bs e h l =
    ap (λ v. map (given_argument ys) (arguments_before (g + end) v)) (drop-map (shifted g) n bs)
    ∙ (ap (map (given_argument ys)) (before-at g end (drop n bs))
    ∙ givens-same xs ys g from to (arguments_before end (drop n bs)) e h
    (before-lie from to end (drop n bs) (lies-drop from to n bs l)))
