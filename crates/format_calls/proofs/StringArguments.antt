-- The first argument that is a string literal.
use Rattle.std.proofs.Common.{◌≡◌, ℕ, List, Some, false, true}
use Rattle.std.specs.Prelude.{get_or, slice_get}
use Rattle.std.proofs.lemmas.List.Quantifiers.{position-Some}
use Rattle.std.proofs.lemmas.Option.{slice_get-get_or}
use Rattle.rust_trees.specs.Leaves.{Leaf}
use Rattle.format_calls.specs.declared.split.Argument.{Argument}
use Rattle.format_calls.specs.Strings.{begins_text, first_text}

nothing : Argument
nothing = record { start = 0; end = 0; is_named = false }

pub text-found : (xs : List Leaf) (bs : List Argument) (n : ℕ) → first_text xs bs ≡ Some n
    → (a : Argument) × (slice_get bs n ≡ Some a) × (begins_text xs a ≡ true)
text-found xs bs n h =
    let p = position-Some (λ a. begins_text xs a) bs n nothing h in
    (get_or bs n nothing, slice_get-get_or bs n nothing p.0, p.1)
