-- A file has one list of tokens.
use Rattle.std.proofs.Common.{◌≡◌, ◌∙◌, ℕ, List, ap, chars, sym}
use Rattle.rust_tokens.proofs.FileLaws.{file-once}
use Rattle.rust_trees.specs.Leaves.{Leaf, leaves}
use Rattle.source_lint.specs.Files.{AreLeaves}

pub same-leaves : (bs : List ℕ) (xs ys : List Leaf) → AreLeaves bs xs → AreLeaves bs ys → xs ≡ ys
same-leaves bs xs ys a b =
    a.2 ∙ (ap (λ t. leaves 0 t) (file-once (chars bs) a.0 b.0 a.1 b.1) ∙ sym b.2)
