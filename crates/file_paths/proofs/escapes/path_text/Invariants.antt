use Rattle.std.proofs.Common.{◌≡◌, ◌++◌, List, ℕ, length, string_bytes, true}
use Rattle.std.specs.List.{list_all}
use Rattle.file_paths.specs.Paths.{is_not_nul, path_bytes}
use Rattle.file_paths.proofs.escapes.path_text.Given as goal

-- The text so far stands for the path before the rest, whatever text is after it.
abbrev pub invariant-loop-byte : goal.invariant-loop-byte
invariant-loop-byte l = (done : List ℕ) × (done ++ l.rest ≡ l.fn.path)
    × ((more : List ℕ) → list_all is_not_nul l.fn.path ≡ true
    → path_bytes (string_bytes l.text ++ more) ≡ done ++ path_bytes more)

abbrev pub decreases-loop-byte : goal.decreases-loop-byte
decreases-loop-byte l = length l.rest
