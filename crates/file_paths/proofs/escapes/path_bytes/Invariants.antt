use Rattle.std.proofs.Common.{◌≡◌, ◌++◌, length}
use Rattle.file_paths.specs.Paths.{path_bytes}
use Rattle.file_paths.proofs.escapes.path_bytes.Given as goal

-- The path so far, and then that of the rest, is all.
abbrev pub invariant-loop-byte : goal.invariant-loop-byte
invariant-loop-byte l = l.path.items ++ path_bytes l.rest ≡ path_bytes l.fn.text

abbrev pub decreases-loop-byte : goal.decreases-loop-byte
decreases-loop-byte l = length l.rest
