use Rattle.std.proofs.Common.{◌≡◌, ◌++◌, ℕ, List, [], length}
use Rattle.std.specs.Io.KnownBytes.{Appends}
use Rattle.piece_listing.proofs.run.write_whole.Given as goal

-- A prefix of the bytes has been written, and the rest is left.
abbrev pub invariant-loop-rest : goal.invariant-loop-rest
invariant-loop-rest g l =
    let contents = g.W.Write.contents in
    (written : List ℕ) × (l.bytes ≡ written ++ l.rest)
    × Appends (contents l.fn.writer) (contents l.writer) written
    × (l.bytes ≡ [] → l.writer ≡ l.fn.writer)

abbrev pub decreases-loop-rest : goal.decreases-loop-rest
decreases-loop-rest g l = length l.rest
