use Rattle.std.proofs.Common.{◌≤◌, vec_len}
use Rattle.std.specs.Io.KnownBytes.{Consumes}
use Rattle.piece_listing.specs.Program.{limit}
use Rattle.piece_listing.proofs.run.read_input.Given as goal

-- All bytes that were read are kept. Each read returned a byte, and the limit is not exceeded.
abbrev pub invariant-loop : goal.invariant-loop
invariant-loop g l =
    let remaining = g.R.Read.remaining in
    record {
      few : l.counter ≤ vec_len l.bytes;
      short : vec_len l.bytes ≤ limit;
      taken : Consumes (remaining l.fn.reader) (remaining l.reader) l.bytes.items;
    }
