use Rattle.std.proofs.Common.{◌≡◌, ◌++◌, drop, flat_map}
use Rattle.std.specs.Prelude.{string_bytes}
use Rattle.emit.specs.Escapes.{uri_byte}
use Rattle.emit.proofs.escapes.put_uri.Given as goal

-- The text written, and then that of the rest, is all.
abbrev pub invariant-loop-byte : goal.invariant-loop-byte
invariant-loop-byte l = string_bytes l.out ++ flat_map uri_byte (drop l.byte-index l.byte-items)
    ≡ string_bytes l.initial.out ++ flat_map uri_byte l.byte-items
