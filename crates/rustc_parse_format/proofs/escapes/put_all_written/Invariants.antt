use Rattle.std.proofs.Common.{◌≡◌, ◌++◌, chars, flat_map, length, string_bytes}
use Rattle.rustc_parse_format.specs.Escaping.{written_character}
use Rattle.rustc_parse_format.proofs.escapes.put_all_written.Given as goal

-- The characters written and then the rest are all of the text.
abbrev pub invariant-loop-c : goal.invariant-loop-c
invariant-loop-c l = string_bytes l.out ++ flat_map written_character l.rest
    ≡ string_bytes l.fn.out ++ flat_map written_character (chars l.fn.text)

abbrev pub decreases-loop-c : goal.decreases-loop-c
decreases-loop-c l = length l.rest
