use Rattle.std.proofs.Common.{◌≡◌, take}
use Rattle.std.specs.Fmt.{is_char_start}
use Rattle.std.specs.List.{count_by}
use Rattle.rustc_parse_format.proofs.parser.steps.character_count.Given as goal

abbrev pub invariant-loop-i : goal.invariant-loop-i
invariant-loop-i l = l.count ≡ count_by is_char_start (take l.i l.bytes)
