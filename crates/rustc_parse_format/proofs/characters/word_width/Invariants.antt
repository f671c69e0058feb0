use Rattle.std.proofs.Common.{◌≡◌, true, take}
use Rattle.std.specs.List.{list_all}
use Rattle.rustc_parse_format.specs.Bytes.{is_word_byte}
use Rattle.rustc_parse_format.proofs.characters.word_width.Given as goal

abbrev pub invariant-loop-i : goal.invariant-loop-i
invariant-loop-i l = list_all is_word_byte (take l.i l.bytes) ≡ true
