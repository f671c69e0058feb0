use Rattle.std.proofs.Common.{arith}
use Rattle.rustc_parse_format.proofs.Bytes.WordBytes.{first_word}
use Rattle.rustc_parse_format.proofs.characters.begins_word.Goals as goal
use Rattle.rustc_parse_format.proofs.characters.begins_word.Goals.{then-is_letter, else-is_letter}

pub returns-then-bytes-lt128 : goal.returns-then-bytes-lt128
returns-then-bytes-lt128 c = grind (arith, first_word c.args.text.now c.utf8.text)
