use Rattle.rustc_parse_format.proofs.Bytes.WordBytes.{letter_bit}
use Rattle.rustc_parse_format.proofs.characters.is_letter.Goals as goal

pub returns : goal.returns
returns c = rw c.is_ascii_lowercase.ensures.value (letter_bit c.args.byte c.ranges.byte.fits)
