use Rattle.rustc_parse_format.proofs.Literals.Ends.{ends-after, ends-plain}
use Rattle.rustc_parse_format.proofs.literal.skip_alike.Goals as goal

pub returns : goal.returns
returns c =
    ends-after _ _ _ _ _ _ c.skip_byte_escapes.ensures (ends-plain _ _ _ _ c.skip_plain.ensures)
