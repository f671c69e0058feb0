use Rattle.drawn_lines.proofs.PositionLaws.{line-is}
use Rattle.drawn_lines.proofs.laws.lines.Goals as goal

pub returns : goal.returns
returns c = line-is
