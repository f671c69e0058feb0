use Rattle.drawn_lines.proofs.PositionLaws.{spot-is}
use Rattle.drawn_lines.proofs.laws.spots.Goals as goal

pub returns : goal.returns
returns c = spot-is
