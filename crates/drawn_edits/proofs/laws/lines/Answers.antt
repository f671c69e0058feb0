use Rattle.drawn_edits.proofs.ShownLines.{shown-lines}
use Rattle.drawn_edits.proofs.laws.lines.Goals as goal

pub returns : goal.returns
returns c = shown-lines
