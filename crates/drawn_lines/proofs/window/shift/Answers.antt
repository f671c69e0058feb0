use Rattle.std.proofs.Common.{sym}
use Rattle.drawn_lines.specs.Windows.{shift}
use Rattle.drawn_lines.proofs.WindowLemmas.{left_out-none}
use Rattle.drawn_lines.proofs.window.shift.Goals as goal

pub returns-then-frame-eq0 : goal.returns-then-frame-eq0
unfolding shift
returns-then-frame-eq0 c = sym (left_out-none _ _ c.if-frame-eq0.true)
