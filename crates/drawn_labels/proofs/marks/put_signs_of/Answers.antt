use Rattle.std.proofs.Common.{[], append-nil}
use Rattle.drawn_labels.proofs.marks.put_signs_of.Goals as goal

pub returns : goal.returns
returns c =
    rw (c.style_of-style.ensures, c.saturating_sub-columns.ensures, append-nil)
    at (c.in_ok-put_run_at.ensures [])
