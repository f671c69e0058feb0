use Rattle.std.proofs.Common.{◌+◌, codes, decimal, string_bytes}
use Rattle.drawn_faults.specs.Diagnostics.{arrow}
use Rattle.drawn_lines.specs.Glyphs.{run}
use Rattle.shown_text.specs.Shown.{shown}
use Rattle.shown_text.specs.declared.gate.Kind.TheVariants.{Line}
use Rattle.drawn_lines.specs.Painting.{painted_text}
use Rattle.drawn_lines.specs.declared.paint.Style.TheVariants.{Secondary}
use Rattle.drawn_lines.proofs.Joining.{join8}
use Rattle.drawn_faults.proofs.notes.put_arrow.Goals as goal

pub returns : goal.returns
unfolding arrow
returns c =
    let f = c.args.frame.now in
    rw (
      c.in_ok-push_str-3.ensures.bytes,
      c.in_ok-put_decimal-2.ensures,
      c.in_ok-push_str-2.ensures.bytes,
      c.in_ok-put_decimal.ensures,
      c.in_ok-push_str.ensures.bytes,
      c.in_ok-put_shown.ensures.written,
      c.in_ok-put_painted_text.ensures,
      c.in_ok-put_run.ensures,
    )
    (join8 (string_bytes c.args.out.now) (run f.gutter.columns 32)
    (painted_text f.gutter.palette Secondary (codes "--> ")) (shown Line f.picture.now.path.now)
    (codes ":") (decimal (f.picture.now.line_start + c.args.at.line)) (codes ":")
    (decimal (c.args.at.chars + 1)) (codes "\n"))
