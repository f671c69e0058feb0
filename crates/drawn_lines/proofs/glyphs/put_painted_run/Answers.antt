use Rattle.std.proofs.Common.{◌++◌, ◌∙◌, append_assoc, string_bytes}
use Rattle.drawn_lines.specs.Glyphs.{run}
use Rattle.drawn_lines.specs.Painting.{closing, opening}
use Rattle.drawn_lines.proofs.GlyphLemmas.{run-some}
use Rattle.drawn_lines.proofs.glyphs.put_painted_run.Goals as goal

pub returns-in_ok-put_closing : goal.returns-in_ok-put_closing
returns-in_ok-put_closing c =
    let o = string_bytes c.args.out.now in
    let a = opening c.args.palette c.args.style in
    let r = run c.args.count c.args.c in
    let z = closing c.args.palette in
    rw (
      run-some c.args.count c.args.c c.if-count-gt0.true,
      c.in_ok-put_closing.ensures,
      c.in_ok-put_run.ensures,
      c.in_ok-put_opening.ensures,
    )
    (append_assoc (o ++ a) r z ∙ append_assoc o a (r ++ z))
