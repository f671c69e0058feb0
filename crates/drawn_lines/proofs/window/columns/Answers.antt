use Rattle.std.proofs.Common.{◌≡◌, ◌+◌, ◌∙◌, ap, arith, chars, length, rules, sym}
use Rattle.drawn_lines.specs.Glyphs.{width}
use Rattle.drawn_lines.specs.Windows.{columns}
use Rattle.drawn_lines.proofs.WindowLemmas.{columns-printable}
use Rattle.drawn_lines.proofs.window.columns.Goals as goal

pub loop-c-init : goal.loop-c-init
loop-c-init c =
    let parts = c.split_printable.ensures in
    record {
      is_text = search rules;
      whole = sym (ap columns parts.parts ∙ columns-printable _ _ parts.pass);
      few = omega (arith, parts.lengths);
    }

pub loop-c-preserved : goal.loop-c-preserved
loop-c-preserved c =
    let parts = c.split_printable-in-Some.ensures in
    let first : columns (chars c.loop-c.rest.now)
    ≡ width c.in-Some.c + columns (chars c.in-Some.tail.now) =
    ap columns c.in-Some.ensures.parts in
    let front = c.split_printable-in-Some.result.0.now in
    let rest = chars c.split_printable-in-Some.result.1.now in
    let more : columns (chars c.in-Some.tail.now) ≡ length front + columns rest =
    ap columns parts.parts ∙ columns-printable front rest parts.pass in
    record {
      is_text = search rules;
      whole = omega (arith, c.loop-c.invariant.whole, c.width.ensures.value, first, more);
      few =
          omega (
            arith,
            c.loop-c.invariant.few,
            c.width.ensures.few,
            c.in-Some.ensures.shorter,
            parts.lengths,
          );
    }
