use Rattle.std.proofs.Common.{refl, sym, ◌∙◌}
use Rattle.std.proofs.lemmas.Str.{IsCharBoundary-start}
use Rattle.rust_tokens.specs.Classes.{passes}
use Rattle.rust_tokens.proofs.AsciiRuns.{run-more}
use Rattle.rust_tokens.proofs.texts.ascii_width.Goals as goal

pub loop-i-init : goal.loop-i-init
loop-i-init c = record { at = IsCharBoundary-start c.args.text.now c.utf8.text; same = refl }

pub loop-i-preserved : goal.loop-i-preserved
loop-i-preserved c =
    let passes_here = rw c.as_bytes-bytes.ensures.value at c.passes_byte.ensures in
    let more = run-more (passes c.args.class) c.args.text.now c.loop-i.i c.utf8.text
    c.loop-i.invariant.at (rw (← c.as_bytes-bytes.ensures.value) c.loop-i-test.true)
    (sym passes_here ∙ c.if-not-passes_byte.false) in
    record { at = more.0; same = more.1 ∙ c.loop-i.invariant.same }
