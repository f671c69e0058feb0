use Rattle.std.proofs.Common.{◌∙◌}
use Rattle.rust_tokens.specs.Classes.{passes}
use Rattle.rust_tokens.proofs.AsciiRuns.{run-ends}
use Rattle.rust_tokens.proofs.texts.after_ascii_run.Goals as goal

pub returns : goal.returns
returns c =
    let width = c.ascii_width-width.ensures in
    let small = rw c.as_bytes.ensures.value at c.is_wide.ensures in
    rw c.range_from.ensures.value
    (run-ends (passes c.args.class) c.args.text.now c.ascii_width-width.result c.utf8.text
    width.at width.next (small c.if-is_wide.false) ∙ width.same)
