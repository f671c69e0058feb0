use Rattle.std.proofs.Common.{arith, ◌∙◌, sym}
use Rattle.format_tokens.specs.Labels.{passes}
use Rattle.format_tokens.proofs.Widths.{at_end, at_other, more, within}
use Rattle.format_tokens.proofs.parts.run_width.Goals as goal

pub returns-then-not-passes : goal.returns-then-not-passes
returns-then-not-passes c =
    at_other (passes c.args.run) _ _ _ _ _ c.loop-c.invariant c.in-Some.ensures.steps.0
    (sym c.passes.ensures ∙ c.if-not-passes.true)

pub overflow_add-width : goal.overflow_add-width
overflow_add-width c =
    omega (
      arith,
      c.len_utf8-width.ensures.value,
      within
          (passes c.args.run) c.args.text.now _ _ _ _ c.utf8.text c.loop-c.invariant
          c.in-Some.ensures.steps.0,
    )

pub loop-c-preserved : goal.loop-c-preserved
loop-c-preserved c =
    rw c.len_utf8-width.ensures.value
    (more (passes c.args.run) _ _ _ _ _ c.loop-c.invariant c.in-Some.ensures.steps.0
    (sym c.passes.ensures ∙ c.if-not-passes.false))

pub returns : goal.returns
returns c = at_end (passes c.args.run) _ _ _ c.loop-c.invariant c.in_default.ensures.steps.0.0
