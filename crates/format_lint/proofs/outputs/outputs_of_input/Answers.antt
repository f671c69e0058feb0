use Rattle.std.proofs.Common.{◌∙◌}
use Rattle.format_lint.specs.SeenLint.{seen_outputs, seen_source, seen_task}
use Rattle.format_lint.proofs.Harmless.{ok-weaker, shown-harmless}
use Rattle.format_lint.proofs.outputs.outputs_of_input.Goals as goal

pub returns-clause-outputs : goal.returns-clause-outputs
returns-clause-outputs c = (
  seen_source c.text_source.result,
  rw c.if-task.false (c.text_source.ensures.value
      (c.as_str.ensures.value ∙ c.in_ok-lines.ensures.ok)),
  c.in_ok-outputs_of.ensures,
)

pub returns-clause-harmless : goal.returns-clause-harmless
returns-clause-harmless c =
    shown-harmless (seen_task c.args.task) c.args.input.now (seen_source c.text_source.result)
    (seen_outputs c.in_ok-outputs_of.field-0)
    (rw c.if-task.false (c.text_source.ensures.value
    (c.as_str.ensures.value ∙ c.in_ok-lines.ensures.ok))) c.in_ok-outputs_of.ensures

pub returns-then-task-clause-harmless : goal.returns-then-task-clause-harmless
returns-then-task-clause-harmless c =
    ok-weaker c.outputs_of_literal.result
    (λ x h. shown-harmless (seen_task c.args.task) c.args.input.now h.0 (seen_outputs x)
    (rw c.if-task.true h.1) h.2) c.outputs_of_literal.ensures.outputs
