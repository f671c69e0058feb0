use Rattle.std.proofs.Common.{chars, sym, ap, ◌∙◌, refl}
use Rattle.rustc_parse_format.specs.Views.{seen_mode}
use Rattle.rustc_parse_format.specs.State.{State}
use Rattle.flat_reading.proofs.Worlds.{sourceless_plain}
use Rattle.flat_reading.proofs.reading.mode_with_escapes.Goals as goal

pub returns-then-not-is_source_literal-clause-plain
    : goal.returns-then-not-is_source_literal-clause-plain
returns-then-not-is_source_literal-clause-plain c = λ start.
    let a = c.args.task.now in
    rw start
    (sourceless_plain (seen_mode a.mode) (chars a.input.now) a.style _ a.appended_newline _ refl
    (ap (λ (s : State). s.world.has_source) (sym start) ∙ sym c.is_source_literal.ensures
    ∙ c.if-not-is_source_literal.true))

pub returns-else-may_have_escapes-clause-plain : goal.returns-else-may_have_escapes-clause-plain
returns-else-may_have_escapes-clause-plain c =
    λ start. rw start (c.may_have_escapes.ensures c.if-may_have_escapes.false)
