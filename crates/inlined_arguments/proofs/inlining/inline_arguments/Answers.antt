use Rattle.std.proofs.Common.{◌∙◌, sym}
use Rattle.inlined_arguments.specs.Views.{seen_call}
use Rattle.inlined_arguments.proofs.Keeping.{exactly-ok}
use Rattle.inlined_arguments.proofs.inlining.inline_arguments.Goals as goal

pub returns-clause-exactly : goal.returns-clause-exactly
returns-clause-exactly c = exactly-ok c.args.allows_mixed (seen_call c.args.call)
    c.inline_with.result (sym c.condition.ensures ∙ c.in_default.is) c.inline_with.ensures.inlined
    c.inline_with.ensures.unchanged
