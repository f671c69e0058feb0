use Rattle.std.proofs.Common.{map}
use Rattle.rustc_parse_format.specs.Views.{seen_piece}
use Rattle.placeholder_check.specs.Uses.{uses}
use Rattle.placeholder_check.proofs.Unique.{one-report}
use Rattle.placeholder_check.proofs.checker.check.Goals as goal

pub returns-clause-report : goal.returns-clause-report
returns-clause-report c =
    c.in_ok-check_uses.ensures.report (uses (map seen_piece c.args.pieces.now))
    c.in_ok-uses.ensures.uses

pub returns-clause-only : goal.returns-clause-only
returns-clause-only c = λ s h. one-report _ _ _ s _ h (returns-clause-report c)
