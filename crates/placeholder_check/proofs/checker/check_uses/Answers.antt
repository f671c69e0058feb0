use Rattle.placeholder_check.proofs.Reports.{reported}
use Rattle.placeholder_check.proofs.Unique.{one-report}
use Rattle.placeholder_check.proofs.checker.check_uses.Goals as goal

pub returns-clause-report : goal.returns-clause-report
returns-clause-report c us held =
    reported us c.args.uses.now c.in_ok-later_set.later_set c.args.positional c.args.names.now _ _ _
    _
    held c.in_ok-later_set.ensures.known
    c.in_ok-missing_index.ensures.members c.in_ok-unused_index.ensures.lacked
    (rw c.deref.ensures.value at c.in_ok-missing_name.ensures.lacked)
    c.in_ok-unused_name.ensures.unused

pub returns-clause-only : goal.returns-clause-only
returns-clause-only c us held s h = one-report _ _ _ s _ h (returns-clause-report c us held)
