use Rattle.lint_program.proofs.Lines.{failure-line}
use Rattle.lint_program.proofs.messages.put_failure.Goals as goal

pub returns-in_err-put_opening-clause-line : goal.returns-in_err-put_opening-clause-line
returns-in_err-put_opening-clause-line c =
    failure-line c.args.path.now c.args.fault c.args.words.now

pub returns-in_err-push_str-clause-line : goal.returns-in_err-push_str-clause-line
returns-in_err-push_str-clause-line c =
    failure-line c.args.path.now c.args.fault c.args.words.now

pub returns-in_err-put_shown-clause-line : goal.returns-in_err-put_shown-clause-line
returns-in_err-put_shown-clause-line c =
    failure-line c.args.path.now c.args.fault c.args.words.now

pub returns-in_err-push_str-2-clause-line : goal.returns-in_err-push_str-2-clause-line
returns-in_err-push_str-2-clause-line c =
    failure-line c.args.path.now c.args.fault c.args.words.now

pub returns-clause-line : goal.returns-clause-line
returns-clause-line c =
    failure-line c.args.path.now c.args.fault c.args.words.now
