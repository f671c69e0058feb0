use Rattle.std.proofs.Common.{append_assoc}
use Rattle.lint_program.proofs.Lines.{place-line}
use Rattle.lint_program.proofs.messages.put_place_failure.Goals as goal

pub returns-clause-written : goal.returns-clause-written
returns-clause-written c =
    rw (
      c.in_ok-push_str-2.ensures.bytes,
      c.in_ok-put_shown.ensures.written,
      c.in_ok-push_str.ensures.bytes,
      c.in_ok-put_place.ensures,
      c.in_ok-put_opening.ensures,
    )
    (simp append_assoc)

pub returns-in_err-put_opening-clause-line : goal.returns-in_err-put_opening-clause-line
returns-in_err-put_opening-clause-line c = place-line c.args.path.now c.args.place c.args.words.now

pub returns-in_err-put_place-clause-line : goal.returns-in_err-put_place-clause-line
returns-in_err-put_place-clause-line c = place-line c.args.path.now c.args.place c.args.words.now

pub returns-in_err-push_str-clause-line : goal.returns-in_err-push_str-clause-line
returns-in_err-push_str-clause-line c = place-line c.args.path.now c.args.place c.args.words.now

pub returns-in_err-put_shown-clause-line : goal.returns-in_err-put_shown-clause-line
returns-in_err-put_shown-clause-line c = place-line c.args.path.now c.args.place c.args.words.now

pub returns-in_err-push_str-2-clause-line : goal.returns-in_err-push_str-2-clause-line
returns-in_err-push_str-2-clause-line c = place-line c.args.path.now c.args.place c.args.words.now

pub returns-clause-line : goal.returns-clause-line
returns-clause-line c = place-line c.args.path.now c.args.place c.args.words.now
