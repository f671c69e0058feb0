use Rattle.std.proofs.Common.{append_assoc}
use Rattle.emit.proofs.Harmless.{command-line}
use Rattle.emit.proofs.github.put_github.Goals as goal

pub returns-clause-written : goal.returns-clause-written
returns-clause-written c =
    rw (
      c.in_ok-push_str-6.ensures.bytes,
      c.in_ok-put_shown-3.ensures.written,
      c.in_ok-push_str-5.ensures.bytes,
      c.in_ok-put_shown-2.ensures.written,
      c.in_ok-push_str-4.ensures.bytes,
      c.in_ok-put_places.ensures,
      c.in_ok-put_shown.ensures.written,
      c.in_ok-push_str-3.ensures.bytes,
      c.in_ok-push_str-2.ensures.bytes,
      c.in_ok-push_str.ensures.bytes,
      c.level_name.ensures,
    )
    (simp (append_assoc))

pub returns-in_err-push_str-clause-line : goal.returns-in_err-push_str-clause-line
returns-in_err-push_str-clause-line c = command-line c.args.message.now

pub returns-in_err-push_str-2-clause-line : goal.returns-in_err-push_str-2-clause-line
returns-in_err-push_str-2-clause-line c = command-line c.args.message.now

pub returns-in_err-push_str-3-clause-line : goal.returns-in_err-push_str-3-clause-line
returns-in_err-push_str-3-clause-line c = command-line c.args.message.now

pub returns-in_err-put_shown-clause-line : goal.returns-in_err-put_shown-clause-line
returns-in_err-put_shown-clause-line c = command-line c.args.message.now

pub returns-in_err-put_places-clause-line : goal.returns-in_err-put_places-clause-line
returns-in_err-put_places-clause-line c = command-line c.args.message.now

pub returns-in_err-push_str-4-clause-line : goal.returns-in_err-push_str-4-clause-line
returns-in_err-push_str-4-clause-line c = command-line c.args.message.now

pub returns-in_err-put_shown-2-clause-line : goal.returns-in_err-put_shown-2-clause-line
returns-in_err-put_shown-2-clause-line c = command-line c.args.message.now

pub returns-in_err-push_str-5-clause-line : goal.returns-in_err-push_str-5-clause-line
returns-in_err-push_str-5-clause-line c = command-line c.args.message.now

pub returns-in_err-put_shown-3-clause-line : goal.returns-in_err-put_shown-3-clause-line
returns-in_err-put_shown-3-clause-line c = command-line c.args.message.now

pub returns-in_err-push_str-6-clause-line : goal.returns-in_err-push_str-6-clause-line
returns-in_err-push_str-6-clause-line c = command-line c.args.message.now

pub returns-clause-line : goal.returns-clause-line
returns-clause-line c = command-line c.args.message.now
