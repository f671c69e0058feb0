use Rattle.std.proofs.Common.{append_assoc, chars, string_bytes}
use Rattle.text_faults.specs.Words.{quoted_name}
use Rattle.call_faults.proofs.titles.put_named.Goals as goal

pub returns : goal.returns
returns c = rw (c.in_ok-put_quoted.ensures, c.in_ok-push_str.ensures.bytes)
    (append_assoc (string_bytes c.args.out.now) c.args.text.now
    (quoted_name (chars c.args.name.now)))
