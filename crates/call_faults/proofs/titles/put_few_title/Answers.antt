use Rattle.std.proofs.Common.{append_assoc}
use Rattle.call_faults.proofs.titles.put_few_title.Goals as goal

pub returns : goal.returns
returns c =
    rw (
      c.in_ok-put_count.ensures,
      c.in_ok-push_str.ensures.bytes,
      c.in_ok-put_noun.ensures,
      c.in_ok-put_number.ensures,
    ) (simp append_assoc)
