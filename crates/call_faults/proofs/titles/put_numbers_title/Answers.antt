use Rattle.std.proofs.Common.{append_assoc}
use Rattle.call_faults.proofs.titles.put_numbers_title.Goals as goal

pub returns : goal.returns
unfolding lib.Utf8.encode
returns c =
    rw (
      c.in_ok-push-2.ensures.bytes,
      c.in_ok-put_count.ensures,
      c.in_ok-push_str-2.ensures.bytes,
      c.in_ok-put_numbers.ensures,
      c.in_ok-push.ensures.bytes,
      c.in_ok-put_noun.ensures,
      c.in_ok-push_str.ensures.bytes,
    ) (simp append_assoc)
