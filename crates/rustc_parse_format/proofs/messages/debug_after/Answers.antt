use Rattle.std.proofs.Common.{refl}
use Rattle.std.proofs.lemmas.Str.{encodes-chars}
use Rattle.rustc_parse_format.proofs.messages.debug_after.Goals as goal

pub returns : goal.returns
returns c =
    rw (
      encodes-chars c.args.word.now c.utf8.word,
      c.in_ok-push_str-3.ensures.bytes,
      c.in_ok-push_str-2.ensures.bytes,
      c.in_ok-push_str.ensures.bytes,
      c.in_ok-text.ensures.bytes,
    ) refl
