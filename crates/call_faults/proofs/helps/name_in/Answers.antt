use Rattle.std.proofs.Common.{refl}
use Rattle.std.proofs.lemmas.Str.{encodes-chars}
use Rattle.call_faults.proofs.helps.name_in.Goals as goal

pub returns : goal.returns
returns c =
    rw (
      encodes-chars c.args.name.now c.utf8.name,
      c.in_ok-push_str.ensures.bytes,
      c.after_name.ensures,
      c.in_ok-text.ensures.ok,
    ) refl
