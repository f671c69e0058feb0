use Rattle.std.proofs.Common.{◌∷◌, [], ap, append_assoc, ◌∙◌, ◌++◌, string_bytes}
use Rattle.std.proofs.lemmas.Str.{encodes-chars}
use Rattle.call_faults.proofs.titles.put_quoted.Goals as goal

pub returns : goal.returns
unfolding lib.Utf8.encode
returns c =
    let o = string_bytes c.args.out.now in
    let n = c.args.name.now in
    rw (
      encodes-chars c.args.name.now c.utf8.name,
      c.in_ok-push-2.ensures.bytes,
      c.in_ok-push_str.ensures.bytes,
      c.in_ok-push.ensures.bytes,
    ) (append_assoc (o ++ 96 ∷ []) n (96 ∷ []) ∙ append_assoc o (96 ∷ []) (n ++ 96 ∷ []))
