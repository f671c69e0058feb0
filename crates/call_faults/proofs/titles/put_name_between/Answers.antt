use Rattle.std.proofs.Common.{◌++◌, ◌∙◌, append_assoc, ap, chars, string_bytes}
use Rattle.text_faults.specs.Words.{quoted_name}
use Rattle.call_faults.proofs.titles.put_name_between.Goals as goal

pub returns : goal.returns
returns c =
    let o = string_bytes c.args.out.now in
    let b = c.args.prefix.now in
    let q = quoted_name (chars c.args.name.now) in
    let a = c.args.suffix.now in
    rw (c.in_ok-push_str.ensures.bytes, c.in_ok-put_named.ensures)
    (append_assoc o (b ++ q) a ∙ ap (λ xs. o ++ xs) (append_assoc b q a))
