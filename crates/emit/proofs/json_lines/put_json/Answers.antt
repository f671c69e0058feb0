use Rattle.std.proofs.Common.{◌≡◌, ◌∙◌, ◌++◌, append_assoc, string_bytes}
use Rattle.std.specs.Prelude.{codes}
use Rattle.emit.specs.Json.{message_json}
use Rattle.emit.specs.Texts.{json_text}
use Rattle.emit.proofs.Texts.{value-after, whole}
use Rattle.emit.proofs.json_lines.put_json.Goals as goal

pub returns-clause-written : goal.returns-clause-written
returns-clause-written c =
    let m = message_json c.args.message.now c.args.spans.now c.args.children.now
    c.args.rendered.now in
    let body : string_bytes c.put_below.new.out
    ≡ string_bytes c.args.out.now ++ json_text m = rw (← c.level_name.ensures)
    (whole _ _ _ (c.in_ok-put_below.ensures
    ∙ (c.in_ok-put_text-3.ensures _
    ∙ (value-after _ _ _ _ c.in_ok-put_code.ensures (c.in_ok-put_key.ensures _ _)
    ∙ (c.in_ok-put_text-2.ensures _ ∙ c.in_ok-put_text.ensures _))))) in
    rw (c.in_ok-push_str.ensures.bytes, body)
    (append_assoc (string_bytes c.args.out.now) (json_text m) (codes "\n"))
