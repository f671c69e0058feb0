use Rattle.std.proofs.Common.{◌∙◌, ◌++◌, ap, append_assoc, string_bytes}
use Rattle.std.specs.Prelude.{false, true}
use Rattle.serde_json.specs.Data.{no_items, no_members}
use Rattle.emit.specs.Sarif.{run_end, run_json}
use Rattle.emit.specs.Texts.{array_text, json_text, object_text}
use Rattle.emit.proofs.Texts.{one-after, regroup, whole}
use Rattle.emit.proofs.sarif.put_sarif_start.Goals as goal

pub returns : goal.returns
returns c results done =
    let run = json_text (run_json c.args.version.now c.args.rules.now results done) in
    let end = array_text true no_items ++ object_text true no_members in
    whole _ _ _ (
    regroup (string_bytes c.put_run_start.new.out) (array_text false results)
    (object_text true (run_end done)) end
    ∙ (ap (λ t. t ++ end) (c.in_ok-put_run_start.ensures results done)
    ∙ (append_assoc (string_bytes c.push_str.new.self) run end
    ∙ one-after _ _ (object_text true no_members) _ c.in_ok-push_str.ensures.bytes
    (c.in_ok-put_key.ensures _ no_members
    ∙ (c.in_ok-put_text-2.ensures _ ∙ c.in_ok-put_text.ensures _)))))
