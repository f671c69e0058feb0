use Rattle.std.proofs.Common.{◌≡◌, ◌∙◌, ◌++◌, append_assoc, string_bytes}
use Rattle.std.specs.Prelude.{true}
use Rattle.emit.specs.Sarif.{run_end}
use Rattle.emit.specs.Texts.{object_text}
use Rattle.emit.proofs.Texts.{array-end, value-after}
use Rattle.emit.proofs.sarif.put_sarif_end.Goals as goal

pub returns : goal.returns
returns c =
    let run : string_bytes c.put_end.new.out
    ≡ string_bytes c.push_str.new.self ++ object_text true (run_end c.args.is_whole) =
    c.in_ok-put_end.ensures
    ∙ value-after _ _ _ _ c.in_ok-put_invocations.ensures (c.in_ok-put_key.ensures _ _) in
    rw (
      c.in_ok-push_str-3.ensures.bytes,
      c.in_ok-put_end-2.ensures,
      c.in_ok-push_str-2.ensures.bytes,
      run,
      c.in_ok-push_str.ensures.bytes,
      array-end,
    )
    (simp append_assoc)
