use Rattle.std.proofs.Common.{append_assoc, rules}
use Rattle.std.specs.Prelude.{string_bytes}
use Rattle.shown_text.specs.Shown.{shown}
use Rattle.shown_text.proofs.Plain.{shown-step}
use Rattle.shown_text.proofs.gate.put_shown.Goals as goal

pub loop-c-init : goal.loop-c-init
loop-c-init c = (
  search rules,
  rw (c.in_ok-push_str.ensures.bytes, c.split_plain.ensures.parts) (
      append_assoc (string_bytes c.args.out.now) c.split_plain.result.0.now
      (shown c.args.kind c.split_plain.result.1.now)),
)

pub loop-c-preserved : goal.loop-c-preserved
loop-c-preserved c = (
  search rules,
  shown-step c.args.kind _ _ _ _ _ _ _ _ c.in-Some.ensures.parts c.in_ok-put_char.ensures
      c.split_plain-in-Some.ensures.parts c.in_ok-push_str-2.ensures.bytes
      c.loop-c.invariant.1,
)
