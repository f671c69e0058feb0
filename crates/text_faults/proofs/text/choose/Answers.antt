use Rattle.std.proofs.Common.{◌∙◌, sym}
use Rattle.std.specs.Prelude.{option_map}
use Rattle.rustc_parse_format.specs.FaultViews.{seen_fault}
use Rattle.text_faults.proofs.TextFaults.{shown-first, shown-front, shown-kept, some-map}
use Rattle.text_faults.proofs.text.choose.Goals.{else-is_some-via-then-is_some+else-not-is_front}
use Rattle.text_faults.proofs.text.choose.Goals.{else-is_some-via-else-is_some}
use Rattle.text_faults.proofs.text.choose.Goals as goal

pub returns-then-not-is_front : goal.returns-then-not-is_front
returns-then-not-is_front c = λ fs h. shown-kept fs (seen_fault c.args.fault)
    (option_map seen_fault c.args.choice) h
    (some-map seen_fault c.args.choice ∙ sym c.is_some.ensures ∙ c.if-is_some.true)
    (sym c.is_front.ensures ∙ c.if-not-is_front.true)

pub returns-else-is_some : goal.returns-else-is_some
returns-else-is_some c = λ fs h. elim c.else-is_some.branch [
  | else-is_some-via-then-is_some+else-not-is_front w ↦ shown-front fs (seen_fault c.args.fault)
      (sym w.is_front.ensures ∙ w.if-not-is_front.false)
  | else-is_some-via-else-is_some w ↦ shown-first fs (seen_fault c.args.fault)
      (option_map seen_fault c.args.choice) h
      (some-map seen_fault c.args.choice ∙ sym c.is_some.ensures ∙ w.if-is_some.false)
]
