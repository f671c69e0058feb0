use Rattle.std.proofs.Common.{◌≡◌, map}
use Rattle.std.specs.Prelude.{option_map}
use Rattle.rustc_parse_format.specs.FaultViews.{seen_fault}
use Rattle.text_faults.specs.Texts.{shown_fault}
use Rattle.text_faults.proofs.text.shown_fault.Given as goal

abbrev pub invariant-loop-fault : goal.invariant-loop-fault
invariant-loop-fault l = option_map seen_fault l.choice ≡ shown_fault (map seen_fault l.yielded)
