use Rattle.std.proofs.Common.{◌≡◌, ◌<◌, ◌++◌, ◌∙◌, [], ap, arith, false, length, map, rules, true}
use Rattle.std.proofs.lemmas.Grind.{common_steps}
use Rattle.rustc_parse_format.specs.Characters.{is_nil}
use Rattle.rustc_parse_format.specs.FaultViews.{seen_fault}
use Rattle.text_faults.proofs.TextFaults.{first-found, first-last, first-preserved, first-shorter}
use Rattle.text_faults.proofs.text.first_faults.Goals.{then-loop-parser-test+else-not-is_at_end}
use Rattle.text_faults.proofs.text.first_faults.Goals.{else-loop-parser-test}
use Rattle.text_faults.proofs.text.first_faults.Goals as goal

pub loop-parser-smaller : goal.loop-parser-smaller
loop-parser-smaller c =
    let h : is_nil c.loop-parser.parser.rest ≡ false = cc in
    first-shorter c.loop-parser.parser c.next_with_faults.new.self
    c.in_ok-next_with_faults.ensures.state h

pub loop-parser-preserved : goal.loop-parser-preserved
loop-parser-preserved c =
    let h : is_nil c.loop-parser.parser.rest ≡ false = cc in
    let none : c.loop-parser.faults.items ≡ [] = grind (arith, common_steps) in
    first-preserved c.loop-parser.parser c.next_with_faults.new.self
    (map seen_fault c.loop-parser.faults.items) _ _ c.in_ok-next_with_faults.ensures.state h
    (ap (map seen_fault) none) c.in_ok-next_with_faults.ensures.faults c.loop-parser.invariant

pub returns : goal.returns
returns c = elim c.loop-parser-test.branch [
  | then-loop-parser-test+else-not-is_at_end w ↦
      let h : is_nil c.loop-parser.parser.rest ≡ true = cc in
      first-last c.loop-parser.parser (map seen_fault c.loop-parser.faults.items) _ h
      c.loop-parser.invariant
  | else-loop-parser-test w ↦
      let some : 0 < length (map seen_fault c.loop-parser.faults.items)
      = grind (arith, common_steps) in
      first-found (map seen_fault c.loop-parser.faults.items) _ _ some c.loop-parser.invariant
]
