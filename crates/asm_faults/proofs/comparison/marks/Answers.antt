use Rattle.std.proofs.Common.{◌≡◌, ◌<◌, ◌∙◌, ◌≤◌, ◌==◌, arith, rules, false, get_or, refl, sym, ap}
use Rattle.std.proofs.Common.{length, eq-eqb, List}
use Rattle.std.proofs.lemmas.List.{length-map}
use Rattle.text_faults.proofs.Marks.{or-none, set-length, set-marks}
use Rattle.asm_faults.specs.Operands.{Operand}
use Rattle.asm_faults.specs.Views.{seen_lookup, seen_operand}
use Rattle.asm_faults.proofs.Marking.{marked-next, means-below}
use Rattle.asm_faults.proofs.comparison.marks.Goals.{in-Some+then-index-len, in-Some+else-index-len}
use Rattle.asm_faults.proofs.comparison.marks.Goals.{in_default}
use Rattle.asm_faults.proofs.comparison.marks.Goals as goal

pub loop-lookup-preserved : goal.loop-lookup-preserved
loop-lookup-preserved c = elim c.match-meant.branch [
  | in-Some+then-index-len w ↦
      let inside : w.in-Some.index < length c.loop-lookup.marks.items = search rules in
      record {
        many = rw w.marks-is (set-length c.loop-lookup.marks.items w.in-Some.index
            ∙ c.loop-lookup.invariant.many);
        marked = λ ss h i. marked-next seen_lookup ss c.args.lookups.now
            c.loop-lookup.lookup-index _ i (get_or c.loop-lookup.marks.items i false)
            (get_or c.match-meant.marks.items i false) (i == w.in-Some.index)
            c.loop-lookup-test.true (c.loop-lookup.invariant.marked ss h i)
            (w.in-Some.ensures ss h i)
            (rw w.marks-is (set-marks c.loop-lookup.marks.items w.in-Some.index i inside));
      }
  | in-Some+else-index-len w ↦
      let outside : length c.loop-lookup.marks.items ≤ w.in-Some.index = search rules in
      record {
        many = rw w.marks-is c.loop-lookup.invariant.many;
        marked = λ ss h i.
            let below = means-below ss w.in-Some.index _
            (sym (w.in-Some.ensures ss h w.in-Some.index)
            ∙ eq-eqb w.in-Some.index w.in-Some.index refl) in
            let many : length c.loop-lookup.marks.items ≡ length c.args.operands.now.slots.items
            = c.loop-lookup.invariant.many in
            let slots : length ss ≡ length c.args.operands.now.slots.items
            = ap (λ (xs : List Operand). length xs) (sym h.slots)
            ∙ length-map c.args.operands.now.slots.items seen_operand in
            absurd (omega arith);
      }
  | in_default w ↦ record {
    many = rw w.marks-is c.loop-lookup.invariant.many;
    marked = λ ss h i. marked-next seen_lookup ss c.args.lookups.now
        c.loop-lookup.lookup-index _ i (get_or c.loop-lookup.marks.items i false)
        (get_or c.match-meant.marks.items i false) false
        c.loop-lookup-test.true (c.loop-lookup.invariant.marked ss h i)
        (w.in_default.ensures ss h i)
        (rw w.marks-is (sym (or-none (get_or c.loop-lookup.marks.items i false) false refl)));
  }
]
