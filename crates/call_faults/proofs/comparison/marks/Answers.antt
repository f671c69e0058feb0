use Rattle.std.proofs.Common.{◌≡◌, ◌<◌, ◌||◌, ◌==◌, ◌∙◌, ◌≤◌, arith, rules, false, get_or, refl}
use Rattle.std.proofs.Common.{sym, ap, true, set, length}
use Rattle.std.proofs.Common.{ℕ, Option, Some, None, eq-eqb}
use Rattle.std.specs.Option.{option_map_or}
use Rattle.call_faults.specs.Comparison.{means}
use Rattle.call_faults.specs.Views.{seen_lookup}
use Rattle.call_faults.proofs.Comparing.{marked-next, means-below}
use Rattle.text_faults.proofs.Marks.{or-none, set-length, set-marks}
use Rattle.call_faults.proofs.comparison.marks.Goals.{in-Some+then-index-len}
use Rattle.call_faults.proofs.comparison.marks.Goals.{in-Some+else-index-len}
use Rattle.call_faults.proofs.comparison.marks.Goals.{in_default}
use Rattle.call_faults.proofs.comparison.marks.Goals as goal

pub loop-lookup-preserved : goal.loop-lookup-preserved
loop-lookup-preserved c = elim c.match-meant.branch [
  | in-Some+then-index-len w ↦
      let inside : w.in-Some.index < length c.loop-lookup.marks.items = search rules in
      record {
        many = rw w.marks-is (set-length c.loop-lookup.marks.items w.in-Some.index
            ∙ c.loop-lookup.invariant.many);
        marked = λ ks h a i. marked-next seen_lookup ks c.args.lookups.now
            c.loop-lookup.lookup-index _ i (get_or c.loop-lookup.marks.items i false)
            (get_or c.match-meant.marks.items i false) (i == w.in-Some.index)
            c.loop-lookup-test.true (c.loop-lookup.invariant.marked ks h a i)
            (w.in-Some.ensures ks h i)
            (rw w.marks-is (set-marks c.loop-lookup.marks.items w.in-Some.index i inside));
      }
  | in-Some+else-index-len w ↦
      let outside : length c.loop-lookup.marks.items ≤ w.in-Some.index = search rules in
      record {
        many = rw w.marks-is c.loop-lookup.invariant.many;
        marked = λ ks h a i.
            let below = means-below ks c.args.count w.in-Some.index _ a
            (sym (w.in-Some.ensures ks h w.in-Some.index)
            ∙ eq-eqb w.in-Some.index w.in-Some.index refl) in
            let many : length c.loop-lookup.marks.items ≡ c.args.count
            = c.loop-lookup.invariant.many in
            absurd (omega arith);
      }
  | in_default w ↦ record {
    many = rw w.marks-is c.loop-lookup.invariant.many;
    marked = λ ks h a i. marked-next seen_lookup ks c.args.lookups.now
        c.loop-lookup.lookup-index _ i (get_or c.loop-lookup.marks.items i false)
        (get_or c.match-meant.marks.items i false) false
        c.loop-lookup-test.true (c.loop-lookup.invariant.marked ks h a i)
        (w.in_default.ensures ks h i)
        (rw w.marks-is (sym (or-none (get_or c.loop-lookup.marks.items i false) false refl)));
  }
]
