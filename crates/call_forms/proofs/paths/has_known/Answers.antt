use Prim.Native.Char.{code}
use Rattle.std.proofs.Common.{◌≡◌, ◌-◌, ◌∙◌, arith, ap, drop, reverse, sym, take, true}
use Rattle.std.specs.Prelude.{◌==◌, slice_range}
use Rattle.call_forms.specs.Paths.{has_known}
use Rattle.call_forms.proofs.PathWords.{known-before, known-word}
use Rattle.call_forms.proofs.paths.has_known.Goals as goal
use Rattle.call_forms.proofs.paths.has_known.Goals.{else-not-is_in_path}
use Rattle.call_forms.proofs.paths.has_known.Goals.{then-not-is_in_path+else-is_known+else-byte-ne58}

pub loop-start-preserved : goal.loop-start-preserved
loop-start-preserved c =
    let bs = c.args.front.now in
    let n = c.loop-start.start in
    let end = c.loop-start.end in
    let h = c.loop-start-test.true in
    let i = c.loop-start.invariant in
    let k = i.in_order in
    let l = i.fits in
    elim c.if-not-is_in_path.branch [
      | then-not-is_in_path+else-is_known+else-byte-ne58 w ↦ rw w.end-is (
          let z : n - 1 - (n - 1) ≡ 0 = omega arith in
          record {
            rest = ap (λ m. has_known (take m (drop (n - 1) bs)) (reverse (take (n - 1) bs))) z
                ∙ (sym (known-before (slice_range bs n end) bs n true (omega (arith, h))
                (omega (arith, k, l)) (sym w.if-not-is_in_path.ensures) (sym w.if-is_known.ensures)
                (ap (λ b. b == code ":") w.if-byte-ne58.false)) ∙ i.rest);
            in_order = omega arith;
            fits = omega (arith, k, l);
          }
          )
      | else-not-is_in_path w ↦ rw w.end-is (record {
        rest = known-word bs n end _ (omega (arith, h)) k l (sym w.if-not-is_in_path.ensures)
            i.rest;
        in_order = omega (arith, k);
        fits = l;
      })
    ]
