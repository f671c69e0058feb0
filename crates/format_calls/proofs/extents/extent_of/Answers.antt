use Rattle.std.proofs.Common.{◌≡◌, ◌∙◌, ap, arith, inl, inr, subst, sym}
use Rattle.std.specs.Prelude.{◌||◌}
use Rattle.format_calls.specs.Extents.{is_stop, is_uncounted}
use Rattle.format_calls.proofs.Counting.{Passed, passed-all, passed-more}
use Rattle.format_calls.proofs.Walking.{tree-within}
use Rattle.format_calls.proofs.extents.extent_of.Goals as goal
use Rattle.format_calls.proofs.extents.extent_of.Goals.{else-has_uncounted, then-has_uncounted}
use Rattle.format_calls.proofs.extents.extent_of.Goals.{else-loop-end-test}
use Rattle.format_calls.proofs.extents.extent_of.Goals.{then-loop-end-test+else-not-is_stop}

pub loop-end-preserved : goal.loop-end-preserved
loop-end-preserved c =
    let xs = c.args.source.now in
    let b = c.args.ends_early in
    let i = c.loop-end.end in
    let v = c.loop-end.invariant in
    let t = tree-within xs c.args.opening c.args.close i c.after_tree-end.result c.requires.pair
    c.after_tree-end.ensures v.rest_after c.loop-end-test.true in
    let e : (c.loop-end.has_uncounted || is_uncounted xs i) ≡ c.if-has_uncounted.has_uncounted =
    elim c.if-has_uncounted.branch [
      | then-has_uncounted w ↦ ap (λ v. v || is_uncounted xs i) w.if-has_uncounted.true
          ∙ (sym w.if-has_uncounted.true ∙ sym w.has_uncounted-is)
      | else-has_uncounted w ↦ ap (λ v. v || is_uncounted xs i) w.if-has_uncounted.false
          ∙ (subst (λ v. is_uncounted v i ≡ w.is_uncounted-has_uncounted.result)
          c.tokens-tokens.ensures
          (sym w.is_uncounted-has_uncounted.ensures) ∙ sym w.has_uncounted-is)
    ] in
    let s = rw c.tokens-tokens.ensures at c.is_stop.ensures in
    record {
      passed = subst (λ v. Passed b xs c.args.from c.after_tree-end.result v) e
          (passed-more b xs c.args.from i c.after_tree-end.result c.loop-end.has_uncounted v.passed
          c.after_tree-end.ensures (sym s ∙ c.if-not-is_stop.true));
      rest_after = let r = v.rest_after in omega (arith, r, t.0);
      onward = let r = v.onward in omega (arith, r, t.0);
      within = t.1;
    }

pub returns-clause-trees : goal.returns-clause-trees
returns-clause-trees c =
    let xs = c.args.source.now in
    passed-all c.args.ends_early xs c.args.from c.loop-end.end c.args.close c.loop-end.has_uncounted
    c.loop-end.invariant.within
    (elim c.loop-end-test.branch [
      | then-loop-end-test+else-not-is_stop w ↦
          let s = rw c.tokens-tokens.ensures at w.is_stop.ensures in
          inr (sym s ∙ w.if-not-is_stop.false)
      | else-loop-end-test w ↦
          let l = w.loop-end-test.false in
          let n = c.loop-end.invariant.within in
          inl (omega (arith, l, n))
    ])
    c.loop-end.invariant.passed
