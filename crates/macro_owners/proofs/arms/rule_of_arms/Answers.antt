use Rattle.std.proofs.Common.{◌≡◌, ◌+◌, arith, subst, true}
use Rattle.format_calls.specs.Marks.{is_mark}
use Rattle.macro_owners.proofs.ArmLists.{arms-all, arms-last, arms-more}
use Rattle.macro_owners.proofs.arms.rule_of_arms.Goals as goal

pub returns-then-arm-close-2 : goal.returns-then-arm-close-2
returns-then-arm-close-2 c =
    arms-last c.args.calls.now c.args.source.now c.args.opening c.args.close c.loop-from.from
    c.loop-from.found c.in_ok-found.found c.in_ok-arm.arm c.in_ok-arm.ensures
    c.in_ok-found.ensures c.if-arm-close-2.true c.loop-from.invariant.so_far

pub loop-from-preserved : goal.loop-from-preserved
loop-from-preserved c = record {
  so_far = arms-more c.args.calls.now c.args.source.now c.args.opening c.args.close
      c.loop-from.from c.loop-from.found c.in_ok-found.found c.in_ok-arm.arm c.in_ok-arm.ensures
      c.in_ok-found.ensures (subst (λ v. true ≡ is_mark 59 v (c.in_ok-arm.arm.right_close + 1))
      c.tokens-tokens.ensures c.if-not-is_mark.ensures.value) c.loop-from.invariant.so_far;
  within = let a = c.if-arm-close.false in let b = c.if-arm-close-2.false in omega (arith, a, b);
}

pub returns : goal.returns
returns c =
    let a = c.loop-from-test.false in
    let b = c.loop-from.invariant.within in
    arms-all c.args.calls.now c.args.source.now c.args.opening c.args.close c.loop-from.from
    c.loop-from.found (omega (arith, a, b)) c.loop-from.invariant.so_far
