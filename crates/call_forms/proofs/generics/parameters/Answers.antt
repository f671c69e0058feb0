use Rattle.std.proofs.Common.{ne_eqb}
use Rattle.rust_trees.specs.Leaves.{leaf}
use Rattle.call_forms.proofs.Angles.{all-read, all-step, few-step, none-ended, none-left}
use Rattle.call_forms.proofs.generics.parameters.Goals as goal

pub returns-then-place-eq0 : goal.returns-then-place-eq0
returns-then-place-eq0 c = all-read leaf c.args.tokens.now _ c.args.index c.loop-token.place _
    c.if-not-is_mark.ensures.value (none-ended leaf _ c.loop-token.place c.if-place-eq0.true)
    c.loop-token.invariant.all

pub loop-token-preserved : goal.loop-token-preserved
loop-token-preserved c = record {
  few = few-step leaf _ c.loop-token.token-index _ c.loop-token.place
      c.place_after-place.result _ c.loop-token-test.true c.place_after-place.ensures
      c.loop-token.invariant.few;
  all = all-step leaf _ c.loop-token.token-index _ c.loop-token.place
      c.place_after-place.result _ _ _ c.loop-token-test.true
      (ne_eqb c.loop-token.place.angles 0 c.if-place-eq0.false) c.place_after-place.ensures
      c.in_ok-put_parameter.ensures c.loop-token.invariant.all;
}

pub returns : goal.returns
returns c = all-read leaf c.args.tokens.now _ c.args.index c.loop-token.place _
    c.if-not-is_mark.ensures.value
    (none-left leaf _ c.loop-token.token-index c.loop-token.place c.loop-token-test.false)
    c.loop-token.invariant.all
