use Rattle.std.proofs.Common.{◌+◌, ◌∙◌, ap, sym, map, subst, arith, length}
use Rattle.std.proofs.lemmas.List.{length-map}
use Rattle.std.proofs.lemmas.Option.{none-some}
use Rattle.rust_trees.specs.Leaves.{leaf}
use Rattle.format_calls.specs.Rows.{entry}
use Rattle.format_calls.proofs.CallSteps.{AreBelow, below-none, below-push, below-skip, each-call}
use Rattle.format_calls.proofs.CallSteps.{in-order}
use Rattle.format_calls.proofs.listing.calls.Goals as goal
use Rattle.format_calls.proofs.listing.calls.Goals.{in-Some+in_ok-push, in_default}

pub loop-name-init : goal.loop-name-init
loop-name-init c = below-none _ _ _ c.new-calls.ensures.items

pub loop-name-preserved : goal.loop-name-preserved
loop-name-preserved c =
    let so_far = subst (λ v. AreBelow (map entry v) c.args.source.now c.loop-name.calls.items
    c.loop-name.name) (sym c.deref.ensures.value) c.loop-name.invariant in
    subst (λ v. AreBelow (map entry v) c.args.source.now c.match-call_at.calls.items
    (c.loop-name.name + 1)) c.deref.ensures.value (elim c.match-call_at.branch [
      | in-Some+in_ok-push w ↦ below-push _ _ _ _ _ w.in-Some.call w.in-Some.ensures.is_call
          w.in-Some.ensures.named w.in-Some.ensures.each
          (ap (λ t. t.items) w.calls-is ∙ w.in_ok-push.ensures.items) so_far
      | in_default w ↦ subst (λ v. AreBelow (map entry c.deref.result.now) c.args.source.now v
          (c.loop-name.name + 1)) (ap (λ t. t.items) (sym w.calls-is))
          (below-skip _ _ _ _ (λ d k n. none-some d (w.in_default.ensures.each d k n)) so_far)
    ])

pub returns-clause-each : goal.returns-clause-each
returns-clause-each c =
    let n = ap (λ t. length t) c.tokens-name-end.ensures in
    let m = length-map c.tokens-name-end.result.now leaf in
    each-call _ _ _ _ c.loop-name.invariant (omega (arith, n, m, c.loop-name-test.false))

pub returns-clause-in_order : goal.returns-clause-in_order
returns-clause-in_order c =
    let n = ap (λ t. length t) c.tokens-name-end.ensures in
    let m = length-map c.tokens-name-end.result.now leaf in
    in-order _ _ _ _ c.loop-name.invariant (omega (arith, n, m))
