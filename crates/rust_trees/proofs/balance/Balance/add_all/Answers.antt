use Rattle.std.proofs.Common.{◌≡◌, ◌∙◌, ◌++◌, ap, arith, map, subst, take}
use Rattle.std.proofs.lemmas.Grind.{common_steps}
use Rattle.std.proofs.lemmas.List.{append_assoc, take_all}
use Rattle.rust_trees.specs.Balances.{IsBalanced}
use Rattle.rust_trees.specs.Leaves.{leaf}
use Rattle.rust_trees.proofs.balance.Balance.add_all.Goals as goal

pub loop-token-preserved : goal.loop-token-preserved
loop-token-preserved c w h =
    let front = map leaf (take c.loop-token.token-index c.args.tokens.now) in
    subst (λ v. IsBalanced v c.add.new.self)
    (append_assoc w front _ ∙ ap (λ v. w ++ v) (grind (arith, common_steps)))
    (c.in_ok-add.ensures (w ++ front) (c.loop-token.invariant w h))

pub returns : goal.returns
returns c w h =
    subst (λ v. IsBalanced (w ++ map leaf v) c.loop-token.self)
    (take_all c.loop-token.token-index c.args.tokens.now c.loop-token-test.false)
    (c.loop-token.invariant w h)
