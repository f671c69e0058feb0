use Rattle.std.proofs.Common.{rules}
use Rattle.rust_trees.proofs.Balancing.{all-closed-at-end, all-known, all-unclosed, goes-on}
use Rattle.rust_trees.proofs.balance.Balance.first_break.Goals as goal

pub returns-then-is_some : goal.returns-then-is_some
returns-then-is_some c w h = all-known w _ _ c.if-is_some.ensures h

pub returns-in-Some : goal.returns-in-Some
returns-in-Some c w h =
    all-unclosed w _ _ _ (goes-on w _ _ c.if-is_some.ensures h) c.in-Some.ensures.items

pub returns : goal.returns
returns c w h =
    all-closed-at-end w _ (goes-on w _ _ c.if-is_some.ensures h) (search rules)
