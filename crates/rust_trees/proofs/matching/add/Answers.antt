use Rattle.std.proofs.Common.{sym, refl, rules}
use Rattle.rust_trees.proofs.Matches.{matched-open, matched-token}
use Rattle.rust_trees.proofs.matching.add.Goals as goal

pub returns-in_ok-push-in-Neither : goal.returns-in_ok-push-in-Neither
returns-in_ok-push-in-Neither c w h =
    matched-token w _ _ _ (sym c.in-Neither.ensures) h c.in_ok-push-in-Neither.ensures.items refl
    refl

pub returns-in_ok-push-in-Opens-2 : goal.returns-in_ok-push-in-Opens-2
returns-in_ok-push-in-Opens-2 c w h =
    matched-open w _ _ _ _ (sym c.in-Opens.ensures) h (search rules)
    c.in_ok-push-in-Opens-2.ensures.items c.in_ok-push-in-Opens.ensures.items refl
