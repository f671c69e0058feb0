use Rattle.std.proofs.Common.{◌≡◌, refl, sym, true}
use Rattle.rust_trees.proofs.Balancing.{goes-on, known-first_break, known-open, known-token}
use Rattle.rust_trees.proofs.Balancing.{known-unended, none-is, still-on}
use Rattle.rust_trees.proofs.balance.Balance.add.Goals as goal

pub returns-then-is_some : goal.returns-then-is_some
returns-then-is_some c w h = known-first_break w _ _ _ c.if-is_some.ensures h

pub returns-then-not-token : goal.returns-then-not-token
returns-then-not-token c w h =
    known-unended w _ c.args.self.now.openings.items (goes-on w _ _ c.if-is_some.ensures h)
    c.if-not-token.true

pub returns-in-Neither : goal.returns-in-Neither
returns-in-Neither c w h =
    still-on _ _ _ c.if-is_some.ensures
    (known-token w _ _ (goes-on w _ _ c.if-is_some.ensures h) c.if-not-token.false
    (sym c.in-Neither.ensures))

pub returns-in_ok-push-in-Opens : goal.returns-in_ok-push-in-Opens
returns-in_ok-push-in-Opens c w h =
    still-on _ _ _ c.if-is_some.ensures
    (known-open w _ _ _ _ (goes-on w _ _ c.if-is_some.ensures h) c.if-not-token.false
    (sym c.in-Opens.ensures) refl c.in_ok-push-in-Opens.ensures.items)

pub returns-in-Closes : goal.returns-in-Closes
returns-in-Closes c w h =
    c.close.ensures w _ (goes-on w _ _ c.if-is_some.ensures h)
    (none-is _ c.if-is_some.ensures) c.if-not-token.false (sym c.in-Closes.ensures) refl
