use Rattle.std.proofs.Common.{◌≡◌, ◌∙◌, ap, refl, rules, subst, sym, ◌++◌, ◌∷◌, []}
use Rattle.rust_trees.specs.declared.sides.Side.TheVariants.{Closes}
use Rattle.rust_trees.specs.declared.balance.BreakKind.TheVariants.{UnexpectedDelimiter}
use Rattle.rust_trees.specs.Balances.{BreaksIn, IsKnownTo}
use Rattle.rust_trees.proofs.Balancing.{known-close, known-unexpected}
use Rattle.rust_trees.proofs.Matches.{mismatch-last, mismatch-none}
use Rattle.rust_trees.proofs.Scanning.{from-same}
use Rattle.rust_trees.proofs.balance.Balance.close.Goals as goal
use Rattle.rust_trees.proofs.balance.Balance.close.Goals.{in-Some+else-is_same, in_default}

pub returns-then-is_same : goal.returns-then-is_same
returns-then-is_same c w x g n e s p =
    subst (λ o. IsKnownTo (w ++ x ∷ []) c.pop.new.self.items o) (sym n)
    (known-close w x _ c.pop.new.self.items _ g e
    (s ∙ ap (λ d. Closes d) (sym (from-same _ _ (sym c.if-is_same.ensures))))
    c.in-Some.ensures.items)

pub returns : goal.returns
returns c w x g n e s p = λ ys.
    subst (λ k. BreaksIn ((w ++ x ∷ []) ++ ys) UnexpectedDelimiter k) (sym p)
    (known-unexpected w x c.args.self.now.openings.items _ g s (elim c.match-pop.branch [
      | in-Some+else-is_same v ↦ mismatch-last _ _ _ _ v.in-Some.ensures.items
          (sym v.if-is_same.ensures)
      | in_default v ↦ mismatch-none c.args.self.now.openings.items _ (search rules)
    ]) ys)
