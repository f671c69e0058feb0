use Rattle.std.proofs.Common.{◌∙◌, ap, sym, refl, rules}
use Rattle.rust_trees.specs.declared.sides.Side.TheVariants.{Closes}
use Rattle.rust_trees.proofs.Matches.{matched-break, matched-close, mismatch-last, mismatch-none}
use Rattle.rust_trees.proofs.Scanning.{from-same}
use Rattle.rust_trees.proofs.matching.close.Goals as goal
use Rattle.rust_trees.proofs.matching.close.Goals.{in-Some+else-is_same, in_default}

pub returns-then-is_same : goal.returns-then-is_same
returns-then-is_same c w x h s =
    matched-close w x _ _ _ _
    (s ∙ ap (λ d. Closes d) (sym (from-same _ _ (sym c.if-is_same.ensures))))
    h c.in-Some.ensures.items (search rules) refl refl

pub returns : goal.returns
returns c w x h s =
    matched-break w x _ _ _ s h
    (elim c.match-pop.branch [
      | in-Some+else-is_same v ↦ mismatch-last _ _ _ _ v.in-Some.ensures.items
          (sym v.if-is_same.ensures)
      | in_default v ↦ mismatch-none c.args.matching.now.openings.items _ (search rules)
    ])
    c.in_ok-push-2.ensures.items c.clear.ensures.items (search rules)
