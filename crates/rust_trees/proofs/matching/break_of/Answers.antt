use Rattle.std.proofs.Common.{subst, rules}
use Rattle.rust_trees.specs.Matching.{HasOpen}
use Rattle.rust_trees.proofs.Matches.{all-closed, unclosed}
use Rattle.rust_trees.proofs.matching.break_of.Goals as goal

pub returns-in-Some-pop : goal.returns-in-Some-pop
returns-in-Some-pop c w h =
    unclosed w _ _ _ (subst (λ os. HasOpen w os c.args.unexpected_index) c.in-Some-pop.ensures.items
    h)
    c.in-None.is

pub returns : goal.returns
returns c w h = all-closed w _ _ h c.in-None.is (search rules)
