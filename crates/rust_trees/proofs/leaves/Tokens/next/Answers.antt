use Rattle.std.proofs.Common.{◌∷◌, subst}
use Rattle.rust_trees.specs.Leaves.{AreLeft, leaf}
use Rattle.rust_trees.proofs.leaves.Tokens.next.Goals as goal

pub returns-clause-some : goal.returns-clause-some
returns-clause-some c ls l =
    subst (λ v. AreLeft v (leaf c.in-Some.token ∷ ls)) c.self.view_is
    (c.in-Some.ensures.some ls l)
