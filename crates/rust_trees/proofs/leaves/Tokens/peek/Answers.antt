use Rattle.std.proofs.Common.{◌∷◌, ap, subst, sym}
use Rattle.rust_trees.specs.Leaves.{AreLeft, leaf}
use Rattle.rust_trees.proofs.leaves.Tokens.peek.Goals as goal

pub returns-in-Some-clause-some : goal.returns-in-Some-clause-some
returns-in-Some-clause-some c = (
  c.in-Some.field-0-1.now,
  λ ls l. subst (λ v. AreLeft v (leaf c.in-Some.token ∷ ls)) c.self.view_is
      (c.in-Some.ensures.some ls (subst
      (λ w. AreLeft (record { whole = w; rest = c.in-Some.field-0-1.now }) ls)
      (sym (ap (λ v. v.whole) c.self.view_is)) l)),
)
