use Rattle.std.proofs.Common.{arith, inl, inr, refl}
use Rattle.rust_trees.proofs.Nested.{nested}
use Rattle.format_calls.proofs.split.after_tree.Goals as goal

pub overflow_add-result : goal.overflow_add-result
overflow_add-result c =
    let r = c.requires in
    let l = nested _ _ _ _ _ r.2 c.in-Some.ensures.some r.3 r.4 in
    omega (arith, l, r.5)

pub returns-in-None : goal.returns-in-None
returns-in-None c = inr (c.in-None.ensures.none refl, refl)
