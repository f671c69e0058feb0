use Rattle.std.proofs.Common.{◌++◌, ◌∷◌, [], ◌∙◌, ap, map, refl, subst, sym}
use Rattle.std.proofs.lemmas.List.{append-nil, append_assoc}
use Rattle.rust_trees.specs.Leaves.{AreLeft, leaf}
use Rattle.rust_trees.proofs.LeavesRead.{map-push}
use Rattle.rust_trees.proofs.leaves.leaves.Goals as goal

pub loop-token-preserved : goal.loop-token-preserved
loop-token-preserved c ls l =
    let x = leaf c.in-Some.token in
    subst (AreLeft c.new-rest.result)
    (sym (ap (λ t. t ++ ls) (map-push leaf _ _ _ x c.in_ok-push.ensures.items refl)
    ∙ append_assoc (map leaf c.loop-token.tokens.items) (x ∷ []) ls))
    (c.loop-token.invariant (x ∷ ls) (c.in-Some.ensures.some ls l))

pub returns : goal.returns
returns c =
    c.new-rest.ensures.left _ (subst (AreLeft c.new-rest.result) (append-nil _)
    (c.loop-token.invariant [] (c.in_default.ensures.none refl).0))
