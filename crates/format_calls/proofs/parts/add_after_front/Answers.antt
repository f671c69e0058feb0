use Rattle.std.proofs.Common.{◌≡◌, ◌∙◌, ◌-◌, ◌++◌, List, ap, arith, drop, length, length-drop, map}
use Rattle.std.proofs.Common.{subst, sym, take}
use Rattle.std.proofs.lemmas.List.{drop-map, take_all}
use Rattle.rust_trees.specs.Balances.{IsBalanced}
use Rattle.rust_trees.specs.Leaves.{Leaf, leaf}
use Rattle.rust_trees.specs.declared.leaves.Token.{Token}
use Rattle.format_calls.proofs.parts.add_after_front.Goals as goal

rest_after-front : (ts : List Token) (part : List Leaf) → map leaf ts ≡ part
    → map leaf (take (length ts - 3) (drop 3 ts)) ≡ drop 3 part
rest_after-front ts part e =
    let d = length-drop 3 ts in
    ap (λ v. map leaf v) (take_all (length ts - 3) (drop 3 ts) (omega (arith, d)))
    ∙ (sym (drop-map leaf 3 ts) ∙ ap (λ v. drop 3 v) e)

pub returns : goal.returns
returns c w h =
    subst (λ v. IsBalanced (w ++ v) c.add_all.new.self)
    (rest_after-front c.tokens-tokens.result.now c.args.part.now c.tokens-tokens.ensures)
    (c.in_ok-add_all.ensures w h)
