use Rattle.std.proofs.Common.{◌≡◌, ◌-◌, ◌∙◌, ◌++◌, IsUtf8, ap, length, rules, subst, sym}
use Rattle.std.proofs.lemmas.Str.{IsUtf8-append}
use Rattle.rust_trees.specs.Leaves.{AreLeft, leaves}
use Rattle.rust_trees.proofs.PassedFronts.{left-past_front}
use Rattle.rust_trees.proofs.leaves.Tokens.skip.Goals as goal

pub returns-clause-passed : goal.returns-clause-passed
returns-clause-passed c _ xs r ls l =
    let s = c.in-Some.ensures.cases in
    let u : IsUtf8 c.in-Some.rest.now = search rules in
    let e : c.self.inside.rest.now ≡ c.args.front.now ++ c.in-Some.rest.now =
    s.1.1 ∙ ap (λ t. c.args.front.now ++ t) (sym s.2) in
    let v : IsUtf8 c.self.inside.rest.now =
    subst (λ t. IsUtf8 t) (sym e) (IsUtf8-append c.args.front.now c.in-Some.rest.now c.utf8.front u)
    in
    subst (λ v. AreLeft v (leaves (length v.whole - length v.rest) xs ++ ls)) c.self.view_is
    (left-past_front _ _ _ _ v c.utf8.front u c.self.invariant e
    (sym c.if-not-begins_with_word.ensures) xs r ls l)
