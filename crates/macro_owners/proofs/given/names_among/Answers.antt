use Rattle.std.proofs.Common.{◌≡◌, ◌+◌, ◌∙◌, ap, arith, length, refl, subst, sym}
use Rattle.std.proofs.lemmas.List.{length-map}
use Rattle.rust_trees.specs.Leaves.{leaf}
use Rattle.macro_owners.specs.Given.{conditional_after, root_after}
use Rattle.macro_owners.proofs.GivenNames.{NamesSoFar, condition-step, names-all, names-more}
use Rattle.macro_owners.proofs.GivenNames.{names-skip, root-step}
use Rattle.macro_owners.proofs.given.names_among.Goals as goal
use Rattle.macro_owners.proofs.given.names_among.Goals.{in-Some+in_ok-push, in_default}

pub loop-index-preserved : goal.loop-index-preserved
loop-index-preserved c =
    let cs = c.args.calls.now in
    let xs = c.args.source.now in
    let i = c.loop-index.index in
    let v = c.loop-index.invariant in
    let old = c.loop-index.names.items in
    record {
      so_far = elim c.match-given_at.branch [
        | in-Some+in_ok-push w ↦ names-more cs xs i c.match-given_at.names.items old w.in-Some.given
            (ap (λ t. t.items) w.names-is ∙ w.in_ok-push.ensures.items) w.in-Some.ensures.some.0
            w.in-Some.ensures.some.1 v.so_far
        | in_default w ↦ subst (λ l. NamesSoFar cs xs (i + 1) l)
            (ap (λ t. t.items) (sym w.names-is))
            (names-skip cs xs i old (w.in_default.ensures.none refl) v.so_far)
      ];
      root = root-step xs i c.loop-index.root c.root_after-root.result v.root
          (subst (λ q. c.root_after-root.result ≡ root_after q i c.loop-index.root)
          c.tokens-tokens.ensures c.root_after-root.ensures);
      condition = condition-step xs i c.loop-index.has_condition
          c.conditional_after-has_condition.result v.condition
          (subst (λ q. c.conditional_after-has_condition.result
          ≡ conditional_after q i c.loop-index.has_condition)
          c.tokens-tokens.ensures c.conditional_after-has_condition.ensures);
    }

pub returns : goal.returns
returns c =
    let n = ap (λ t. length t) c.tokens-tokens.ensures in
    let m = length-map c.tokens-tokens.result.now leaf in
    let f = c.loop-index-test.false in
    names-all c.args.calls.now c.args.source.now c.loop-index.index c.loop-index.names.items
    (omega (arith, n, m, f)) c.loop-index.invariant.so_far
