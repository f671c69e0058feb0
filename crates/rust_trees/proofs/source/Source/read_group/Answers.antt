use Rattle.std.proofs.Common.{[], inl, inr, ◌∙◌, refl, rules}
use Rattle.std.proofs.Common.{subst, sym}
use Rattle.rust_trees.specs.Forests.{IsGroup}
use Rattle.rust_trees.specs.Leaves.{AreLeft, leaf}
use Rattle.rust_trees.specs.Matching.{IsMatched}
use Rattle.rust_trees.proofs.Groups.{group, joins-more}
use Rattle.rust_trees.proofs.LeavesRead.{map-push}
use Rattle.rust_trees.proofs.source.Source.read_group.Goals as goal

pub source_of-requires : goal.source_of-requires
source_of-requires c =
    let e = map-push leaf _ _ _ (leaf c.in-Some.token) c.in_ok-push.ensures.items refl in
    subst (λ v. IsMatched v c.add.new.matching) (sym e)
    (c.in_ok-add.ensures _ c.loop-token.invariant.matched)

pub returns-then-is_closed-clause-joins : goal.returns-then-is_closed-clause-joins
returns-then-is_closed-clause-joins c =
    let e = map-push leaf _ _ _ (leaf c.in-Some.token) c.in_ok-push.ensures.items refl in
    let j = joins-more _ _ _ _ _ (leaf c.in-Some.token) c.in-Some.ensures.some
    c.loop-token.invariant.joins in
    (j.0, c.source_of.ensures ∙ (e ∙ j.1), j.2)

pub returns-then-is_closed-clause-whole : goal.returns-then-is_closed-clause-whole
returns-then-is_closed-clause-whole c =
    let e = map-push leaf _ _ _ (leaf c.in-Some.token) c.in_ok-push.ensures.items refl in
    let d = c.if-is_closing.ensures refl in
    inr (subst IsGroup (sym (c.source_of.ensures ∙ e)) (group _ _ d.0 _ (sym c.side.ensures ∙ d.1)
    (c.in_ok-add.ensures _ c.loop-token.invariant.matched) (c.if-is_closed.ensures refl)))

pub loop-token-preserved : goal.loop-token-preserved
loop-token-preserved c =
    let e = map-push leaf _ _ _ (leaf c.in-Some.token) c.in_ok-push.ensures.items refl in
    let j = joins-more _ _ _ _ _ (leaf c.in-Some.token) c.in-Some.ensures.some
    c.loop-token.invariant.joins in
    record {
      matched = subst (λ v. IsMatched v c.add.new.matching) (sym e)
          (c.in_ok-add.ensures _ c.loop-token.invariant.matched);
      file = search rules;
      fewer = search rules;
      joins = (j.0, e ∙ j.1, j.2);
    }

pub returns-clause-fewer : goal.returns-clause-fewer
returns-clause-fewer c = search rules

pub returns-clause-joins : goal.returns-clause-joins
returns-clause-joins c =
    let j = c.loop-token.invariant.joins in (
      j.0,
      c.source_of-2.ensures ∙ j.1,
      λ ls l. j.2 ls
          (subst (λ u. AreLeft u ls) (c.in_default.ensures.none refl).1 l),
    )

pub returns-clause-whole : goal.returns-clause-whole
returns-clause-whole c =
    inl (subst (λ u. AreLeft u []) (sym (c.in_default.ensures.none refl).1)
    (c.in_default.ensures.none refl).0)
