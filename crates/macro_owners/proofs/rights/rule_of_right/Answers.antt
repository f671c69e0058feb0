use Rattle.std.proofs.Common.{◌+◌, map, refl, subst, sym}
use Rattle.rust_trees.specs.Leaves.{leaf}
use Rattle.macro_owners.proofs.RightSides.{UsesSoFar, plain-more, uses-more, uses-return, uses-skip}
use Rattle.macro_owners.proofs.rights.rule_of_right.Goals as goal
use Rattle.macro_owners.proofs.rights.rule_of_right.Goals.{
  else-is_use,
  then-is_use+in_ok-rule+else-not-is_first_or_same,
}

pub loop-index-preserved : goal.loop-index-preserved
loop-index-preserved c =
    let cs = c.args.calls.now in
    let xs = map leaf c.args.tokens.now in
    let t = c.args.right in
    let n = c.loop-index.index in
    let v = c.loop-index.invariant in
    record {
      uses = elim c.if-is_use.branch [
        | then-is_use+in_ok-rule+else-not-is_first_or_same w ↦
            subst (λ o. UsesSoFar cs xs t o (n + 1)) (sym w.found-is)
            (uses-more cs xs t c.loop-index.found n w.in_ok-rule.rule c.loop-index.auto.index
            c.loop-index-test.true w.if-is_use.ensures w.in_ok-rule.ensures
            (w.if-not-is_first_or_same.ensures refl) v.uses)
        | else-is_use w ↦ subst (λ o. UsesSoFar cs xs t o (n + 1)) (sym w.found-is)
            (uses-skip cs xs t c.loop-index.found n w.if-is_use.ensures v.uses)
      ];
      plain = plain-more xs t n c.if-is_written.ensures v.plain;
    }

pub returns : goal.returns
returns c =
    uses-return c.args.calls.now (map leaf c.args.tokens.now) c.args.right c.loop-index.found
    c.loop-index.index c.loop-index-test.false c.loop-index.invariant.uses
    c.loop-index.invariant.plain
