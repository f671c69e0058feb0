use Rattle.std.proofs.Common.{◌≡◌, [], arith, drop, subst, sym, true}
use Rattle.std.proofs.lemmas.List.{drop_all}
use Rattle.source_report.specs.Suggestions.{mended_faults}
use Rattle.file_fixes.specs.Mending.{have_literals}
use Rattle.file_fixes.proofs.LiteralLaws.{FollowOn, placed-follow, walk-counts}
use Rattle.file_fixes.proofs.literals.mended_literals.Goals as goal

pub returns-clause-count : goal.returns-clause-count
returns-clause-count c =
    let l = c.loop-finding in
    let ts = c.args.tokens.now in
    let xs = mended_faults 0 c.args.findings.now in
    let none : drop l.finding-index c.args.findings.now ≡ [] =
    drop_all _ _ c.loop-finding-test.false in
    let are-in : have_literals c.args.text.now ts xs ≡ true = sym (rw none at l.invariant.are_in) in
    let all = walk-counts c.args.text.now 0 true ts xs
    (subst (FollowOn 0) (sym c.requires.1) (placed-follow 0 c.requires.0)) are-in in
    let count = rw none at l.invariant.count in omega (arith, count, all)
