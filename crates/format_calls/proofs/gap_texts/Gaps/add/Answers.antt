use Rattle.std.proofs.Common.{◌++◌, refl, subst, sym}
use Rattle.rust_trees.proofs.LeavesRead.{map-push}
use Rattle.format_calls.specs.GapTexts.{GapsBefore}
use Rattle.format_calls.proofs.GapForests.{before-more, ended-parts}
use Rattle.format_calls.proofs.gap_texts.Gaps.add.Goals as goal

pub returns-in_ok-push-in-Some-clause-known : goal.returns-in_ok-push-in-Some-clause-known
returns-in_ok-push-in-Some-clause-known c es whole front gap left o l k b known t e =
    let d = ended-parts front (gap ++ c.args.part.now) e in
    let f = ended-parts gap c.args.part.now d.1 in
    let x = c.in-Some.ensures.gap es whole gap left o l k b f.0 in
    let p = map-push (λ v. v.now) _ _ c.in-Some.gap c.in-Some.gap.now
    c.in_ok-push-in-Some.ensures.items refl in
    subst (λ v. GapsBefore es v (front ++ (gap ++ c.args.part.now))) (sym p)
    (before-more es _ front gap c.args.part.now c.in-Some.gap.now x.0 c.args.offset (known t d.0)
    x.1 x.2 c.in-Some.ensures.forest)

pub returns-in_ok-push-in-Some-clause-are_known : goal.returns-in_ok-push-in-Some-clause-are_known
returns-in_ok-push-in-Some-clause-are_known c n ls g r p q u s = (
  λ k.
      let f = (c.in-Some.ensures.known n ls g r p q u s).0 refl in (k, f.0, f.1),
  λ h. h.0,
)
