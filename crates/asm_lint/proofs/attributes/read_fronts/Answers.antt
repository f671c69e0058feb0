use Rattle.std.proofs.Common.{[], chars, map, refl, subst, sym}
use Rattle.std.proofs.lemmas.List.{drop_all}
use Rattle.asm_lint.specs.Attributes.{ReadsAt, ReadsFronts}
use Rattle.asm_lint.proofs.Gathering.{gathered-all, gathered-none, plain-step}
use Rattle.asm_lint.proofs.attributes.read_fronts.Goals as goal

pub loop-start-init : goal.loop-start-init
loop-start-init c = record { read = gathered-none _ _ _; spans = λ h. h }

pub loop-start-preserved : goal.loop-start-preserved
loop-start-preserved c =
    let name = chars c.args.item.name.now in
    let ps = map (λ p. p.now) c.args.item.parameters.now in
    let r = c.in_ok-read_at.ensures.read in
    record {
      read = plain-step (λ js fs. ReadsFronts name ps c.args.source.now js fs)
          (λ j fs. ReadsAt name ps c.args.source.now j fs)
          (λ j js found others p k. (found, others, refl, p, k)) c.args.starts.now
          c.loop-start.start-index _ _ _ _ r.0 c.loop-start-test.true
          c.loop-start.invariant.read r.1 r.2;
      spans = λ h. c.in_ok-read_at.ensures.spans (c.loop-start.invariant.spans h);
    }

pub returns-clause-read : goal.returns-clause-read
returns-clause-read c =
    let name = chars c.args.item.name.now in
    let ps = map (λ p. p.now) c.args.item.parameters.now in
    gathered-all (λ js fs. ReadsFronts name ps c.args.source.now js fs) _ _ _ _
    (subst (λ v. ReadsFronts name ps c.args.source.now v [])
    (sym (drop_all c.loop-start.start-index c.args.starts.now c.loop-start-test.false)) refl)
    c.loop-start.invariant.read
