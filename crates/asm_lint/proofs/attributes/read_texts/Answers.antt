use Rattle.std.proofs.Common.{[], chars, map, refl, subst, sym}
use Rattle.std.proofs.lemmas.List.{drop_all}
use Rattle.rust_trees.specs.Leaves.{leaf}
use Rattle.asm_lint.specs.Attributes.{ReadsText, ReadsTexts}
use Rattle.asm_lint.specs.Literals.{without_crs}
use Rattle.asm_lint.proofs.Gathering.{gathered-all, gathered-none, slice-step}
use Rattle.asm_lint.proofs.attributes.read_texts.Goals as goal

pub loop-literal-init : goal.loop-literal-init
loop-literal-init c = record { read = gathered-none _ _ _; spans = λ h. h }

pub loop-literal-preserved : goal.loop-literal-preserved
loop-literal-preserved c =
    let name = chars c.args.item.name.now in
    let ps = map (λ p. p.now) c.args.item.parameters.now in
    let r = c.in_ok-read_text.ensures.read in
    record {
      read = slice-step leaf (λ xs fs. ReadsTexts name ps xs fs)
          (λ x fs. ReadsText name ps (without_crs (chars x.text)) fs)
          (λ x xs found others p k. (found, others, refl, p, k)) c.args.literals.now
          c.loop-literal.literal-index _ _ _ _ r.0 c.loop-literal-test.true
          c.loop-literal.invariant.read r.1 r.2;
      spans = λ h. c.in_ok-read_text.ensures.spans (c.loop-literal.invariant.spans h);
    }

pub returns-clause-read : goal.returns-clause-read
returns-clause-read c =
    let name = chars c.args.item.name.now in
    let ps = map (λ p. p.now) c.args.item.parameters.now in
    gathered-all (λ xs fs. ReadsTexts name ps xs fs) _ _ _ _
    (subst (λ v. ReadsTexts name ps (map leaf v) [])
    (sym (drop_all c.loop-literal.literal-index c.args.literals.now c.loop-literal-test.false))
    refl)
    c.loop-literal.invariant.read
