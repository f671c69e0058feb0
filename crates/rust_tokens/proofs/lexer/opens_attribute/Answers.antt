use Rattle.std.proofs.Common.{rules, chars, refl, ap, sym, ◌∙◌}
use Rattle.rust_tokens.specs.Files.{is_gap}
use Rattle.rust_tokens.proofs.Files.{attribute-there, no-attribute, no-attribute-at-end}
use Rattle.rust_tokens.proofs.Files.{passed-more}
use Rattle.rust_tokens.proofs.lexer.opens_attribute.Goals as goal

pub returns-then-not-is_gap-clause-no : goal.returns-then-not-is_gap-clause-no
returns-then-not-is_gap-clause-no c f a =
    let b = c.in-Some.ensures.begins in
    no-attribute (λ r. chars r.now) _ _ _ _ b.0 c.loop-step.invariant.passed b.1
    (ap (λ k. is_gap k) b.2 ∙ (sym c.is_gap.ensures ∙ c.if-not-is_gap.true)) c.strip.ensures
    (sym c.is_some.ensures ∙ f) a

pub returns-then-not-is_gap-clause-yes : goal.returns-then-not-is_gap-clause-yes
returns-then-not-is_gap-clause-yes c f =
    attribute-there (λ r. chars r.now) _ _ _ c.loop-step.invariant.passed c.strip.ensures
    (sym c.is_some.ensures ∙ f)

pub loop-step-preserved : goal.loop-step-preserved
loop-step-preserved c =
    let b = c.in-Some.ensures.begins in
    record {
      passed = passed-more _ _ _ b.0 c.loop-step.invariant.passed b.1
          (ap (λ k. is_gap k) b.2 ∙ (sym c.is_gap.ensures ∙ c.if-not-is_gap.false));
      utf8 = search rules;
    }

pub returns-clause-no : goal.returns-clause-no
returns-clause-no c f a =
    no-attribute-at-end _ _ c.loop-step.invariant.passed (c.in_default.ensures.none refl) a
