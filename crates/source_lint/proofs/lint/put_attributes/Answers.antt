use Rattle.std.proofs.Common.{[], codes, inl, inr, refl, subst, sym, true≢false}
use Rattle.std.proofs.lemmas.List.{append-nil}
use Rattle.std.proofs.lemmas.Str.Pattern.{contains_text}
use Rattle.asm_lint.specs.Attributes.{ReadsItems}
use Rattle.source_lint.proofs.Reporting.{same-leaves}
use Rattle.source_lint.proofs.lint.put_attributes.Goals as goal

pub returns-then-not-contains-clause-read : goal.returns-then-not-contains-clause-read
returns-then-not-contains-clause-read c = λ ls l. (
  [],
  sym (append-nil _),
  inr (
    λ h. true≢false (sym ((contains_text _ (codes "on_unimplemented") c.args.text.now
        c.if-not-contains.ensures.cases).1 h)),
    refl,
  ),
)

pub returns-clause-read : goal.returns-clause-read
returns-clause-read c = λ ls l.
    let r = c.in_ok-read_attributes.ensures.read in (
      r.1,
      r.2,
      inl (
        (contains_text _ (codes "on_unimplemented") c.args.text.now
            c.if-not-contains.ensures.cases).0 refl,
        (
          r.0,
          subst (λ v. ReadsItems v 0 r.0 r.1)
              (same-leaves c.args.text.now _ ls c.in_ok-source.ensures l) r.3,
        ),
      ),
    )
