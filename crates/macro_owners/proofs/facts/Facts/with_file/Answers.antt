use Rattle.std.proofs.Common.{◌≡◌, refl, subst, sym, true}
use Rattle.macro_owners.specs.Quiet.{is_quiet}
use Rattle.macro_owners.proofs.Collecting.{Collects, collects-all, collects-next, collects-none}
use Rattle.macro_owners.proofs.facts.Facts.with_file.Goals as goal

pub loop-token-init : goal.loop-token-init
loop-token-init c = (
  subst (λ v. Collects c.new-rest.result c.new-rest.result c.args.self c.args.self v)
      (sym c.first_context-context.ensures) (collects-none c.new-rest.result c.args.self),
  λ h. subst (λ v. is_quiet v ≡ true) (sym c.first_context-context.ensures) refl,
)

pub loop-token-preserved : goal.loop-token-preserved
loop-token-preserved c = (
  collects-next _ _ _ _ _ _ _ _ _ c.loop-token.invariant.0 c.in-Some.ensures.some
      c.in_ok-is_quiet.ensures.adds c.in_ok-is_quiet.ensures.passes,
  c.in_ok-is_quiet.ensures.quiet,
)

pub returns : goal.returns
returns c = collects-all _ _ _ _ _ _ c.loop-token.invariant.0 (c.in_default.ensures.none refl).0
    c.new-rest.ensures.left
