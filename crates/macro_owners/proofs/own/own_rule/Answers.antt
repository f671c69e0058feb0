use Rattle.std.proofs.Common.{◌≡◌, ◌+◌, ◌∙◌, Some, ℕ, ap, not, refl, subst}
use Rattle.std.specs.Prelude.{Contains, IsTrue}
use Rattle.format_calls.specs.declared.listing.Call.{Call}
use Rattle.macro_owners.specs.Given.{given_name}
use Rattle.macro_owners.specs.Own.{is_same}
use Rattle.macro_owners.proofs.Owning.{IsKnownWithin, owns}
use Rattle.macro_owners.proofs.own.own_rule.Goals as goal

pub returns : goal.returns
returns c =
    let n = c.args.given.name in
    let cs = c.args.calls.now in
    let close = c.in_ok-close.close in
    owns cs c.requires.given.0 c.args.source.now c.args.names.now c.args.given c.in_ok-rule.rule
    (n + 1) close c.requires.given.1 c.requires.is_one
    (c.is_none.ensures ∙ ap not c.if-is_none.false)
    refl c.in_ok-close.ensures.some c.in_ok-rule.ensures
    (subst (λ v. (d : Call) → Contains cs d → IsKnownWithin v (n + 1) close d)
    c.tokens-tokens.ensures (c.if-not-are_known.ensures refl))
    (subst (λ v. (i j : ℕ) → given_name v i ≡ Some j → IsTrue (is_same v j n) → j ≡ n)
    c.tokens-tokens.ensures (c.if-not-is_alone.ensures refl))
    (c.if-not-is_in_sight.ensures.calls refl) (c.if-not-is_in_sight.ensures.shown refl)
