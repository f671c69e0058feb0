use Rattle.std.proofs.Common.{sym, ◌∙◌}
use Rattle.std.proofs.lemmas.Bool.{eq-eqb, eqb-true, false≢true}
use Rattle.format_literal.proofs.RawTokens.{first-token, raw-token}
use Rattle.format_literal.proofs.validity.is_raw_token.Goals as goal

pub returns-then-token : goal.returns-then-token
returns-then-token c =
    let b = c.in-Some.ensures.begins in (
      λ e. raw-token _ _ b.0 b.1 c.utf8.text b.2 b.3 c.in-RawStr.is c.if-token.true
          (eqb-true _ _ e),
      λ h. eq-eqb _ _ (first-token _ _ b.0 b.1 c.utf8.text b.2 b.3 h).whole,
    )

pub returns-else-token : goal.returns-else-token
returns-else-token c =
    let b = c.in-Some.ensures.begins in (
      λ e. absurd (false≢true (sym c.if-token.false ∙ e)),
      λ h. (first-token _ _ b.0 b.1 c.utf8.text b.2 b.3 h).is_ended,
    )

pub returns-in_default-kind : goal.returns-in_default-kind
returns-in_default-kind c =
    let b = c.in-Some.ensures.begins in (
      λ e. absurd (false≢true e),
      λ h. absurd (c.in_default-kind.not-RawStr
          (first-token _ _ b.0 b.1 c.utf8.text b.2 b.3 h).is_raw),
    )
