use Rattle.std.proofs.Common.{◌-◌, ap, ◌∙◌, refl}
use Rattle.std.proofs.lemmas.Result.{IfOk-weaker, MatchResult-weaker}
use Rattle.rustc_parse_format.specs.Characters.{byte_length}
use Rattle.rustc_parse_format.specs.Placeholder.{cut}
use Rattle.rustc_parse_format.specs.Types.{bare_argument}
use Rattle.rustc_parse_format.proofs.Grammar.BareValues.{argument-bare}
use Rattle.rustc_parse_format.proofs.Walking.ReadPieces.{none_given}
use Rattle.format_tokens.proofs.Calls.{argument-given, argument-opens, none-took, text-given}
use Rattle.format_tokens.proofs.walk.label.Goals as goal

pub returns-in-Lit : goal.returns-in-Lit
returns-in-Lit c =
    rw (c.in-Some.is, c.in-Lit.is) (IfOk-weaker c.literal.result _ _
    (λ rest_after h w n e. h _ n _ (text-given w _ _ e))
    c.literal.ensures)

pub returns-in-NextArgument : goal.returns-in-NextArgument
returns-in-NextArgument c =
    rw (c.in-Some.is, c.in-NextArgument.is) (MatchResult-weaker c.placeholder.result
    c.placeholder.ensures
    (λ rest_after h w n e left.
    let g = argument-given w _ _ e in
    let o = argument-opens _ n _ g.argument g.is in
    rw (o.same, o.tokens) (h n o.inside o.opens
    (g.same ∙ (ap bare_argument o.means ∙ argument-bare n (cut _ o.inside)))
    (left ∙ ap (λ k. byte_length k.rest) o.same)))
    (λ _ k. k))

pub returns-in_default : goal.returns-in_default
returns-in_default c =
    rw c.in_default.is (IfOk-weaker c.take.result _ _
    (λ rest_after h w n e. none-took _ n _ _ _ _ _ _ _ refl (none_given w _ e)
    (c.saturating_sub.ensures ∙ ap (λ k. k - c.args.rest_len) c.width_of.ensures) h)
    c.take.ensures)
