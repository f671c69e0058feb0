use Rattle.std.proofs.Common.{◌≡◌, Some, subst, sym}
use Rattle.format_calls.specs.Strings.{first_text}
use Rattle.format_calls.proofs.StringArguments.{text-found}
use Rattle.format_calls.proofs.strings.format_string.Goals as goal

pub returns-in-Index-clause-literal : goal.returns-in-Index-clause-literal
returns-in-Index-clause-literal c =
    rw c.in-Index.is (rw c.tokens-tokens.ensures at c.string_at.ensures.literal)

pub returns-in-Templates-clause-literal : goal.returns-in-Templates-clause-literal
returns-in-Templates-clause-literal c =
    rw c.in-Templates.is
    (rw c.tokens-tokens.ensures at c.string_at-in-Templates.ensures.literal)

pub returns-in-IndexByEdition-clause-literal : goal.returns-in-IndexByEdition-clause-literal
returns-in-IndexByEdition-clause-literal c =
    rw c.in-IndexByEdition.is
    (rw c.tokens-tokens.ensures at c.string_at-in-IndexByEdition.ensures.literal)

pub returns-in-Some-clause-literal : goal.returns-in-Some-clause-literal
returns-in-Some-clause-literal c =
    rw c.in-FirstLiteral.is (text-found c.args.source.now c.args.arguments.now c.in-Some.index
    (sym (subst (λ v. Some c.in-Some.index ≡ first_text v c.args.arguments.now)
    c.tokens-tokens.ensures c.in-Some.ensures)))
