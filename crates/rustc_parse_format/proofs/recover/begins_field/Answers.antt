use Rattle.std.proofs.Common.{◌∙◌, ap, ◌&&◌, sym}
use Rattle.rustc_parse_format.specs.Views.{seen_argument}
use Rattle.rustc_parse_format.specs.Identifiers.{is_identifier}
use Rattle.std.proofs.lemmas.Bool.{eq-eqb}
use Rattle.rustc_parse_format.proofs.Grammar.Identifiers.{identifier_decided}
use Rattle.rustc_parse_format.proofs.recover.begins_field.Goals as goal

pub returns-then-sign-eq46 : goal.returns-then-sign-eq46
returns-then-sign-eq46 c =
    identifier_decided c.is_identifier.result
    (seen_argument c.args.argument.now) c.is_identifier.ensures
    ∙ ap (λ b. b && is_identifier (seen_argument c.args.argument.now))
    (sym (eq-eqb c.args.sign 46 c.if-sign-eq46.true))
