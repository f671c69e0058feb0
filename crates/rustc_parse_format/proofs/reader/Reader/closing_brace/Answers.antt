use Rattle.std.proofs.Common.{◌∙◌, ap, sym}
use Rattle.rustc_parse_format.specs.Characters.{begins_with}
use Rattle.rustc_parse_format.specs.CallStates.{CallState}
use Rattle.rustc_parse_format.specs.Views.{pair, seen_argument, seen_mode}
use Rattle.rustc_parse_format.proofs.Walking.Nexts.{on_ok}
use Rattle.rustc_parse_format.proofs.Readers.Placeholders.{brace-closes, missing-closes}
use Rattle.rustc_parse_format.proofs.reader.Reader.closing_brace.Goals as goal

pub returns-then-is_next-clause-state : goal.returns-then-is_next-clause-state
returns-then-is_next-clause-state c =
    let at = ap (λ (x : CallState). x.rest) c.self.view_is in
    λ o a e f. brace-closes c.args.self.now c.consume_closing_brace.new.self
    (seen_mode c.args.mode) (pair c.args.opening)
    (ap (begins_with 125) (sym at) ∙ (sym c.is_next.ensures ∙ c.if-is_next.true))
    c.consume_closing_brace.ensures.state o a e

pub returns-clause-state : goal.returns-clause-state
returns-clause-state c =
    let at = ap (λ (x : CallState). x.rest) c.self.view_is in
    on_ok c.recover.result c.recover.ensures.state
    (missing-closes c.args.self.now c.missing_closing_brace.new.self c.recover.new.self
    (seen_mode c.args.mode) (pair c.args.opening)
    (seen_argument c.args.argument.now)
    (ap (begins_with 125) (sym at) ∙ (sym c.is_next.ensures ∙ c.if-is_next.false))
    c.in_ok-missing_closing_brace.ensures.state)
