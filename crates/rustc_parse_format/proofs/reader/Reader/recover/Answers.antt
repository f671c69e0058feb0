use Rattle.std.proofs.Common.{◌∙◌, ap, sym}
use Rattle.rustc_parse_format.specs.Characters.{Text, first, after_first}
use Rattle.rustc_parse_format.specs.CallStates.{CallState}
use Rattle.rustc_parse_format.specs.Views.{pair, seen_argument, seen_mode}
use Rattle.rustc_parse_format.proofs.Walking.Nexts.{on_ok}
use Rattle.rustc_parse_format.proofs.Readers.Recoveries.{nothing_left, short-recovers}
use Rattle.rustc_parse_format.proofs.Readers.Recoveries.{field-recovers, late_debug-recovers}
use Rattle.rustc_parse_format.proofs.Readers.Recoveries.{sign-recovers}
use Rattle.rustc_parse_format.proofs.reader.Reader.recover.Goals as goal

pub returns-in_default-clause-state : goal.returns-in_default-clause-state
returns-in_default-clause-state c =
    let at = ap (λ (x : CallState). x.rest) c.self.view_is in
    short-recovers c.args.self.now (seen_mode c.args.mode) (pair c.args.opening)
    (seen_argument c.args.argument.now)
    (nothing_left c.args.self.now.rest (ap first (sym at) ∙ (sym c.peek.ensures ∙ c.in_default.is)))

pub returns-in_default-peek_ahead-clause-state : goal.returns-in_default-peek_ahead-clause-state
returns-in_default-peek_ahead-clause-state c =
    let at = ap (λ (x : CallState). x.rest) c.self.view_is in
    short-recovers c.args.self.now (seen_mode c.args.mode) (pair c.args.opening)
    (seen_argument c.args.argument.now)
    (ap (λ (t : Text). first (after_first t)) (sym at) ∙
    (sym c.peek_ahead.ensures ∙ c.in_default-peek_ahead.is))

pub returns-then-begins_field-clause-state : goal.returns-then-begins_field-clause-state
returns-then-begins_field-clause-state c =
    let at = ap (λ (x : CallState). x.rest) c.self.view_is in
    on_ok c.suggest_positional_arg_instead_of_captured_arg.result
    c.suggest_positional_arg_instead_of_captured_arg.ensures.state
    (field-recovers c.args.self.now c.suggest_positional_arg_instead_of_captured_arg.new.self
    (seen_mode c.args.mode) (pair c.args.opening) (seen_argument c.args.argument.now)
    c.in-Some.sign c.in-Some-peek_ahead.next
    (ap first (sym at) ∙ (sym c.peek.ensures ∙ c.in-Some.is))
    (ap (λ (t : Text). first (after_first t)) (sym at) ∙
    (sym c.peek_ahead.ensures ∙ c.in-Some-peek_ahead.is))
    (sym c.if-begins_field.true ∙ c.begins_field.ensures))

pub returns-then-begins_late_debug-clause-state : goal.returns-then-begins_late_debug-clause-state
returns-then-begins_late_debug-clause-state c =
    let at = ap (λ (x : CallState). x.rest) c.self.view_is in
    on_ok c.suggest_format_debug.result c.suggest_format_debug.ensures.state
    (late_debug-recovers c.args.self.now c.suggest_format_debug.new.self (seen_mode c.args.mode)
    (pair c.args.opening) (seen_argument c.args.argument.now)
    c.in-Some.sign c.in-Some-peek_ahead.next
    (ap first (sym at) ∙ (sym c.peek.ensures ∙ c.in-Some.is))
    (ap (λ (t : Text). first (after_first t)) (sym at) ∙
    (sym c.peek_ahead.ensures ∙ c.in-Some-peek_ahead.is))
    (sym c.if-begins_field.false ∙ c.begins_field.ensures)
    (sym c.if-begins_late_debug.true ∙ c.begins_late_debug.ensures))

pub returns-clause-state : goal.returns-clause-state
returns-clause-state c =
    let at = ap (λ (x : CallState). x.rest) c.self.view_is in
    on_ok c.suggest_sign.result c.suggest_sign.ensures.state
    (sign-recovers c.args.self.now c.suggest_sign.new.self (seen_mode c.args.mode)
    (pair c.args.opening) (seen_argument c.args.argument.now)
    c.in-Some.sign c.in-Some-peek_ahead.next
    (ap first (sym at) ∙ (sym c.peek.ensures ∙ c.in-Some.is))
    (ap (λ (t : Text). first (after_first t)) (sym at) ∙
    (sym c.peek_ahead.ensures ∙ c.in-Some-peek_ahead.is))
    (sym c.if-begins_field.false ∙ c.begins_field.ensures)
    (sym c.if-begins_late_debug.false ∙ c.begins_late_debug.ensures))
