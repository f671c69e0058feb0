use Rattle.std.proofs.Common.{string_bytes, chars, ap, sym, ◌∙◌, append-nil, ◌++◌}
use Rattle.std.proofs.lemmas.Str.{IsUtf8-string_bytes, chars-append}
use Rattle.rustc_parse_format.specs.Characters.{front}
use Rattle.rustc_parse_format.specs.LiteralUnits.{is_plain}
use Rattle.rustc_parse_format.proofs.Literals.Texts.{no_bytes, no_chars}
use Rattle.rustc_parse_format.proofs.literal.put_plain.Goals as goal

pub returns-in_err-push_str-clause-empty : goal.returns-in_err-push_str-clause-empty
returns-in_err-push_str-clause-empty c e =
    absurd (no_bytes c.take_run-run.result.now c.take_run-run.utf8
    (c.take_run-run.ensures.run ∙ ap (front is_plain) e)
    (sym c.is_empty.ensures ∙ c.if-not-is_empty.true))

pub returns-in_ok-push_str-clause-text : goal.returns-in_ok-push_str-clause-text
returns-in_ok-push_str-clause-text c =
    ap chars c.in_ok-push_str.ensures.bytes
    ∙ (chars-append (string_bytes c.args.text.now) c.take_run-run.result.now
    (IsUtf8-string_bytes c.args.text.now)
    ∙ ap (λ x. chars (string_bytes c.args.text.now) ++ x) c.take_run-run.ensures.run)

pub returns-else-not-is_empty-clause-text : goal.returns-else-not-is_empty-clause-text
returns-else-not-is_empty-clause-text c =
    sym (ap (λ x. chars (string_bytes c.args.text.now) ++ x)
    (sym c.take_run-run.ensures.run ∙ no_chars c.take_run-run.result.now
    (sym c.is_empty.ensures ∙ c.if-not-is_empty.false))
    ∙ append-nil (chars (string_bytes c.args.text.now)))
