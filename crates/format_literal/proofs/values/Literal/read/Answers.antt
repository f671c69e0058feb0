use Rattle.std.proofs.Common.{◌<◌, ◌^◌, ◌∙◌, arith, chars, length, string_bytes, subst}
use Rattle.std.proofs.Common.{sym}
use Rattle.std.proofs.lemmas.Bool.{false≢true}
use Rattle.format_literal.specs.Spelling.{IsWritten}
use Rattle.format_literal.proofs.Hashes.{fewer-hashes}
use Rattle.format_literal.proofs.Reading.{literal-of, no-other}
use Rattle.format_literal.proofs.values.Literal.read.Goals as goal

pub returns-in_default : goal.returns-in_default
returns-in_default c = λ style t h.
    (rw c.in_default.is at c.in_ok-text.ensures.found) style t (literal-of style _ t h)

pub returns-then-not-is_written : goal.returns-then-not-is_written
returns-then-not-is_written c =
    let found = rw c.in-Some.is at c.in_ok-text.ensures.found in
    no-other c.in-Some.field-0.style _ (chars (string_bytes c.in-Some.field-0.text)) found
    (λ w. false≢true (sym c.if-not-is_written.true ∙ c.is_written.ensures.1
    (subst (λ v. IsWritten c.in-Some.field-0.style (chars c.args.source.now) (chars v))
    (sym c.deref.ensures) w)))

pub invariant_of-result : goal.invariant_of-result
invariant_of-result c =
    let found = rw c.in-Some.is at c.in_ok-text.ensures.found in
    let n : length c.args.source.now < 2 ^ 63 = omega arith in
    record { few_hashes = fewer-hashes _ _ _ c.utf8.source n found }
