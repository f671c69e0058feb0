use Rattle.std.proofs.Common.{◌++◌, [], chars, string_bytes, ap, arith}
use Rattle.std.proofs.Common.{append-nil, sym, subst, ◌∙◌, length, IsOk}
use Rattle.std.proofs.lemmas.Bool.{both_ways, false≢true}
use Rattle.std.proofs.lemmas.Str.{chars-nil}
use Rattle.rustc_parse_format.specs.LiteralUnits.{at_most_one, is_plain}
use Rattle.rustc_parse_format.specs.Characters.{rest_after, front}
use Rattle.rustc_parse_format.proofs.Sources.Contents.{rest_after-shorter}
use Rattle.rustc_parse_format.proofs.Literals.Meanings.{meaning-shorter}
use Rattle.rustc_parse_format.proofs.Literals.Texts.{IsTextSoFar, so_far-none, so_far-plain}
use Rattle.rustc_parse_format.proofs.Literals.Texts.{so_far-unit}
use Rattle.rustc_parse_format.proofs.Literals.Texts.{text-found, text-refused}
use Rattle.rustc_parse_format.proofs.literal.content_text.Goals.{in-Some-value+in_ok-put_char}
use Rattle.rustc_parse_format.proofs.literal.content_text.Goals.{in_default-value}
use Rattle.rustc_parse_format.proofs.literal.content_text.Goals as goal

pub returns-in_err-put_plain-clause-empty : goal.returns-in_err-put_plain-clause-empty
returns-in_err-put_plain-clause-empty c e =
    absurd (false≢true (subst IsOk c.in_err-put_plain.was
    (c.put_plain.ensures.empty (c.new-rest.ensures ∙ (ap chars e ∙ chars-nil)))))

pub loop-rest-init : goal.loop-rest-init
loop-rest-init c = record {
  so_far =
      rw (c.in_ok-put_plain.ensures.rest, c.new-rest.ensures)
      (so_far-plain [] _ (chars c.args.content.now) (chars c.args.content.now)
      (so_far-none (chars c.args.content.now))
      (c.in_ok-put_plain.ensures.text
      ∙ (ap (λ x. chars x ++ front is_plain c.new-rest.result) c.in_ok-text.ensures.bytes
      ∙ (ap (λ x. x ++ front is_plain c.new-rest.result) chars-nil
      ∙ ap (front is_plain) c.new-rest.ensures))));
  empty = λ e. c.in_ok-put_plain.ensures.rest ∙ ap (rest_after is_plain) (c.new-rest.ensures ∙ e);
}

pub returns-in_default-clause-none : goal.returns-in_default-clause-none
returns-in_default-clause-none c =
    text-refused _ c.loop-rest.rest (chars c.args.content.now) c.loop-rest.invariant.so_far
    (λ e. both_ways _ c.loop-rest-test.true (c.is_empty.ensures.1 e)) c.in_default.ensures

pub returns-in_err-put_char-clause-empty : goal.returns-in_err-put_char-clause-empty
returns-in_err-put_char-clause-empty c e =
    absurd (both_ways _ c.loop-rest-test.true
    (c.is_empty.ensures.1 (c.loop-rest.invariant.empty (ap chars e ∙ chars-nil))))

pub returns-in_err-put_plain-2-clause-empty : goal.returns-in_err-put_plain-2-clause-empty
returns-in_err-put_plain-2-clause-empty c e =
    absurd (both_ways _ c.loop-rest-test.true
    (c.is_empty.ensures.1 (c.loop-rest.invariant.empty (ap chars e ∙ chars-nil))))

pub loop-rest-smaller : goal.loop-rest-smaller
loop-rest-smaller c = omega (
  arith,
  ap length c.in_ok-put_plain-2.ensures.rest,
  rest_after-shorter is_plain c.read_unit.new.rest,
  meaning-shorter c.loop-rest.rest (at_most_one c.in-Some.value) c.read_unit.new.rest
      c.in-Some.ensures,
)

pub loop-rest-preserved : goal.loop-rest-preserved
loop-rest-preserved c =
    let at = c.loop-rest.rest in
    let whole = chars c.args.content.now in
    let next = elim c.match-value.branch as (λ _.
    IsTextSoFar (chars (string_bytes c.match-value.text))
    c.read_unit.new.rest whole) [
      | in-Some-value+in_ok-put_char w ↦ so_far-unit (chars (string_bytes c.loop-rest.text))
          (at_most_one c.in-Some.value) _ at c.read_unit.new.rest whole c.loop-rest.invariant.so_far
          c.in-Some.ensures
          (ap (λ x. chars (string_bytes x)) w.text-is ∙ (w.in_ok-put_char.ensures
          ∙ ap (λ x. chars (string_bytes c.loop-rest.text) ++ at_most_one x)
          (sym w.in-Some-value.is)))
      | in_default-value w ↦ so_far-unit (chars (string_bytes c.loop-rest.text))
          (at_most_one c.in-Some.value) _ at c.read_unit.new.rest whole c.loop-rest.invariant.so_far
          c.in-Some.ensures
          (ap (λ x. chars (string_bytes x)) w.text-is
          ∙ (sym (append-nil (chars (string_bytes c.loop-rest.text)))
          ∙ ap (λ x. chars (string_bytes c.loop-rest.text) ++ at_most_one x)
          (sym w.in_default-value.is)))
    ] in
    record {
      so_far = rw (c.in_ok-put_plain-2.ensures.rest)
          (so_far-plain _ _ c.read_unit.new.rest whole next c.in_ok-put_plain-2.ensures.text);
      empty = λ e. absurd (both_ways _ c.loop-rest-test.true
          (c.is_empty.ensures.1 (c.loop-rest.invariant.empty e)));
    }

pub returns-clause-found : goal.returns-clause-found
returns-clause-found c =
    rw c.shrink.ensures (text-found _ c.loop-rest.rest (chars c.args.content.now)
    c.loop-rest.invariant.so_far (c.is_empty.ensures.0 c.loop-rest-test.false))
