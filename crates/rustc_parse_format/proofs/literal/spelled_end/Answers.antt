use Rattle.std.proofs.Common.{◌≡◌, ◌≢◌, ◌+◌, ◌-◌, ◌≤◌, None, Some, [], true, false, ap, sym, ◌∙◌}
use Rattle.std.proofs.Common.{chars, length, arith, if◌then◌else◌}
use Rattle.std.proofs.lemmas.Bool.{both_ways}
use Rattle.rustc_parse_format.specs.Characters.{byte_length, begins_with}
use Rattle.rustc_parse_format.specs.LiteralUnits.{meaning, unit_at, at_most_one}
use Rattle.rustc_parse_format.proofs.Literals.Meanings.{meaning-narrower, meaning-shorter}
use Rattle.rustc_parse_format.proofs.Literals.Widths.{width-chars}
use Rattle.rustc_parse_format.proofs.Literals.Ends.{end-none, end-nothing, end-differs, end-agrees}
use Rattle.rustc_parse_format.proofs.Literals.Ends.{end-over, ends-plain}
use Rattle.rustc_parse_format.proofs.literal.spelled_end.Goals as goal

pub overflow_sub-end : goal.overflow_sub-end
overflow_sub-end c =
    let shared = ends-plain _ _ _ _
    (rw (c.new-rest.ensures, c.new-expected.ensures) at c.skip_plain.ensures) in
    omega (arith, c.len.ensures, shared.narrower, width-chars c.args.content.now c.utf8.content)

pub loop-rest-init : goal.loop-rest-init
loop-rest-init c =
    let total = length c.args.content.now + 1 in
    let shared = ends-plain _ _ _ _
    (rw (c.new-rest.ensures, c.new-expected.ensures) at c.skip_plain.ensures) in
    let size = width-chars c.args.content.now c.utf8.content in
    let narrower : byte_length c.skip_plain.new.self ≤ byte_length (chars c.args.content.now) =
    shared.narrower in
    record {
      answer =
          rw (c.len.ensures)
          (sym (shared.ends 1 (total - byte_length c.skip_plain.new.self) (omega arith)));
      within = omega arith;
    }

pub returns-in_default : goal.returns-in_default
returns-in_default c =
    let some : c.loop-rest.rest
    ≢ [] = λ e. both_ways _ c.loop-rest-test.true (c.is_empty.ensures.1 e) in
    sym (end-none _ c.loop-rest.end c.loop-rest.rest c.loop-rest.expected some c.in_default.ensures)
    ∙ c.loop-rest.invariant.answer

pub returns-then-not-next_eq : goal.returns-then-not-next_eq
returns-then-not-next_eq c =
    let total = length c.args.content.now + 1 in
    let within = c.loop-rest.invariant.within in
    let narrower : byte_length c.read_unit.new.rest ≤ byte_length c.loop-rest.rest =
    meaning-narrower c.loop-rest.rest
    (at_most_one c.in-Some.value) c.read_unit.new.rest c.in-Some.ensures in
    let differs : begins_with c.in-Some-value.c c.loop-rest.expected
    ≡ false = sym c.next_eq.ensures.value ∙ c.if-not-next_eq.true in
    sym (end-differs (total - byte_length c.loop-rest.rest)
    (total - byte_length c.read_unit.new.rest) c.loop-rest.end
    c.loop-rest.rest c.read_unit.new.rest c.loop-rest.expected
    c.in-Some.value c.in-Some-value.c c.in-Some.ensures c.in-Some-value.is (omega arith) differs)
    ∙ c.loop-rest.invariant.answer

pub overflow_sub-end-in-Some-value : goal.overflow_sub-end-in-Some-value
overflow_sub-end-in-Some-value c =
    let within = c.loop-rest.invariant.within in
    omega (
      arith,
      c.len-in-Some-value.ensures,
      c.skip_alike.ensures.narrower,
      meaning-narrower c.loop-rest.rest
          (at_most_one c.in-Some.value) c.read_unit.new.rest c.in-Some.ensures,
    )

pub loop-rest-smaller-in-Some-value : goal.loop-rest-smaller-in-Some-value
loop-rest-smaller-in-Some-value c =
    omega (
      arith,
      c.skip_alike.ensures.shorter,
      meaning-shorter c.loop-rest.rest (at_most_one c.in-Some.value)
          c.read_unit.new.rest c.in-Some.ensures,
    )

pub loop-rest-preserved-in-Some-value : goal.loop-rest-preserved-in-Some-value
loop-rest-preserved-in-Some-value c =
    let total = length c.args.content.now + 1 in
    let within = c.loop-rest.invariant.within in
    let at = total - byte_length c.loop-rest.rest in
    let f = total - byte_length c.read_unit.new.rest in
    let n = total - byte_length c.skip_alike.new.rest in
    let narrower : byte_length c.read_unit.new.rest ≤ byte_length c.loop-rest.rest =
    meaning-narrower c.loop-rest.rest
    (at_most_one c.in-Some.value) c.read_unit.new.rest c.in-Some.ensures in
    let agrees : begins_with c.in-Some-value.c c.loop-rest.expected
    ≡ true = sym c.next_eq.ensures.value ∙ c.if-not-next_eq.false in
    let shared = rw (c.next_eq.ensures.rest) at c.skip_alike.ensures in
    let less : byte_length c.skip_alike.new.rest
    ≤ byte_length c.read_unit.new.rest = shared.narrower in
    record {
      answer = rw (c.len-in-Some-value.ensures)
          (sym (end-agrees at f c.loop-rest.end c.loop-rest.rest c.read_unit.new.rest
          c.loop-rest.expected
          c.in-Some.value c.in-Some-value.c c.in-Some.ensures c.in-Some-value.is
          (omega arith) agrees
          ∙ shared.ends f n (omega arith))
          ∙ c.loop-rest.invariant.answer);
      within = omega arith;
    }

pub loop-rest-preserved : goal.loop-rest-preserved
loop-rest-preserved c =
    let total = length c.args.content.now + 1 in
    let within = c.loop-rest.invariant.within in
    let narrower : byte_length c.read_unit.new.rest ≤ byte_length c.loop-rest.rest =
    meaning-narrower c.loop-rest.rest
    (at_most_one c.in-Some.value) c.read_unit.new.rest c.in-Some.ensures in
    let nothing : meaning (unit_at c.loop-rest.rest) ≡ Some ([], c.read_unit.new.rest) =
    c.in-Some.ensures
    ∙ ap (λ x. Some (at_most_one x, c.read_unit.new.rest)) c.in_default-value.is in
    record {
      answer =
          sym (end-nothing (total - byte_length c.loop-rest.rest)
          (total - byte_length c.read_unit.new.rest) c.loop-rest.end c.loop-rest.rest
          c.read_unit.new.rest c.loop-rest.expected nothing (omega arith))
          ∙ c.loop-rest.invariant.answer;
      within = omega arith;
    }

pub returns-then-is_empty : goal.returns-then-is_empty
returns-then-is_empty c =
    let over = end-over (length c.args.content.now + 1
    - byte_length c.loop-rest.rest) c.loop-rest.end c.loop-rest.rest c.loop-rest.expected
    c.is_empty-2.result
    (c.is_empty.ensures.0 c.loop-rest-test.false) c.is_empty-2.ensures in
    sym (over ∙ ap (λ b. if b then Some c.loop-rest.end else None) c.if-is_empty.true)
    ∙ c.loop-rest.invariant.answer

pub returns-else-is_empty : goal.returns-else-is_empty
returns-else-is_empty c =
    let over = end-over (length c.args.content.now + 1
    - byte_length c.loop-rest.rest) c.loop-rest.end c.loop-rest.rest c.loop-rest.expected
    c.is_empty-2.result
    (c.is_empty.ensures.0 c.loop-rest-test.false) c.is_empty-2.ensures in
    sym (over ∙ ap (λ b. if b then Some c.loop-rest.end else None) c.if-is_empty.false)
    ∙ c.loop-rest.invariant.answer
