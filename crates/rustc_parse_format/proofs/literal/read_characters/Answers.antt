use Rattle.std.proofs.Common.{◌≡◌, ◌≢◌, ◌-◌, ◌≤◌, None, [], arith, chars}
use Rattle.std.proofs.lemmas.Bool.{both_ways}
use Rattle.rustc_parse_format.specs.Characters.{byte_length}
use Rattle.rustc_parse_format.specs.LiteralUnits.{meaning, unit_at, at_most_one}
use Rattle.rustc_parse_format.proofs.Literals.Meanings.{meaning-narrower, meaning-shorter}
use Rattle.rustc_parse_format.proofs.Literals.Places.{found-character, found-nothing, found-all}
use Rattle.rustc_parse_format.proofs.Literals.Places.{found-none}
use Rattle.rustc_parse_format.proofs.literal.read_characters.Goals as goal

pub returns-in_default-clause-computed : goal.returns-in_default-clause-computed
returns-in_default-clause-computed c =
    let some : c.loop-rest.rest
    ≢ [] = λ e. both_ways _ c.loop-rest-test.true (c.is_empty.ensures.1 e) in
    let none : meaning (unit_at c.loop-rest.rest) ≡ None = c.in_default.ensures in
    found-none c.loop-rest.at c.loop-rest.rest
    (chars c.args.content.now) c.loop-rest.list.items c.loop-rest.invariant.so_far some none

pub overflow_sub-end : goal.overflow_sub-end
overflow_sub-end c =
    let narrower : byte_length c.read_unit.new.rest ≤ byte_length c.loop-rest.rest =
    meaning-narrower c.loop-rest.rest
    (at_most_one c.in-Some.value) c.read_unit.new.rest c.in-Some.ensures in
    omega arith

pub loop-rest-preserved-in_ok-push : goal.loop-rest-preserved-in_ok-push
loop-rest-preserved-in_ok-push c =
    let narrower : byte_length c.read_unit.new.rest ≤ byte_length c.loop-rest.rest =
    meaning-narrower c.loop-rest.rest
    (at_most_one c.in-Some.value) c.read_unit.new.rest c.in-Some.ensures in
    record {
      empty = λ e. absurd
          (both_ways _ c.loop-rest-test.true
          (c.is_empty.ensures.1 (c.loop-rest.invariant.empty e)));
      so_far = found-character c.loop-rest.at (c.len-total.result
          - c.len.result) c.in-Some-value.c c.loop-rest.rest c.read_unit.new.rest
          (chars c.args.content.now) c.in-Some.value
          c.loop-rest.list.items c.push.new.self.items c.loop-rest.invariant.so_far
          c.in-Some.ensures c.in-Some-value.is
          (omega arith) c.in_ok-push.ensures.items;
      position = omega arith;
    }

pub loop-rest-preserved : goal.loop-rest-preserved
loop-rest-preserved c =
    let narrower : byte_length c.read_unit.new.rest ≤ byte_length c.loop-rest.rest =
    meaning-narrower c.loop-rest.rest
    (at_most_one c.in-Some.value) c.read_unit.new.rest c.in-Some.ensures in
    record {
      empty = λ e. absurd
          (both_ways _ c.loop-rest-test.true
          (c.is_empty.ensures.1 (c.loop-rest.invariant.empty e)));
      so_far = found-nothing c.loop-rest.at (c.len-total.result
          - c.len.result) c.loop-rest.rest c.read_unit.new.rest
          (chars c.args.content.now) c.in-Some.value
          c.loop-rest.list.items c.loop-rest.invariant.so_far c.in-Some.ensures
          c.in_default-value.is (omega arith);
      position = omega arith;
    }

pub loop-rest-smaller : goal.loop-rest-smaller
loop-rest-smaller c = meaning-shorter c.loop-rest.rest
    (at_most_one c.in-Some.value) c.read_unit.new.rest c.in-Some.ensures

pub loop-rest-smaller-in_ok-push : goal.loop-rest-smaller-in_ok-push
loop-rest-smaller-in_ok-push c = meaning-shorter c.loop-rest.rest
    (at_most_one c.in-Some.value) c.read_unit.new.rest c.in-Some.ensures

pub returns-clause-computed : goal.returns-clause-computed
returns-clause-computed c =
    found-all c.loop-rest.at c.loop-rest.rest
    (chars c.args.content.now) c.loop-rest.list.items c.loop-rest.invariant.so_far
    (c.is_empty.ensures.0 c.loop-rest-test.false)
