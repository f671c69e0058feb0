use Rattle.std.proofs.Common.{◌≡◌, ℕ, ◌+◌, ◌-◌, length, refl, sym, ap, ◌∙◌, arith}
use Rattle.std.proofs.lemmas.List.{length-map}
use Rattle.rustc_parse_format.specs.Views.{pair, seen_error}
use Rattle.rustc_parse_format.specs.State.{State, next_call}
use Rattle.flat_reading.specs.Meaning.{maybe_place}
use Rattle.flat_reading.proofs.Walking.{described}
use Rattle.flat_reading.specs.Events.{fronts_in, position}
use Rattle.flat_reading.proofs.Escaped.{read_at}
use Rattle.flat_reading.proofs.Standing.{last, stands, still_ends}
use Rattle.flat_reading.proofs.Finding.{add_finders-is, few_fronts, length-after}
use Rattle.flat_reading.proofs.walk.step.Goals as goal

pub put_piece-requires-clause-last : goal.put_piece-requires-clause-last
put_piece-requires-clause-last c =
    let read = c.put_state.ensures.offset
    ∙ ap (λ (s : State). position s.input s.rest) c.in_ok-piece.ensures.state in
    let s = c.args.parser.now in
    let r = c.args.reading.now in
    let ready = c.requires.ready in
    last r.input.now s _ _ ready.utf8 ready.input ready.left read c.in_ok-piece.ensures.piece

pub put_piece-requires-clause-stands : goal.put_piece-requires-clause-stands
put_piece-requires-clause-stands c =
    let s = c.args.parser.now in
    let r = c.args.reading.now in
    let ready = c.requires.ready in
    stands r.input.now s r.offset r.escapes _ ready.utf8 ready.input ready.left ready.plain
    c.in_ok-piece.ensures.piece

pub put_piece-requires-clause-read : goal.put_piece-requires-clause-read
put_piece-requires-clause-read c =
    let s = c.args.parser.now in
    let r = c.args.reading.now in
    let ready = c.requires.ready in
    read_at r.input.now s r.escapes _ _ _ ready.utf8 ready.input ready.left ready.mode
    c.position-start.ensures c.curarg-next.ensures.value
    c.curarg-next.ensures.fits c.in_ok-piece.ensures.piece

pub overflow_sub-count : goal.overflow_sub-count
overflow_sub-count c =
    let before = sym (length-map c.errors-faults.result.now seen_error)
    ∙ ap length c.errors-faults.ensures in
    let rest_after = sym (length-map c.errors.result.now seen_error) ∙ ap length c.errors.ensures in
    let grown = ap (λ (s : State). length s.errors) c.in_ok-piece.ensures.state
    ∙ length-after c.args.parser.now (next_call c.args.parser.now) in
    omega (arith, before, rest_after, grown)

pub add-requires : goal.add-requires
add-requires c =
    let before = sym (length-map c.errors-faults.result.now seen_error)
    ∙ ap length c.errors-faults.ensures in
    let rest_after = sym (length-map c.errors.result.now seen_error) ∙ ap length c.errors.ensures in
    let grown = ap (λ (s : State). length s.errors) c.in_ok-piece.ensures.state
    ∙ length-after c.args.parser.now (next_call c.args.parser.now) in
    let few = few_fronts (next_call c.args.parser.now).faults in
    let front_count : c.in_ok-piece.field-0.front_errors
    ≡ fronts_in (next_call c.args.parser.now) =
    c.in_ok-piece.ensures.front_count in
    omega (arith, before, rest_after, grown, few, front_count)

pub returns-clause-described : goal.returns-clause-described
returns-clause-described c = λ room.
    let r = c.args.reading.now in
    let s = c.args.parser.now in
    let state = c.in_ok-piece.ensures.state in
    let kept = c.in_ok-put_piece.ensures.others in
    let place = rw state at c.put_closed_place.ensures in
    let t = c.next_into.new.self in
    described r.input.now c.put_piece.new.specs.records.now c.put_piece.new.step s t
    state
    (c.in_ok-put_piece.ensures.described room ∙ c.in_ok-piece.ensures.piece)
    (ap (λ (n : ℕ). maybe_place n c.put_piece.new.step.place) kept.0
    ∙ ap (maybe_place c.put_closed_place.new.has_place) kept.1
    ∙ place s.arg_places (next_call s).closes (sym (length-map c.arg_places-places.result.now pair)
    ∙ ap length c.arg_places-places.ensures) refl)
    (kept.2 ∙ c.put_state.ensures.offset)
    (kept.3 ∙ c.put_state.ensures.next_index)
    (kept.4 ∙ c.put_state.ensures.lines)

pub returns-clause-call : goal.returns-clause-call
returns-clause-call c =
    let old = c.args.parser.now in
    let ready = c.requires.ready in
    let before = sym (length-map c.errors-faults.result.now seen_error)
    ∙ ap length c.errors-faults.ensures in
    let rest_after = sym (length-map c.errors.result.now seen_error) ∙ ap length c.errors.ensures in
    let grown = ap (λ (s : State). length s.errors) c.in_ok-piece.ensures.state
    ∙ length-after old (next_call old) in
    let fs = (next_call old).faults in
    let front_count : c.in_ok-piece.field-0.front_errors ≡ fronts_in (next_call old) =
    c.in_ok-piece.ensures.front_count in
    let found : length c.errors.result.now - length c.errors-faults.result.now
    ≡ length fs = omega (arith, before, rest_after, grown) in
    let t = c.next_into.new.self in
    let state = c.in_ok-piece.ensures.state in
    record {
      state = state;
      ready = record {
        utf8 = ready.utf8;
        input = ready.input ∙ sym (ap (λ (s : State). s.input) state);
        left = still_ends old t ready.left state;
        plain = rw state ready.plain;
        mode = rw state ready.mode;
      };
      finders = rw (found, front_count) at c.in_ok-add.ensures.calls
          ∙ sym (add_finders-is c.args.number c.args.finders.now.calls fs);
      front_count = c.in_ok-add.ensures.front_count
          ∙ ap (λ n. c.args.finders.now.front_count + n) front_count;
    }
