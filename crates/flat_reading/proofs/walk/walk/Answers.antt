use Rattle.std.proofs.Common.{◌≡◌, ◌+◌, [], take, refl, sym, ◌∙◌, arith}
use Rattle.std.proofs.lemmas.List.{append-nil, take-take}
use Rattle.rustc_parse_format.specs.State.{next_call}
use Rattle.flat_reading.specs.Events.{event, fronts_in, given_piece, spec_count, specs_in}
use Rattle.flat_reading.proofs.Walking.{end_finders, end_fronts, end_specs, kept_put, kept_seen}
use Rattle.flat_reading.proofs.Walking.{one_more, same_meant, states-end}
use Rattle.flat_reading.proofs.walk.walk.Goals as goal

pub returns : goal.returns
returns c =
    let r = c.args.reading.now in
    let s0 = c.args.parser.now in
    let s = c.add_steps.new.parser in
    let all = c.in_ok-count.ensures in
    let end = all.end in
    let count = c.in_ok-count.count in
    let state = c.in_ok-add_end.ensures.state in
    let used = c.add_steps.new.specs.count in
    let specs = c.add_steps.new.specs.records.now in
    let found = c.add_steps.new.finders in
    let added = c.in_ok-add_end.ensures.added r.input.now used specs in
    let none : used ≡ used + specs_in (given_piece s) = omega (arith, end_specs s end) in
    let no_fronts : found.front_count ≡ found.front_count + fronts_in (next_call s) =
    omega (arith, end_fronts s end) in
    let last =
    one_more r.input.now s0 s c.add_end.new.parser [] count used used found found
    c.add_steps.new.steps c.add_end.new.steps specs specs c.add_steps.new.peeks c.add_peek.new.peeks
    (rw (states-end s end) at all.up_to)
    state none (sym (end_finders count found.calls s end)) no_fronts added refl refl
    c.add_peek.ensures in
    let counted : used ≡ spec_count s0 = omega (arith, last.specs_counted) in
    record {
      count = omega (arith, last.counted);
      specs = rw (sym counted) all.specs;
      room = all.room;
      written = λ room specs_room. same_meant r.input.now (take used specs) specs used _
          (take-take used used specs (omega arith)) last.few
          ∙ sym (append-nil _)
          ∙ last.written (omega (arith, c.add_end.auto.steps, c.add_steps.auto.steps, room))
          (omega (arith, all.specs.room, specs_room));
      seen = λ room. sym (append-nil _)
          ∙ last.seen (omega (arith, c.add_peek.auto.peeks, c.add_steps.auto.peeks, room));
      state = last.state;
      finders = last.finders;
      front_count = omega (arith, last.front_count);
      kept_steps =
          kept_put r.input.now (event s) c.add_steps.new.steps c.add_end.new.steps
          c.args.steps.now specs count used added all.kept_steps;
      kept_peeks = kept_seen s c.add_steps.new.peeks c.add_peek.new.peeks c.args.peeks.now count
          c.add_peek.ensures all.kept_peeks;
    }
