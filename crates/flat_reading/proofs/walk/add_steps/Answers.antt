use Rattle.std.proofs.Common.{length, refl, sym, ap, ◌∙◌, arith}
use Rattle.rustc_parse_format.specs.State.{State}
use Rattle.flat_reading.specs.Events.{event, given_piece, specs_in, states}
use Rattle.flat_reading.proofs.Widths.{none_left, some_left}
use Rattle.flat_reading.proofs.Cuts.{is_none_of}
use Rattle.flat_reading.proofs.Walking.{added_on, begin, goes_on, kept_put, kept_seen, one_more}
use Rattle.flat_reading.proofs.Walking.{states-more}
use Rattle.flat_reading.proofs.walk.add_steps.Goals as goal

pub returns-then-is_empty : goal.returns-then-is_empty
returns-then-is_empty c =
    let r = c.args.reading.now in
    let s = c.args.parser.now in
    let ready = c.requires.ready in
    record {
      end = none_left r.input.now s.input s.rest 0 ready.utf8 ready.input ready.left
          (rw c.requires.start (omega arith))
          (omega (arith, is_none_of _ (sym c.is_empty.ensures ∙ c.if-is_empty.true)));
      small = omega arith;
      up_to = rw c.requires.empty
          (begin r.input.now s c.args.finders.now c.args.steps.now c.args.specs.now.records.now
          c.args.peeks.now
          (ap (λ f. f.calls) c.requires.none) (ap (λ f. f.front_count) c.requires.none));
      specs = record {
        same = refl;
        room = refl;
        used = omega (arith, c.requires.empty);
        front = refl;
        kept = refl;
      };
      room = (refl, refl);
      kept_steps = refl;
      kept_peeks = refl;
    }

pub loop-offset-init : goal.loop-offset-init
loop-offset-init c =
    let r = c.args.reading.now in
    record {
      ready = c.requires.ready;
      read = rw c.requires.start (omega arith);
      room = omega arith;
      up_to = rw c.requires.empty
          (begin r.input.now c.args.parser.now c.args.finders.now c.args.steps.now
          c.args.specs.now.records.now c.args.peeks.now
          (ap (λ f. f.calls) c.requires.none) (ap (λ f. f.front_count) c.requires.none));
      kept_steps = refl;
      kept_peeks = refl;
      specs = record {
        same = refl;
        room = refl;
        used = omega (arith, c.requires.empty);
        front = refl;
        kept = refl;
      };
    }

pub loop-offset-smaller : goal.loop-offset-smaller
loop-offset-smaller c =
    let s = c.loop-offset.parser in
    let r = c.args.reading.now in
    let more =
    some_left r.input.now s.input s.rest c.loop-offset.offset
    c.loop-offset.invariant.ready.utf8 c.loop-offset.invariant.ready.input
    c.loop-offset.invariant.read c.loop-offset-test.true in
    rw (ap (λ (s : State). length s.rest) c.in_ok-offset.ensures.call.state) (goes_on s more)

pub loop-offset-preserved : goal.loop-offset-preserved
loop-offset-preserved c =
    let r = c.args.reading.now in
    let s0 = c.args.parser.now in
    let s = c.loop-offset.parser in
    let new = c.add_step.new.parser in
    let invariant = c.loop-offset.invariant in
    let call = c.in_ok-offset.ensures.call in
    let adds = c.in_ok-offset.ensures.adds in
    let more =
    some_left r.input.now s.input s.rest c.loop-offset.offset invariant.ready.utf8
    invariant.ready.input invariant.read c.loop-offset-test.true in
    let fewer = goes_on s more in
    let added = c.in_ok-offset.ensures.added in
    record {
      ready = call.ready;
      read = c.in_ok-offset.ensures.read;
      room = omega (arith, invariant.room, fewer, ap (λ (s : State). length s.rest) call.state);
      up_to = one_more r.input.now s0 s new
          (states new) c.loop-offset.count c.loop-offset.specs.count
          c.add_step.new.specs.count
          c.loop-offset.finders c.add_step.new.finders c.loop-offset.steps c.add_step.new.steps
          c.loop-offset.specs.records.now
          c.add_step.new.specs.records.now c.loop-offset.peeks c.add_peek.new.peeks
          (rw (states-more s new more call.state) at invariant.up_to) call.state adds.used
          call.finders call.front_count added adds.front adds.room c.add_peek.ensures;
      kept_steps =
          kept_put r.input.now (event s) c.loop-offset.steps c.add_step.new.steps
          c.args.steps.now c.add_step.new.specs.records.now
          c.loop-offset.count c.add_step.new.specs.count added invariant.kept_steps;
      kept_peeks = kept_seen s c.loop-offset.peeks c.add_peek.new.peeks c.args.peeks.now
          c.loop-offset.count c.add_peek.ensures invariant.kept_peeks;
      specs = added_on (specs_in (given_piece s)) c.args.specs.now c.loop-offset.specs
          c.add_step.new.specs
          c.requires.empty invariant.specs adds;
    }

pub returns-clause-end : goal.returns-clause-end
returns-clause-end c =
    let s = c.loop-offset.parser in
    let r = c.args.reading.now in
    none_left r.input.now s.input s.rest c.loop-offset.offset
    c.loop-offset.invariant.ready.utf8 c.loop-offset.invariant.ready.input
    c.loop-offset.invariant.ready.left c.loop-offset.invariant.read c.loop-offset-test.false
