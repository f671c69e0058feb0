use Rattle.std.proofs.lemmas.List.Sums.{sum_by-append}
use Rattle.flat_reading.specs.ErrorRecords.{message_len}
use Rattle.std.proofs.Common.{◌≡◌, ◌<◌, ◌++◌, [], ◌∷◌, get_or, length, map, take, sym, ap, ◌∙◌}
use Rattle.std.proofs.Common.{arith}
use Rattle.std.proofs.lemmas.List.{map-append, take_more, take_more_set, take_all}
use Rattle.rustc_parse_format.specs.Views.{seen_error}
use Rattle.flat_reading.proofs.Buffers.{Grows-trans, HoldsErrors-grow, HoldsErrors-more}
use Rattle.flat_reading.proofs.Buffers.{Extends-all}
use Rattle.flat_reading.proofs.Lists.{kept_after}
use Rattle.flat_reading.specs.declared.records.Fault.{Fault}
use Rattle.flat_reading.proofs.errors.put_errors.Goals as goal

pub loop-i-preserved : goal.loop-i-preserved
loop-i-preserved c =
    let grows = c.add_error-size.ensures.grows in
    let forward = grows.forward in
    let length_texts = c.add_error-size.auto.texts in
    let faults = c.loop-i.faults in
    let i = c.loop-i.i in
    let error = c.index-errors-i.result in
    let more = take_more c.args.errors.now i error c.loop-i-test.true
    ∙ ap (λ e. take i c.args.errors.now ++ e ∷ []) (sym c.index-errors-i.is) in
    record {
      grows = Grows-trans _ _ _ _ _ _ c.loop-i.auto.texts c.loop-i.invariant.grows grows;
      holds = λ fit few.
          let room : i < length faults = omega (arith, few, c.add_error-size.auto.faults) in
          let (f, (put, (_, holds))) = c.add_error-size.ensures.written room in
          rw (
            put,
            take_more_set faults i f room,
            more,
            map-append seen_error (take i c.args.errors.now) (error ∷ []),
          )
          (HoldsErrors-more _ _ _ f _
          (HoldsErrors-grow _ _ _ _ (grows.front (omega (arith, length_texts)))
          (c.loop-i.invariant.holds (omega (arith, length_texts)) (omega (arith, room))))
          (holds (omega (arith, length_texts))));
      found = λ few.
          let room : i < length faults = omega (arith, few, c.add_error-size.auto.faults) in
          let (f, (put, (step, _))) = c.add_error-size.ensures.written room in
          rw (
            put,
            take_more_set faults i f room,
            map-append (λ (f : Fault). f.step) (take i faults) (f ∷ []),
            step,
            c.get.ensures,
          )
          (ap (λ l. l ++ get_or c.args.finders.now.calls i 0 ∷ [])
          (c.loop-i.invariant.found (omega (arith, room)))
          ∙ sym (take_more c.args.finders.now.calls i 0
          (omega (arith, c.requires, c.loop-i-test.true))));
      counted =
          let now = c.add_error-size.ensures.counted in
          let before = c.loop-i.invariant.counted in
          let sum = sum_by-append message_len (map seen_error (take i c.args.errors.now))
          (seen_error error ∷ []) in
          rw (
            more,
            map-append seen_error (take i c.args.errors.now) (error ∷ []),
          ) (omega (arith, now, before, sum));
      kept = kept_after faults c.add_error-size.new.faults c.args.faults.now i
          (λ room. let (f, (put, _)) = c.add_error-size.ensures.written room in (f, put))
          c.add_error-size.ensures.full c.loop-i.invariant.kept;
    }

pub returns-clause-holds : goal.returns-clause-holds
returns-clause-holds c = λ fit few.
    let all : c.loop-i.i ≡ length c.args.errors.now =
    omega (arith, c.loop-i-test.false, c.loop-i.auto.i-end) in
    let held = HoldsErrors-grow _ _ _ _ (Extends-all c.loop-i.size c.loop-i.texts)
    (c.loop-i.invariant.holds (omega (arith, c.loop-i.auto.texts))
    (omega (arith, c.loop-i.auto.faults))) in
    rw (all, take_all (length c.args.errors.now) c.args.errors.now (omega arith)) at held

pub returns-clause-found : goal.returns-clause-found
returns-clause-found c = λ few.
    let all : c.loop-i.i ≡ length c.args.errors.now =
    omega (arith, c.loop-i-test.false, c.loop-i.auto.i-end) in
    rw (
      all,
      take_all (length c.args.errors.now) c.args.finders.now.calls
          (omega (arith, c.requires)),
    ) at c.loop-i.invariant.found (omega (
      arith,
      c.loop-i.auto.faults,
    ))

pub returns-clause-counted : goal.returns-clause-counted
returns-clause-counted c =
    let all : c.loop-i.i ≡ length c.args.errors.now =
    omega (arith, c.loop-i-test.false, c.loop-i.auto.i-end) in
    rw (all, take_all (length c.args.errors.now) c.args.errors.now (omega arith))
    at c.loop-i.invariant.counted
