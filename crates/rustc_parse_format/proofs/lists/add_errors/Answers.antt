use Rattle.std.proofs.Common.{◌≡◌, ◌+◌, ◌∙◌, ap, arith, drop, length, sym}
use Rattle.std.proofs.lemmas.List.{length-map}
use Rattle.rustc_parse_format.specs.Views.{seen_error}
use Rattle.rustc_parse_format.specs.FaultViews.{seen_fault}
use Rattle.rustc_parse_format.proofs.Readers.Errors.{added-few, added-kept, added-more}
use Rattle.rustc_parse_format.proofs.lists.add_errors.Goals as goal

pub loop-fault-preserved : goal.loop-fault-preserved
loop-fault-preserved c =
    record {
      added = added-more c.args.faults.now _ (drop (c.loop-fault.index + 1) c.args.faults.now)
          c.args.errors.now c.loop-fault.errors c.add_error.new.errors
          (seen_fault c.in-Some.fault.now) c.loop-fault.front_count c.in-Ok.number
          c.loop-fault.invariant.added c.in-Some.ensures c.in-Ok.ensures.ok
          c.in-Ok.ensures.front_count;
    }

pub overflow_add-front_count : goal.overflow_add-front_count
overflow_add-front_count c =
    let more = added-more c.args.faults.now _ (drop (c.loop-fault.index + 1) c.args.faults.now)
    c.args.errors.now c.loop-fault.errors c.add_error.new.errors
    (seen_fault c.in-Some.fault.now) c.loop-fault.front_count c.in-Ok.number
    c.loop-fault.invariant.added c.in-Some.ensures c.in-Ok.ensures.ok c.in-Ok.ensures.front_count in
    let few = added-few _ _ _ _ _ more in
    omega (arith, few, c.requires)

pub keep-requires : goal.keep-requires
keep-requires c =
    let count : length c.as_slice-count.result.now ≡ length c.args.errors.now =
    sym (length-map c.as_slice-count.result.now seen_error) ∙ ap length c.as_slice-count.ensures in
    rw (count, c.in-Err.ensures.err) (added-kept _ _ _ _ _ c.loop-fault.invariant.added).0

pub returns-in-Err-clause-err : goal.returns-in-Err-clause-err
returns-in-Err-clause-err c =
    let count : length c.as_slice-count.result.now ≡ length c.args.errors.now =
    sym (length-map c.as_slice-count.result.now seen_error) ∙ ap length c.as_slice-count.ensures in
    c.keep.ensures
    ∙ rw (count, c.in-Err.ensures.err) (added-kept _ _ _ _ _ c.loop-fault.invariant.added).1
