use Rattle.std.proofs.Common.{sym, ◌∙◌}
use Rattle.call_faults.specs.Comparison.{invalid_reference}
use Rattle.call_faults.specs.Views.{seen_lookup}
use Rattle.text_faults.proofs.Collecting.{gathered}
use Rattle.std.proofs.lemmas.List.{append-nil}
use Rattle.call_faults.proofs.comparison.references_from.Goals.{in-Some+in_ok-push, in_default}
use Rattle.call_faults.proofs.comparison.references_from.Goals as goal

pub loop-lookup-preserved : goal.loop-lookup-preserved
loop-lookup-preserved c = gathered seen_lookup (invalid_reference c.args.count) c.args.lookups.now
    c.loop-lookup.lookup-index _ c.loop-lookup.references.items
    c.match-reference_beyond.references.items
    c.reference_beyond.result c.loop-lookup-test.true c.loop-lookup.invariant
    c.reference_beyond.ensures (elim c.match-reference_beyond.branch [
      | in-Some+in_ok-push w ↦ rw (w.references-is, w.in-Some.is) w.in_ok-push.ensures.items
      | in_default w ↦ rw (w.references-is, w.in_default.is) (sym (append-nil
          c.loop-lookup.references.items))
    ])
