use Rattle.std.proofs.Common.{◌≡◌, ◌++◌, ◌∙◌, [], ap, map, sym, take, append_assoc}
use Rattle.std.specs.List.{cons_option, filter_map}
use Rattle.std.proofs.lemmas.List.{append-nil}
use Rattle.call_faults.specs.CallFaults.{CallFault}
use Rattle.call_faults.specs.Comparison.{by_index}
use Rattle.call_faults.specs.Views.{seen_fault, seen_entry, seen_lookup}
use Rattle.text_faults.proofs.Collecting.{gathered-rest_after}
use Rattle.call_faults.proofs.comparison.push_index_faults.Goals.{in-Some+in_ok-push, in_default}
use Rattle.call_faults.proofs.comparison.push_index_faults.Goals as goal

pub loop-lookup-preserved : goal.loop-lookup-preserved
loop-lookup-preserved c = elim c.match-by_index.branch [
  | in-Some+in_ok-push w ↦ rw w.faults-is (gathered-rest_after seen_lookup seen_fault
      (by_index (map seen_entry c.args.arguments.now)) c.args.lookups.now
      c.loop-lookup.lookup-index _ (map seen_fault c.args.faults.now.items)
      c.loop-lookup.faults.items _ c.by_index.result c.loop-lookup-test.true
      c.loop-lookup.invariant c.by_index.ensures
      (rw w.in-Some.is w.in_ok-push.ensures.items))
  | in_default w ↦ rw w.faults-is (gathered-rest_after seen_lookup seen_fault
      (by_index (map seen_entry c.args.arguments.now)) c.args.lookups.now
      c.loop-lookup.lookup-index _ (map seen_fault c.args.faults.now.items)
      c.loop-lookup.faults.items _ c.by_index.result c.loop-lookup-test.true
      c.loop-lookup.invariant c.by_index.ensures
      (rw w.in_default.is (sym (append-nil c.loop-lookup.faults.items))))
]
