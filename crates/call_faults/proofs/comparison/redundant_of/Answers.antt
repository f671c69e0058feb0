use Rattle.std.proofs.Common.{◌∙◌, map, sym}
use Rattle.std.specs.Prelude.{is_some}
use Rattle.std.proofs.lemmas.List.{append-nil}
use Rattle.call_faults.specs.Comparison.{is_redundant}
use Rattle.call_faults.specs.Views.{found_in, seen_entry, seen_lookup}
use Rattle.call_faults.proofs.Comparing.{kept-next, redundant-is}
use Rattle.call_faults.proofs.comparison.redundant_of.Goals.{then-is_redundant+in_ok-push}
use Rattle.call_faults.proofs.comparison.redundant_of.Goals.{else-is_redundant}
use Rattle.call_faults.proofs.comparison.redundant_of.Goals as goal

pub loop-entry-preserved : goal.loop-entry-preserved
loop-entry-preserved c =
    let ls = map seen_lookup c.args.lookups.now in
    kept-next seen_entry (is_redundant ls) c.args.unused_entries.now c.loop-entry.entry-index _
    c.loop-entry.redundant_indices.items c.if-is_redundant.redundant_indices.items
    c.is_redundant.result
    c.loop-entry-test.true c.loop-entry.invariant
    (c.is_redundant.ensures ∙ redundant-is ls _ _ (λ w. is_some (found_in
    c.in_ok-positions.positions w))
    c.in_ok-positions.ensures)
    (elim c.if-is_redundant.branch [
      | then-is_redundant+in_ok-push w ↦ rw (w.redundant_indices-is, w.if-is_redundant.true)
          w.in_ok-push.ensures.items
      | else-is_redundant w ↦ rw (w.redundant_indices-is, w.if-is_redundant.false) (sym (append-nil
          c.loop-entry.redundant_indices.items))
    ])
