use Rattle.listing_json.specs.Values.{report_values}
use Rattle.listing_json.proofs.Adding.{adds-then}
use Rattle.listing_json.proofs.report.put_report.Goals as goal

pub returns : goal.returns
unfolding report_values
returns c = rw (
  ← c.as_slice.ensures.value,
  ← c.as_slice-2.ensures.value,
  ← c.as_slice-3.ensures.value,
  ← c.as_slice-4.ensures.value,
)
    (adds-then _ _ _ _ _ c.in_ok-put_indices.ensures (adds-then _ _ _ _ _
    c.in_ok-put_names.ensures (adds-then _ _ _ _ _
    c.in_ok-put_indices-2.ensures c.in_ok-put_names-2.ensures)))
