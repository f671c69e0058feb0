use Rattle.flat_reading.proofs.Cuts.{has_text}
use Rattle.flat_reading.proofs.near.near_name.Goals as goal

pub extent_of-text-requires : goal.extent_of-text-requires
extent_of-text-requires c =
    has_text c.args.input.now c.in-ArgumentNamed.name.now _
    (rw c.as_bytes.ensures.value at c.as_bytes.ensures.utf8)
    (rw c.as_bytes.ensures.value at c.has_bytes_at.ensures.yes c.if-not-has_bytes_at.false)
