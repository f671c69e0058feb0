use Rattle.rustc_parse_format.proofs.Readers.Steps.{counted_back}
use Rattle.rustc_parse_format.proofs.cursor.Cursor.rewind.Goals as goal

pub invariant_of-self : goal.invariant_of-self
invariant_of-self c =
    let r = rw (← c.self.view_is) at c.requires in
    let e = c.rewind.ensures in (
      rw e.rest r.anchored,
      rw (e.rest, e.tally)
          (counted_back _ _ _ _ r.furthest r.earlier r.word c.self.invariant.1),
    )
