use Rattle.rustc_parse_format.proofs.cursor.Cursor.undo.Goals as goal

pub invariant_of-self : goal.invariant_of-self
invariant_of-self c =
    let r = rw (← c.self.view_is) at c.requires in
    rw (c.undo.ensures.rest, c.undo.ensures.tally) (r.anchored, r.counted)
