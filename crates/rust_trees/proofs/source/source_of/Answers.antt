use Rattle.rust_trees.proofs.source.source_of.Goals as goal

pub invariant_of-result : goal.invariant_of-result
invariant_of-result c = record {
  is_sound = c.requires.is_sound;
  is_complete = c.requires.is_complete;
  breaks = c.break_of-first_break.ensures _ c.requires.has_open;
}
