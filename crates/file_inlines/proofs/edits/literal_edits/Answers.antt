use Rattle.std.proofs.Common.{◌∙◌, ap, map, rules}
use Rattle.inlined_arguments.specs.Views.{seen_edit}
use Rattle.file_inlines.specs.CallInlines.{moved_edit}
use Rattle.file_inlines.proofs.edits.literal_edits.Goals as goal

pub returns-then-not-branch : goal.returns-then-not-branch
returns-then-not-branch c = record {
  inside = map seen_edit c.in_ok-inside_edits.inside_edits.items;
  are_inside = rw (c.deref.ensures.value, c.in_ok-crs.ensures, c.as_slice.ensures.value)
      at c.in_ok-inside_edits.ensures;
  make_none = λ m. let t = (rw c.deref-2.ensures.value at c.in_ok-make_literal.ensures).1 m in
      search rules;
}

pub returns : goal.returns
returns c = record {
  inside = map seen_edit c.in_ok-inside_edits.inside_edits.items;
  are_inside = rw (c.deref.ensures.value, c.in_ok-crs.ensures, c.as_slice.ensures.value)
      at c.in_ok-inside_edits.ensures;
  make = (rw c.deref-2.ensures.value at c.in_ok-make_literal.ensures).0 c.if-not-branch.false;
  edits = c.in_ok-move_edits.ensures
      ∙ ap (λ v. map (moved_edit c.args.literal.start) (map seen_edit v)) c.deref-3.ensures.value;
}
