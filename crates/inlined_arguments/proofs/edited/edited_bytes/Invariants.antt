use Rattle.std.proofs.Common.{◌≡◌, ◌++◌, ◌↔◌, ◌≤◌, drop, length, map}
use Rattle.inlined_arguments.specs.Edits.{AreApart, edited_text}
use Rattle.inlined_arguments.specs.Views.{seen_edit}
use Rattle.inlined_arguments.proofs.edited.edited_bytes.Given as goal

-- The edits that are left are apart exactly if all are. What is made, and then what is made of the
-- bytes that are left, is what is made of all.
abbrev pub invariant-loop-edit : goal.invariant-loop-edit
invariant-loop-edit l = record {
  within : l.at ≤ length l.bytes;
  apart : AreApart l.at (map seen_edit (drop l.edit-index l.edits)) (length l.bytes)
      ↔ AreApart 0 (map seen_edit l.edits) (length l.bytes);
  made : l.out.items ++ edited_text l.at (map seen_edit (drop l.edit-index l.edits)) l.bytes
      ≡ edited_text 0 (map seen_edit l.edits) l.bytes;
}
