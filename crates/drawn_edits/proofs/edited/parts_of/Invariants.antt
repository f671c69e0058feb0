use Rattle.std.proofs.Common.{◌≡◌, ◌++◌, drop, map}
use Rattle.drawn_edits.specs.EditedLines.{parts, seen_part, seen_edit}
use denote.Text.{Utf8}
use denote.Shadow.{shadow}
use Rattle.drawn_edits.proofs.edited.parts_of.Given as goal

-- The parts so far, and then those of what is left, are all.
abbrev pub invariant-loop-edit : goal.invariant-loop-edit
invariant-loop-edit l = record {
  is_text : shadow (Utf8 l.rest);
  same : map seen_part l.list.items ++ parts l.at (map seen_edit (drop l.edit-index l.edits)) l.rest
      ≡ parts l.start (map seen_edit l.edits) l.text;
}
