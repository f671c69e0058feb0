use Rattle.std.proofs.Common.{◌≡◌, ◌++◌, drop}
use Rattle.std.specs.Prelude.{string_bytes}
use Rattle.serde_json.specs.Data.{array}
use Rattle.emit.specs.Json.{child_json}
use Rattle.emit.specs.Texts.{array_text, items_of, json_text}
use Rattle.emit.proofs.json_lines.put_children.Given as goal

-- The text written, and then that of the children left, is all.
abbrev pub invariant-loop-child : goal.invariant-loop-child
invariant-loop-child l = string_bytes l.out ++ array_text l.is_later
    (items_of (child_json l.path) (drop l.child-index l.children))
    ≡ string_bytes l.fn.out ++ json_text (array (items_of (child_json l.path) l.children))
