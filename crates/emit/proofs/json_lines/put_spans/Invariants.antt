use Rattle.std.proofs.Common.{◌≡◌, ◌++◌, drop}
use Rattle.std.specs.Prelude.{string_bytes}
use Rattle.serde_json.specs.Data.{array}
use Rattle.emit.specs.Json.{span_json}
use Rattle.emit.specs.Texts.{array_text, items_of, json_text}
use Rattle.emit.proofs.json_lines.put_spans.Given as goal

-- The text written, and then that of the spans left, is all.
abbrev pub invariant-loop-span : goal.invariant-loop-span
invariant-loop-span l = string_bytes l.out ++ array_text l.is_later
    (items_of (span_json l.path) (drop l.span-index l.spans))
    ≡ string_bytes l.fn.out ++ json_text (array (items_of (span_json l.path) l.spans))
