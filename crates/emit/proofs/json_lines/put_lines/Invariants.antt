use Rattle.std.proofs.Common.{◌≡◌, ◌++◌}
use Rattle.std.specs.Prelude.{false, string_bytes}
use denote.Shadow.{shadow}
use denote.Text.{Utf8}
use Rattle.serde_json.specs.Data.{array}
use Rattle.emit.specs.Json.{line_items}
use Rattle.emit.specs.Texts.{array_text, json_text}
use Rattle.emit.proofs.json_lines.put_lines.Given as goal

-- The text written, and then that of the lines left, is all.
abbrev pub invariant-loop-countdown : goal.invariant-loop-countdown
invariant-loop-countdown l = shadow (Utf8 l.rest) × (string_bytes l.out
    ++ array_text false (line_items l.countdown l.start l.to l.rest)
    ≡ string_bytes l.fn.out ++ json_text (array (line_items l.line_count l.from l.to l.lines)))

abbrev pub decreases-loop-countdown : goal.decreases-loop-countdown
decreases-loop-countdown l = l.countdown
