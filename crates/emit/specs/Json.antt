-- A message as a value of JSON, with the members of rustc's `--error-format=json`.
use Rattle.std.specs.Prelude.{ℕ, zero, suc, ◌+◌, ◌-◌, ◌==◌, ◌∷◌, [], Bool, List, Option, Some, None}
use Rattle.std.specs.Prelude.{if◌then◌else◌, chars, codes, length, option_map}
use Rattle.std.specs.List.{before_first, after_first}
use Rattle.serde_json.specs.Data.{Data, null, boolean, string, array, object}
use Rattle.serde_json.specs.Data.{Items, no_items, item, Members, no_members, member}
use Rattle.emit.specs.declared.message.Child.{Child}
use Rattle.emit.specs.declared.message.Message.{Message}
use Rattle.emit.specs.declared.message.Span.{Span}
use Rattle.emit.specs.declared.message.Suggestion.{Suggestion}
use Rattle.emit.specs.Texts.{items_of, number_json, text_or_null}
use Rattle.emit.specs.Words.{applicability, child_name, level_name}

-- LF
abbrev pub is_lf : ℕ → Bool
is_lf b = b == 10

-- A text without a CR at its end.
unfoldable pub without_cr : List ℕ → List ℕ
without_cr [] = []
without_cr (b ∷ []) = if b == 13 then [] else (b ∷ [])
without_cr (b ∷ c ∷ bs) = b ∷ without_cr (c ∷ bs)

-- The first line of a text, without its line end.
abbrev pub first_line : List ℕ → List ℕ
first_line bs = without_cr (before_first is_lf bs)

-- A line of a span with the columns between which the span is.
abbrev pub line_json : List ℕ → ℕ → ℕ → Data
line_json l from to = object (member (codes "text") (string l)
    (member (codes "highlight_start") (number_json from)
    (member (codes "highlight_end") (number_json to) no_members)))

-- The lines of a span that begins at a column and ends at another one, where this many more come
-- after the first one.
abbrev pub line_items : ℕ → ℕ → ℕ → List ℕ → Items
line_items zero from to bs = item (line_json (first_line bs) from to) no_items
line_items (suc n) from to bs = item
    (line_json (first_line bs) from (length (chars (first_line bs)) + 1))
    (line_items n 1 to (after_first is_lf bs))

-- The same of lines that may not be shown.
abbrev pub shown_items : Option (List ℕ) → ℕ → ℕ → ℕ → Items
shown_items None n from to = no_items
shown_items (Some bs) n from to = line_items n from to bs

-- The lines of a span, or none if they are not shown.
abbrev pub lines_json : Span → Data
lines_json s = array (shown_items (option_map (λ t. t.now) s.lines) (s.end.line - s.start.line)
    s.start.column s.end.column)

-- The places of a span, before other members.
abbrev pub place_members : List ℕ → Span → Members → Members
place_members path s ms = member (codes "file_name") (string path)
    (member (codes "byte_start") (number_json s.byte_start)
    (member (codes "byte_end") (number_json s.byte_end)
    (member (codes "line_start") (number_json s.start.line)
    (member (codes "line_end") (number_json s.end.line)
    (member (codes "column_start") (number_json s.start.column)
    (member (codes "column_end") (number_json s.end.column) ms))))))

-- The word for how sure the suggestion of a span is, or null.
abbrev pub applicability_json : Option Suggestion → Data
applicability_json None = null
applicability_json (Some s) = string (applicability s.is_sure)

-- The members of a span that come after its places.
abbrev pub detail_members : Span → Members
detail_members s = member (codes "is_primary") (boolean s.is_primary)
    (member (codes "text") (lines_json s)
    (member (codes "label") (text_or_null (option_map (λ t. t.now) s.label))
    (member (codes "suggested_replacement")
    (text_or_null (option_map (λ x. x.text.now) s.suggestion))
    (member (codes "suggestion_applicability") (applicability_json s.suggestion)
    (member (codes "expansion") null no_members)))))

-- A span of a file.
abbrev pub span_json : List ℕ → Span → Data
span_json path s = object (place_members path s (detail_members s))

-- A note or a help.
abbrev pub child_json : List ℕ → Child → Data
child_json path c = object (member (codes "message") (string c.text.now)
    (member (codes "code") null
    (member (codes "level") (string (child_name c.level))
    (member (codes "spans") (array (items_of (span_json path) c.spans.now))
    (member (codes "children") (array no_items)
    (member (codes "rendered") null no_members))))))

-- The id of a message, in the place of rustc's code.
abbrev pub code_json : List ℕ → Data
code_json id = object (member (codes "code") (string id)
    (member (codes "explanation") null no_members))

-- The last members of a message about the file with this path: its ranges, its notes and helps, and
-- its drawing for people.
abbrev pub below_members : List ℕ → List Span → List Child → List ℕ → Members
below_members path ss cs rendered =
    member (codes "spans") (array (items_of (span_json path) ss))
    (member (codes "children") (array (items_of (child_json path) cs))
    (member (codes "rendered") (string rendered) no_members))

-- A message with its ranges, its notes and helps, and its drawing.
abbrev pub message_json : Message → List Span → List Child → List ℕ → Data
message_json m ss cs rendered =
    object (member (codes "$message_type") (string (codes "diagnostic"))
    (member (codes "message") (string m.title.now)
    (member (codes "code") (code_json m.id.now)
    (member (codes "level") (string (level_name m.level))
    (below_members m.path.now ss cs rendered)))))
