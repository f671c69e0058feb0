-- The forms that are a line are one, of which a terminal obeys no character.
use Rattle.std.proofs.Common.{◌≡◌, ◌++◌, Bool, List, ℕ, [], codes, refl, suc, true, false}
use Rattle.std.proofs.lemmas.Str.{NoCharPasses-append}
use Rattle.std.specs.Prelude.{◌==◌, ℤ, pos, negsuc}
use Rattle.std.specs.Fmt.{signed_decimal}
use Rattle.serde_json.specs.Data.{Data, null, boolean, number, string, array, object, Num, unsigned}
use Rattle.serde_json.specs.Data.{negative, float, Items, no_items, item, Members, no_members}
use Rattle.serde_json.specs.Data.{member}
use Rattle.serde_json.specs.Written.{comma_if, number_text}
use Rattle.rust_trees.specs.declared.places.Place.{Place}
use Rattle.shown_text.specs.Shown.{IsLine, IsOneLine, shown}
use Rattle.shown_text.specs.declared.gate.Kind.TheVariants.{Line, Property, Json, Message as Words}
use Rattle.shown_text.proofs.OneLine.{decimal-one_line, either, end_of, join, shown-one_line, text}
use Rattle.shown_text.proofs.OneLine.{with_end}
use Rattle.emit.specs.declared.message.Level.{Level}
use Rattle.emit.specs.declared.message.Level.TheVariants.{Error, Warning}
use Rattle.emit.specs.declared.message.Message.{Message}
use Rattle.emit.specs.declared.message.Span.{Span}
use Rattle.emit.specs.Escapes.{quoted}
use Rattle.emit.specs.Lines.{command, command_places, place_text, short}
use Rattle.emit.specs.Texts.{items_text, json_text, members_text, value_text}
use Rattle.emit.specs.Words.{level_name}

of_level : (l : Level) → IsOneLine (level_name l)
of_level Error = text (codes "error") refl
of_level Warning = text (codes "warning") refl

of_place : (p : Place) → IsOneLine (place_text p)
of_place p = join (decimal-one_line p.line) (join (text (codes ":") refl)
    (decimal-one_line p.column))

pub short-line : (m : Message) → IsLine (short m)
short-line m = with_end (shown-one_line Line m.path.now) (with_end (text (codes ":") refl)
    (with_end (of_place m.primary.start) (with_end (text (codes ": ") refl)
    (with_end (of_level m.level) (with_end (text (codes ": ") refl)
    (with_end (shown-one_line Line m.title.now) (with_end (text (codes " [") refl)
    (with_end (shown-one_line Line m.id.now) (end_of (text (codes "]") refl))))))))))

of_places : (s : Span) → IsOneLine (command_places s)
of_places s = join (text (codes ",line=") refl) (join (decimal-one_line s.start.line)
    (either (s.start.line == s.end.line)
    (join (text (codes ",col=") refl) (join (decimal-one_line s.start.column)
    (join (text (codes ",endColumn=") refl) (decimal-one_line s.end.column))))
    (join (text (codes ",endLine=") refl) (decimal-one_line s.end.line))))

pub command-line : (m : Message) → IsLine (command m)
command-line m = with_end (text (codes "::") refl) (with_end (of_level m.level)
    (with_end (text (codes " file=") refl) (with_end (shown-one_line Property m.path.now)
    (with_end (of_places m.primary) (with_end (text (codes "::") refl)
    (with_end (shown-one_line Words m.title.now) (with_end (text (codes " [") refl)
    (with_end (shown-one_line Words m.id.now) (end_of (text (codes "]") refl))))))))))

of_quoted : (t : List ℕ) → IsOneLine (quoted t)
of_quoted t = join (text (codes "\"") refl) (join (shown-one_line Json t) (text (codes "\"") refl))

-- a number with its sign
of_signed : (z : ℤ) → IsOneLine (signed_decimal z)
of_signed (pos n) = decimal-one_line n
of_signed (negsuc n) = join (text (codes "-") refl) (decimal-one_line (suc n))

of_number : (n : Num) → IsOneLine (number_text n)
of_number (unsigned n) = decimal-one_line n
of_number (negative z) = of_signed z
of_number (float x) = text [] refl

of_comma : (b : Bool) → IsOneLine (comma_if b)
of_comma true = text (codes ",") refl
of_comma false = text [] refl

mutual
  value-one_line : (d : Data) → IsOneLine (value_text d)
  value-one_line null = text (codes "null") refl
  value-one_line (boolean b) = either b (text (codes "true") refl) (text (codes "false") refl)
  value-one_line (number n) = of_number n
  value-one_line (string t) = of_quoted t
  value-one_line (array js) = join (text (codes "[") refl) (items-one_line false js)
  value-one_line (object ms) = join (text (codes "{") refl) (members-one_line false ms)

  items-one_line : (b : Bool) (js : Items) → IsOneLine (items_text b js)
  items-one_line b no_items = text (codes "]") refl
  items-one_line b (item d js) =
      join (of_comma b) (join (value-one_line d) (items-one_line true js))

  members-one_line : (b : Bool) (ms : Members) → IsOneLine (members_text b ms)
  members-one_line b no_members = text (codes "}") refl
  members-one_line b (member k d ms) = join (of_comma b) (join (of_quoted k)
      (join (text (codes ":") refl) (join (value-one_line d) (members-one_line true ms))))

-- a value of JSON with its line end
pub json-line : (d : Data) → IsLine (json_text d ++ codes "\n")
unfolding json_text
json-line d = (value_text d, refl, value-one_line d)

pub ruleset one_line = (short-line, command-line, json-line)
