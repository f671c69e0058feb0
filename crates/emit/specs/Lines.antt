-- The forms that are a line: for editors, and for the workflows of GitHub.
use Rattle.std.specs.Prelude.{ℕ, ◌==◌, true, false, List, ◌++◌, codes, decimal, if◌then◌else◌}
use Rattle.rust_trees.specs.declared.places.Place.{Place}
use Rattle.emit.specs.declared.message.Message.{Message}
use Rattle.emit.specs.declared.message.Span.{Span}
use Rattle.shown_text.specs.Shown.{shown}
use Rattle.shown_text.specs.declared.gate.Kind.TheVariants.{Line, Property, Message as Words}
use Rattle.emit.specs.Words.{level_name}

-- A place: the line, a colon and the column.
abbrev pub place_text : Place → List ℕ
place_text p = decimal p.line ++ (codes ":" ++ decimal p.column)

-- A message as a line for editors.
abbrev pub short : Message → List ℕ
short m = shown Line m.path.now ++ (codes ":" ++ (place_text m.primary.start ++ (codes ": "
    ++ (level_name m.level ++ (codes ": " ++ (shown Line m.title.now ++ (codes " ["
    ++ (shown Line m.id.now ++ codes "]\n"))))))))

-- The places of a span as properties of a workflow command. There are columns only in one line.
abbrev pub command_places : Span → List ℕ
command_places s = codes ",line=" ++ (decimal s.start.line
    ++ (if s.start.line == s.end.line
    then codes ",col=" ++ (decimal s.start.column ++ (codes ",endColumn=" ++ decimal s.end.column))
    else codes ",endLine=" ++ decimal s.end.line))

-- A message as a workflow command.
abbrev pub command : Message → List ℕ
command m = codes "::" ++ (level_name m.level ++ (codes " file=" ++ (shown Property m.path.now
    ++ (command_places m.primary ++ (codes "::" ++ (shown Words m.title.now ++ (codes " ["
    ++ (shown Words m.id.now ++ codes "]\n"))))))))
