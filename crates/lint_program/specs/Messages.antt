-- The lines that `formatlint` writes to standard error where it has no answer. They begin with its
-- name and the path of the input.
use Rattle.std.specs.Prelude.{◌++◌, ℕ, List, codes, decimal}
use Rattle.std.specs.Prelude.{chars}
use Rattle.std.specs.Prelude.{take, drop, length, ◌==◌, if◌then◌else◌}
use Rattle.shown_text.specs.Shown.{shown}
use Rattle.shown_text.specs.declared.gate.Kind.TheVariants.{Line}
use Rattle.piece_listing.specs.declared.verdict.RunFault.{RunFault}
use Rattle.piece_listing.specs.declared.verdict.RunFault.TheVariants.{Words, Read, TooLong, NotText}
use Rattle.piece_listing.specs.declared.verdict.RunFault.TheVariants.{NotLiteral, Memory, Write}
use Rattle.rust_trees.specs.declared.places.Place.{Place}
use Rattle.rust_trees.specs.Places.{place_between}
use Rattle.literal_faults.specs.declared.fault.LiteralFault.{LiteralFault}
use Rattle.literal_faults.specs.Words.{message}

-- The start of each line: the name of the program and the path.
abbrev pub opening : List ℕ → List ℕ
opening path = codes "formatlint: " ++ (shown Line path ++ codes ":")

-- The reason why there is no answer. For a read or a write that failed these are the words of the
-- system, if it has any.
abbrev pub reason : RunFault → List ℕ → List ℕ
reason Read why = if length why == 0 then codes "reading failed" else why
reason Write why = if length why == 0 then codes "writing failed" else why
reason Words why = codes "invalid arguments"
reason TooLong why = codes "longer than 1048576 bytes"
reason NotText why = codes "not UTF-8"
reason NotLiteral why = codes "not a string literal"
reason Memory why = codes "out of memory"

-- The line where there is no answer.
abbrev pub failure : List ℕ → RunFault → List ℕ → List ℕ
failure path f why = opening path ++ (codes " " ++ (shown Line (reason f why) ++ codes "\n"))

-- The place as editors have it: the line, a colon and the column.
abbrev pub place_text : Place → List ℕ
place_text p = decimal p.line ++ (codes ":" ++ decimal p.column)

-- The place of a byte offset of a file.
abbrev pub place : List ℕ → ℕ → Place
place file n = place_between (chars (take n file)) (chars (drop n file))

-- The lines where the file is no string literal: the place, the reason and the option that helps.
abbrev pub not_literal : List ℕ → List ℕ → LiteralFault → List ℕ
not_literal path file f = opening path ++ (place_text (place file f.offset) ++ (codes ": "
    ++ (message f.kind ++ codes "\n  = help: with --text the input is read as it stands\n")))

-- The line where a file is not read from a place on.
abbrev pub place_failure : List ℕ → Place → List ℕ → List ℕ
place_failure path p why = opening path ++ (place_text p ++ (codes ": " ++ (shown Line why ++ codes "\n")))
