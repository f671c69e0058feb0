-- The messages that are a line are one, of which a terminal obeys no character.
use Rattle.std.proofs.Common.{List, ℕ, codes, refl}
use Rattle.piece_listing.specs.declared.verdict.RunFault.{RunFault}
use Rattle.rust_trees.specs.declared.places.Place.{Place}
use Rattle.shown_text.specs.Shown.{IsLine, IsOneLine}
use Rattle.shown_text.specs.declared.gate.Kind.TheVariants.{Line}
use Rattle.shown_text.proofs.OneLine.{decimal-one_line, end_of, join, shown-one_line, text}
use Rattle.shown_text.proofs.OneLine.{with_end}
use Rattle.lint_program.specs.Messages.{failure, opening, place_failure, place_text, reason}

of_opening : (path : List ℕ) → IsOneLine (opening path)
of_opening path = join (text (codes "formatlint: ") refl) (join (shown-one_line Line path)
    (text (codes ":") refl))

of_place : (p : Place) → IsOneLine (place_text p)
of_place p = join (decimal-one_line p.line) (join (text (codes ":") refl)
    (decimal-one_line p.column))

pub failure-line : (path : List ℕ) (f : RunFault) (why : List ℕ) → IsLine (failure path f why)
failure-line path f why = with_end (of_opening path) (with_end (text (codes " ") refl)
    (end_of (shown-one_line Line (reason f why))))

pub place-line : (path : List ℕ) (p : Place) (why : List ℕ) → IsLine (place_failure path p why)
place-line path p why = with_end (of_opening path) (with_end (of_place p)
    (with_end (text (codes ": ") refl) (end_of (shown-one_line Line why))))

pub ruleset one_line = (failure-line, place-line)
