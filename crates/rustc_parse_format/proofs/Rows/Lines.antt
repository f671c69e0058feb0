-- Worked examples of lines: the lines of whole texts, after a walk, and where texts end. Places are
-- byte ranges in the snippet.
use Rattle.std.proofs.Common.{◌≡◌, ℕ, Bool, true, false, [], ◌∷◌, refl, codes, Option, Some, None}
use Rattle.rustc_parse_format.specs.Characters.{Text}
use Rattle.rustc_parse_format.specs.Types.{Format}
use Rattle.rustc_parse_format.specs.Source.{is_source}
use Rattle.rustc_parse_format.specs.World.{World, world, place_at}
use Rattle.rustc_parse_format.specs.Call.{call, walk}
use Rattle.rustc_parse_format.specs.Marks.{run_texts}
use Rattle.rustc_parse_format.specs.Lines.{texts_in, read_lines, with_last}
use Rattle.rustc_parse_format.specs.State.{State, first_state, calls, state_after, after_all}
use Rattle.rustc_parse_format.specs.State.{next_call}
use Rattle.rustc_parse_format.proofs.Rows.Literals.{finding_units}

-- each definition that the rows compute
unfoldable computing_lines : Unit {0}
unfolding finding_units is_source world place_at call walk
computing_lines = tt

-- a parser before its first call, and after the last
abbrev start : Text → Option ℕ → Text → Bool → State
start input style snippet appended = first_state Format input style (Some snippet) appended

abbrev ended : Text → Option ℕ → Text → Bool → State
ended input style snippet appended =
    after_all (start input style snippet appended) (calls (start input style snippet appended))

-- A character that is written as an escape after a continuation is no white space at the start of
-- the line.
abbrev escaped_space : World
escaped_space = world (codes " a") None (Some (codes "\"\\\n\\u{20}a\"")) false

escaped_space-has_these_places : escaped_space.places ≡ (3, 9) ∷ (9, 10) ∷ []
unfolding computing_lines
escaped_space-has_these_places = refl

escaped_space-moves_no_line : read_lines 1 (texts_in escaped_space (run_texts (codes " a") []))
    ≡ (1, [])
unfolding computing_lines
escaped_space-moves_no_line = refl

escaped_space-is_one_line : (ended (codes " a") None (codes "\"\\\n\\u{20}a\"") false).line_spans
    ≡ (1, 10) ∷ []
unfolding computing_lines
escaped_space-is_one_line = refl

-- An appended newline ends a line, and the last line then starts after the end of the text.
raw_with_newline-has_two_lines : (ended (codes "a\n") (Some 0) (codes "r\"a\"") true).line_spans
    ≡ (2, 3) ∷ (4, 3) ∷ []
unfolding computing_lines
raw_with_newline-has_two_lines = refl

newline_alone-has_its_place : (world (codes "\n") None (Some (codes "\"\"")) true).places
    ≡ (1, 2) ∷ []
unfolding computing_lines
newline_alone-has_its_place = refl

newline_alone-has_two_lines : (ended (codes "\n") None (codes "\"\"") true).line_spans
    ≡ (1, 1) ∷ (2, 1) ∷ []
unfolding computing_lines
newline_alone-has_two_lines = refl

-- White space at the very start of a line is none of it.
indented-lines : (ended (codes "a\n  b c\n") (Some 0) (codes "r\"a\n  b c\n\"") false).line_spans
    ≡ (2, 3) ∷ (6, 9) ∷ (10, 10) ∷ []
unfolding computing_lines
indented-lines = refl

escaped_newline-ends_a_line : (ended (codes "a\n b") None (codes "\"a\\n b\"") false).line_spans
    ≡ (1, 2) ∷ (5, 6) ∷ []
unfolding computing_lines
escaped_newline-ends_a_line = refl

-- A continuation alone is one empty line.
continuation_alone-is_one_line : (ended [] None (codes "\"\\\n   \"") false).line_spans
    ≡ (1, 1) ∷ []
unfolding computing_lines
continuation_alone-is_one_line = refl

-- One more call at the end adds no line.
one_more_call-adds_no_line :
    (state_after (ended (codes "a\n") (Some 0) (codes "r\"a\"") true)
    (next_call (ended (codes "a\n") (Some 0) (codes "r\"a\"") true))).line_spans
    ≡ (2, 3) ∷ (4, 3) ∷ []
unfolding computing_lines
one_more_call-adds_no_line = refl

last_line-stands_once : with_last (4, 3) ((2, 3) ∷ (4, 3) ∷ []) ≡ (2, 3) ∷ (4, 3) ∷ []
last_line-stands_once = refl

last_line-is_added : with_last (4, 3) ((4, 3) ∷ (2, 3) ∷ []) ≡ (4, 3) ∷ (2, 3) ∷ (4, 3) ∷ []
last_line-is_added = refl

-- Where the snippet is not the source literal there is no line.
foreign_snippet-has_no_line : (ended (codes "a\n") None (codes "\"b\\n\"") false).line_spans ≡ []
unfolding computing_lines
foreign_snippet-has_no_line = refl

-- The end of the text: of the input without its appended newline,
end_of_input : (world (codes "{a\n") None None true).end ≡ 2
unfolding computing_lines
end_of_input = refl

-- which has nothing to be taken off where it is empty,
end_of_empty_input : (world [] None None true).end ≡ 0
unfolding computing_lines
end_of_empty_input = refl

-- of a snippet that is not the source literal, whose é has two bytes,
end_of_foreign_snippet : (world (codes "a") None (Some (codes "\"é\"")) false).end ≡ 4
unfolding computing_lines
end_of_foreign_snippet = refl

-- of a raw literal in front of its closing quote,
end_of_raw_literal : (world (codes "ab") (Some 1) (Some (codes "r#\"ab\"#")) false).end ≡ 5
unfolding computing_lines
end_of_raw_literal = refl

-- and of an ordinary one in front of a continuation there.
end_of_ordinary_literal : (world (codes "ab") None (Some (codes "\"ab\\\n  \"")) false).end ≡ 3
unfolding computing_lines
end_of_ordinary_literal = refl
