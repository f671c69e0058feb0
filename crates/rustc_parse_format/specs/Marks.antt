-- A mark is a position in the input, given by the number of characters that are left from a
-- character on. A mark with none left is at the end of the text. So a span is made of the rests of
-- the text at its start and at its end.
use Rattle.std.specs.Prelude.{ℕ, ◌++◌, List, [], ◌∷◌, length}
use Rattle.rustc_parse_format.specs.Characters.{Text}

pub data Mark : Type 0 where
  -- The start of the character from which on so many are left.
  Start : ℕ → Mark
  -- The end of the character from which on so many are left.
  End : ℕ → Mark

-- A pair of marks: where a span starts and where it ends.
pub record Span : Type 0 where
  pub from : Mark
  pub to : Mark

-- The span from the start of the first character of t to the start of the first character of r.
abbrev pub up_to : Text → Text → Span
up_to t r = record { from = Start (length t); to = Start (length r) }

-- The span from the start of the first character of t to the end of the first character of r.
abbrev pub span_through : Text → Text → Span
span_through t r = record { from = Start (length t); to = End (length r) }

-- The span of the first character of t.
abbrev pub over_first : Text → Span
over_first t = span_through t t

-- The characters of a run of text that is followed by r, each with the number of characters that
-- are left from it on.
abbrev pub run_texts : Text → Text → List (ℕ × ℕ)
run_texts [] r = []
run_texts (c ∷ u) r = (c, length (c ∷ u ++ r)) ∷ run_texts u r
