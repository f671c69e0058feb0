-- Which lines the rows of edits show: the old ones are lines of the source, and the new ones are
-- lines of the source with the edits applied. The law on lines is about these.
use Rattle.std.specs.Prelude.{◌≡◌, ℕ, ◌-◌, ◌++◌, ◌⊎◌, List, [], ◌∷◌, map, max}
use Rattle.std.specs.List.{AllByRecursion, slice_split}
use Rattle.drawn_lines.specs.Painting.{Piece, plain_text}
use Rattle.drawn_lines.specs.Places.{is_line_feed}
use Rattle.drawn_edits.specs.EditedLines.{Edit, front, rest_after}

-- The lines of a text.
abbrev pub lines_of : List ℕ → List (List ℕ)
lines_of bs = slice_split is_line_feed bs

-- A text at the byte offset `at` of the source, with the edits applied: in place of what each
-- replaces is its text.
abbrev pub edited_source : ℕ → List Edit → List ℕ → List ℕ
edited_source at [] bs = bs
edited_source at (e ∷ es) bs =
    let from = max e.start at in
    let to = max e.end from in
    let rest = rest_after (from - at) bs in
    front (from - at) bs ++ (e.text ++ edited_source to es (rest_after (to - from) rest))

-- What is left of such a text after the last edit.
abbrev pub after_edits : ℕ → List Edit → List ℕ → List ℕ
after_edits at [] bs = bs
after_edits at (e ∷ es) bs =
    let from = max e.start at in
    let to = max e.end from in
    after_edits to es (rest_after (to - from) (rest_after (from - at) bs))

-- These are the old and the new lines of edits, where `end` is left of the line in which the last
-- edit ends, and others are after it. The old lines are those of the text up to this one, and the
-- new lines those of the edited text up to it. Empty lines are left out at the end of the new ones,
-- and `end` where it is a line of its own.
pub record AreLines (at : ℕ) (es : List Edit) (text : List ℕ) (old new : List (List Piece)) :
    Type 0 where
  pub end : List ℕ
  pub others : List (List ℕ)
  pub after : lines_of (after_edits at es text) ≡ end ∷ others
  pub old_lines : lines_of text ≡ map plain_text old ++ others
  pub empty : List (List ℕ)
  pub are_empty : AllByRecursion (λ (l : List ℕ). l ≡ []) empty
  pub new_lines : (lines_of (edited_source at es text) ≡ map plain_text new ++ (empty ++ others))
      ⊎ (lines_of (edited_source at es text) ≡ map plain_text new ++ (empty ++ end ∷ others))
