-- Texts with edits, line by line.
use Rattle.std.specs.Prelude.{ℕ, ◌+◌, ◌-◌, ◌++◌, ◌==◌, ◌&&◌, Bool, not, if◌then◌else◌, max, List}
use Rattle.std.specs.Prelude.{[], ◌∷◌, chars, drop, false, flat_map, length, map, take}
use Rattle.std.specs.List.{list_all, list_any, slice_split}
use Rattle.std.specs.Str.{bytes_eq, encode_utf8_all, trim}
use Rattle.drawn_lines.specs.Painting.{Piece, piece, plain_text, rank}
use Rattle.drawn_lines.specs.Places.{first_line, is_line_feed, front_within, Extent, Picture}
use Rattle.drawn_lines.specs.Places.{seen_extent}
use Rattle.drawn_lines.specs.Places.{extent, offset}
use Rattle.drawn_edits.specs.declared.edited.Part.{Part as DeclaredPart}
use Rattle.drawn_edits.specs.declared.edited.Line.{Line as DeclaredLine}
use Rattle.drawn_lines.specs.declared.paint.Style.{Style}
use Rattle.drawn_lines.specs.declared.paint.Style.TheVariants.{Addition, Plain, Removal}
use Rattle.rustc_parse_format.specs.World.{Place}
use Rattle.drawn_edits.specs.declared.edited.Edit.{Edit as DeclaredEdit}

-- An edit: the new text, and of the text that it replaces the places and the byte offsets in the
-- source at which that begins and ends.
pub record Edit : Type 0 where
  pub text : List ℕ
  pub extent : Extent
  pub start : ℕ
  pub end : ℕ

-- An edit as a contract sees it.
abbrev pub seen_edit : DeclaredEdit → Edit
seen_edit e = record {
  text = e.text.now;
  extent = seen_extent e.extent;
  start = e.start;
  end = e.end;
}

-- An edit of a range of the literal.
abbrev pub edit_in_literal : Picture → List ℕ → Place → Edit
edit_in_literal p t s = record {
  text = t;
  extent = extent p s;
  start = offset p s.0;
  end = max (offset p s.0) (offset p s.1);
}

-- A part of a line as a contract sees it.
abbrev pub seen_part : DeclaredPart → Piece
seen_part x = piece x.style x.text.now

-- A line as a contract sees it.
abbrev pub seen_line : DeclaredLine → List Piece
seen_line l = map seen_part l.parts.items

-- The first characters of a text, as many as end within n bytes.
abbrev pub front : ℕ → List ℕ → List ℕ
front n bs = encode_utf8_all (front_within n (chars bs))

-- The rest of a text after these.
abbrev pub rest_after : ℕ → List ℕ → List ℕ
rest_after n bs = drop (length (front n bs)) bs

-- The parts of a text at the byte offset `at`: what is before each edit, what the edit removes and
-- what it adds, and what is left of the line in which the last one ends.
abbrev pub parts : ℕ → List Edit → List ℕ → List Piece
parts at [] bs = piece Plain (first_line bs) ∷ []
parts at (e ∷ es) bs =
    let from = max e.start at in
    let to = max e.end from in
    let rest = rest_after (from - at) bs in
    piece Plain (front (from - at) bs)
    ∷ piece Removal (front (to - from) rest)
    ∷ piece Addition e.text
    ∷ parts to es (rest_after (to - from) rest)

-- Lines: whole ones, and the parts of another one so far.
pub record Page : Type 0 where
  pub lines : List (List Piece)
  pub row : List Piece

-- A page as a contract sees it.
abbrev pub seen_page : List DeclaredLine → List DeclaredPart → Page
seen_page ls xs = record { lines = map seen_line ls; row = map seen_part xs }

-- A page with the end of a line after it.
abbrev pub with_line : Style → List ℕ → Page → Page
with_line s t p = record { lines = p.lines ++ (p.row ++ piece s t ∷ []) ∷ []; row = [] }

-- A page with the lines of a text after it, each of which but the last one is then whole.
abbrev pub with_texts : Style → List (List ℕ) → Page → Page
with_texts s [] p = p
with_texts s (t ∷ []) p = record { lines = p.lines; row = p.row ++ piece s t ∷ [] }
with_texts s (t ∷ u ∷ ts) p = with_texts s (u ∷ ts) (with_line s t p)

-- A page with parts after it, but for those of the style s.
abbrev pub with_parts : Style → List Piece → Page → Page
with_parts s [] p = p
with_parts s (x ∷ xs) p =
    with_parts s xs
    (if rank x.style == rank s then p
    else with_texts x.style (slice_split is_line_feed x.text) p)

-- The page without lines.
abbrev pub no_page : Page
no_page = record { lines = []; row = [] }

-- The lines of a page.
abbrev pub all_lines : Page → List (List Piece)
all_lines p = p.lines ++ p.row ∷ []

-- The parts have no text.
abbrev pub have_no_text : List Piece → Bool
have_no_text xs = list_all (λ x. length x.text == 0) xs

-- The page ends in a line feed.
abbrev pub is_ended : Page → Bool
is_ended p = have_no_text p.row && not (length p.lines == 0)

-- How many of lines there are up to the last one with a text, where n are before them, and m up to
-- the last one with a text of these.
abbrev pub count_to_text : ℕ → ℕ → List (List Piece) → ℕ
count_to_text n m [] = m
count_to_text n m (l ∷ ls) = count_to_text (n + 1) (if have_no_text l then m else n + 1) ls

-- The page of the new lines of parts. What is left of the last line is not in it if the text of
-- the last edit ends a line.
abbrev pub new_page : List Piece → Page
new_page xs =
    let p = with_parts Removal (take (length xs - 1) xs) no_page in
    if is_ended p then p else with_parts Removal (drop (length xs - 1) xs) p

-- The new lines of parts, without those at their end that have no text.
unfoldable pub new_lines : List Piece → List (List Piece)
new_lines xs =
    let ls = all_lines (new_page xs) in
    take (count_to_text 0 0 ls) ls

-- The lines of parts without the edits.
unfoldable pub old_lines : List Piece → List (List Piece)
old_lines xs = all_lines (with_parts Addition xs no_page)

-- The parts are white space.
abbrev pub are_blank : List Piece → Bool
are_blank xs = list_all (λ x. length (trim x.text) == 0) xs

-- The part is an addition.
abbrev pub is_added : Piece → Bool
is_added x = rank x.style == 7

-- Edits remove something.
abbrev pub do_remove : List Piece → Bool
do_remove xs = list_any (λ x. (rank x.style == 8) && not (length (trim x.text) == 0)) xs

-- The text of lines.
abbrev pub text_of : List (List Piece) → List ℕ
text_of ls = flat_map plain_text ls

-- The text of the last old line is that of the only new one.
abbrev pub is_same_end : List (List Piece) → List (List Piece) → Bool
is_same_end old [] = false
is_same_end old (l ∷ ls) = bytes_eq (text_of (drop (length old - 1) old)) (plain_text l)
