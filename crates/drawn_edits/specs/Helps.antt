-- The rows of edits: of several new lines the changed ones, of one new line the old lines and the
-- new one where something is removed, or else the new one with signs under what is added.
use Rattle.std.specs.Prelude.{ℕ, ◌+◌, ◌-◌, ◌++◌, ◌==◌, ◌&&◌, Bool, false, if◌then◌else◌, List, []}
use Rattle.std.specs.Prelude.{◌∷◌, Option, None, Some, chars, codes, drop, length, map, nat_le}
use Rattle.std.specs.Prelude.{nat_lt, take}
use Rattle.std.specs.List.{list_any}
use Rattle.std.specs.Str.{drop_trailing_whitespace, skip_leading_whitespace}
use Rattle.rustc_parse_format.specs.Characters.{Text}
use Rattle.drawn_edits.specs.EditedLines.{are_blank, do_remove, is_added, is_same_end, new_lines}
use Rattle.drawn_edits.specs.EditedLines.{old_lines, parts, Edit}
use Rattle.drawn_lines.specs.Glyphs.{glyph_bytes, run, width}
use Rattle.drawn_lines.specs.Frames.{Frame}
use Rattle.drawn_lines.specs.Lines.{number_bar, numbered_gutter, parting, row_under}
use Rattle.drawn_lines.specs.Painting.{Piece, painted_text, piece, pieces, plain_text}
use Rattle.drawn_lines.specs.Places.{after_lines}
use Rattle.drawn_lines.specs.declared.paint.Palette.{Palette}
use Rattle.drawn_lines.specs.declared.paint.Style.{Style}
use Rattle.drawn_lines.specs.declared.paint.Style.TheVariants.{Addition, Help, Removal, Secondary}

-- The word that a help begins with.
unfoldable pub help_word : Palette → List ℕ
help_word p = painted_text p Help (codes "help") ++ codes ": "

-- Parts as they are drawn.
abbrev pub drawn_pieces : List Piece → List Piece
drawn_pieces xs = map (λ x. piece x.style (glyph_bytes x.text)) xs

-- The row of a line with this number, after a sign of this style.
unfoldable pub sign_row : Frame → Style → List ℕ → ℕ → List Piece → List ℕ
sign_row f style sign n xs =
    numbered_gutter f n ++ (codes " " ++ (pieces f.gutter.palette
    (piece style sign ∷ drawn_pieces xs)
    ++ codes "\n"))

-- The rows of lines after such a sign, from the number n on.
abbrev pub sign_rows : Frame → Style → List ℕ → ℕ → List (List Piece) → List ℕ
sign_rows f style sign n [] = []
sign_rows f style sign n (l ∷ ls) =
    sign_row f style sign n l ++ sign_rows f style sign (n + 1) ls

-- The text after a bar: a text with a space in front of it, unless it is empty.
abbrev pub spaced_text : List ℕ → List ℕ
spaced_text bs = if length bs == 0 then [] else codes " " ++ bs

-- The row of a line with this number that no edit changes.
unfoldable pub kept_row : Frame → ℕ → List Piece → List ℕ
kept_row f n xs = number_bar f n ++ (spaced_text (plain_text (drawn_pieces xs)) ++ codes "\n")

-- The rows of such lines, from the number n on.
abbrev pub kept_rows : Frame → ℕ → List (List Piece) → List ℕ
kept_rows f n [] = []
kept_rows f n (l ∷ ls) = kept_row f n l ++ kept_rows f (n + 1) ls

-- The rows of lines from the number n on, and of others from m on, and dots between them. These
-- end where the numbers do, or begin there if the numbers have fewer than three columns.
abbrev pub kept_ends : Frame → ℕ → ℕ → List (List Piece) → List (List Piece) → List ℕ
kept_ends f n m first last =
    kept_rows f n first
    ++ (run (f.gutter.columns - 3) 32 ++ (painted_text f.gutter.palette Secondary (codes "...")
    ++ (codes "\n" ++ kept_rows f m last)))

-- The rows of such lines in front of a changed one: of more than three the first and the last one.
unfoldable pub kept_lines : Frame → ℕ → List (List Piece) → List ℕ
kept_lines f n ls =
    if nat_lt 3 (length ls)
    then kept_ends f n (n + (length ls - 1)) (take 1 ls) (drop (length ls - 1) ls)
    else kept_rows f n ls

-- The only addition of a line, if no text of the line is in front of it.
abbrev pub lone_addition : List Piece → Option (List ℕ)
lone_addition [] = None
lone_addition (x ∷ xs) =
    if is_added x then (if list_any is_added xs then None else Some x.text)
    else if length x.text == 0 then lone_addition xs else None

-- How many cells a text takes, if a tab takes four of them, and another character one.
abbrev pub cells_of : ℕ → Text → ℕ
cells_of n [] = n
cells_of n (c ∷ t) = cells_of (n + (if c == 9 then 4 else 1)) t

-- Parts have n bytes.
abbrev pub have_bytes : ℕ → List Piece → Bool
have_bytes n [] = n == 0
have_bytes n (x ∷ xs) = nat_le (length x.text) n && have_bytes (n - length x.text) xs

-- The sign of a line with one addition, and nothing in front of it: that of a line that is all
-- new, if the addition has as many cells as the line has bytes; none, if nothing is added.
abbrev pub lone_sign : List Piece → Option (List ℕ) → Option (List ℕ)
lone_sign xs None = Some (codes "~ ")
lone_sign xs (Some t) =
    if have_bytes (cells_of 0 (chars t)) xs then Some (codes "+ ")
    else if length t == 0 then None else Some (codes "~ ")

-- The row of a changed line.
abbrev pub changed_row : Frame → ℕ → List Piece → Option (List ℕ) → List ℕ
changed_row f n xs None = kept_row f n xs
changed_row f n xs (Some sign) = sign_row f Addition sign n xs

-- The rows of several new lines up to the last changed one, from the number n on, where some lines
-- that no edit changes are before them.
abbrev pub changed_rows : Frame → ℕ → List (List Piece) → List (List Piece) → List ℕ
changed_rows f n before [] = []
changed_rows f n before (l ∷ ls) =
    if list_any is_added l then kept_lines f n before
    ++ (changed_row f (n + length before) l (lone_sign l (lone_addition l))
    ++ changed_rows f (n + length before + 1) [] ls)
    else changed_rows f n (before ++ l ∷ []) ls

-- The row of a new line, unless it is blank.
abbrev pub new_row : Frame → ℕ → List (List Piece) → List ℕ
new_row f n [] = []
new_row f n (l ∷ ls) = if are_blank l then [] else sign_row f Addition (codes "+ ") n l

-- The rows of old lines and of a new one. The last old line and the new one are left out if they
-- are the same.
unfoldable pub replaced_rows : Frame → ℕ → List (List Piece) → List (List Piece) → List ℕ
replaced_rows f n old new =
    if is_same_end old new then sign_rows f Removal (codes "- ") n (take (length old - 1) old)
    else sign_rows f Removal (codes "- ") n old ++ new_row f n new

-- How many columns a text takes.
abbrev pub columns_of : ℕ → Text → ℕ
columns_of n [] = n
columns_of n (c ∷ t) = columns_of (n + width c) t

-- The signs under an addition, after n spaces: none under the white space around its text.
abbrev pub pluses : Palette → ℕ → Text → List ℕ
pluses p n t =
    let back = skip_leading_whitespace t in
    if length back == 0 then run n 32 ++ painted_text p Addition (run (columns_of 0 t) 43)
    else run (n + (columns_of 0 t - columns_of 0 back)) 32
    ++ painted_text p Addition (run (columns_of 0 (drop_trailing_whitespace back)) 43)

-- How many columns after these signs the addition ends.
abbrev pub after_pluses : Text → ℕ
after_pluses t =
    let back = skip_leading_whitespace t in
    if length back == 0 then 0
    else columns_of 0 back - columns_of 0 (drop_trailing_whitespace back)

-- The signs under the additions of a line, after n spaces.
abbrev pub plus_signs : Palette → ℕ → List Piece → List ℕ
plus_signs p n [] = []
plus_signs p n (x ∷ xs) =
    if is_added x then pluses p n (chars x.text) ++ plus_signs p (after_pluses (chars x.text)) xs
    else plus_signs p (n + columns_of 0 (chars x.text)) xs

-- The line has nothing but an addition that ends it.
abbrev pub is_whole : List Piece → Bool
is_whole [] = false
is_whole (x ∷ []) = false
is_whole (x ∷ y ∷ []) = are_blank (x ∷ [])
is_whole (x ∷ y ∷ z ∷ xs) = false

-- The rows of a line in which something is added.
abbrev pub inserted_rows : Frame → ℕ → List (List Piece) → List ℕ
inserted_rows f n [] = []
inserted_rows f n (l ∷ ls) =
    if is_whole l then sign_row f Addition (codes "+ ") n l ++ parting f
    else sign_row f Secondary (codes "| ") n l
    ++ row_under f.gutter (plus_signs f.gutter.palette 0 l)

-- The rows of parts in one new line.
abbrev pub line_rows : Frame → ℕ → List Piece → List (List Piece) → List ℕ
line_rows f n xs new =
    if do_remove xs then replaced_rows f n (old_lines xs) new ++ parting f
    else inserted_rows f n new

-- The rows of parts with these new lines.
abbrev pub new_rows : Frame → ℕ → List Piece → List (List Piece) → List ℕ
new_rows f n xs new =
    if nat_lt 1 (length new) then changed_rows f n [] new ++ parting f
    else line_rows f n xs new

-- The parts of edits from the line n on.
unfoldable pub edited_parts : Frame → ℕ → List Edit → List Piece
edited_parts f n es =
    let bs = after_lines n f.picture.source in
    parts (length f.picture.source - length bs) es bs

-- The rows of edits from the line n on.
abbrev pub rows_from : Frame → ℕ → List Edit → List ℕ
rows_from f n es =
    let xs = edited_parts f n es in
    parting f ++ new_rows f n xs (new_lines xs)

-- The rows of edits.
abbrev pub edits_rows : Frame → List Edit → List ℕ
edits_rows f [] = []
edits_rows f (e ∷ es) = rows_from f e.extent.start.line (e ∷ es)
