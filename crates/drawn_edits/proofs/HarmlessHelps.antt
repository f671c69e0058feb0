-- The rows of edits: without their colours they are those without colours, and a terminal obeys no
-- character of these, but for line feeds.
use Rattle.std.proofs.Common.{◌+◌, ◌-◌, ◌∷◌, ◌++◌, ℕ, List, None, Option, Some, [], chars, codes}
use Rattle.std.proofs.Common.{Bool, cond, drop, false, length, nat_lt, refl, take, true}
use Rattle.std.specs.Prelude.{◌==◌}
use Rattle.std.specs.List.{list_any}
use Rattle.std.specs.Str.{drop_trailing_whitespace, skip_leading_whitespace}
use Rattle.rustc_parse_format.specs.Characters.{Text}
use Rattle.drawn_edits.specs.EditedLines.{are_blank, do_remove, is_added, is_same_end, new_lines}
use Rattle.drawn_edits.specs.EditedLines.{old_lines, Edit}
use Rattle.drawn_lines.specs.Glyphs.{IsHarmless, run}
use Rattle.drawn_edits.specs.Helps.{after_pluses, changed_row, changed_rows, columns_of}
use Rattle.drawn_edits.specs.Helps.{drawn_pieces}
use Rattle.drawn_edits.specs.Helps.{edited_parts, edits_rows, have_bytes, cells_of, help_word}
use Rattle.drawn_edits.specs.Helps.{inserted_rows, is_whole, kept_lines, kept_row, kept_rows}
use Rattle.drawn_edits.specs.Helps.{lone_addition, lone_sign, new_row, new_rows, plus_signs, pluses}
use Rattle.drawn_edits.specs.Helps.{replaced_rows, rows_from, sign_row, sign_rows}
use Rattle.drawn_lines.specs.Frames.{Frame}
use Rattle.drawn_lines.specs.Painting.{IsColourOf, Piece, painted_text, piece, plain_text}
use Rattle.drawn_lines.specs.declared.paint.Palette.{Palette}
use Rattle.drawn_lines.specs.declared.paint.Palette.TheVariants.{Colourless}
use Rattle.drawn_lines.specs.declared.paint.Style.{Style}
use Rattle.drawn_lines.specs.declared.paint.Style.TheVariants.{Addition, Help, Removal, Secondary}
use Rattle.drawn_lines.proofs.Coloured.{AreQuiet, either, join, nothing, of_painted, of_pieces}
use Rattle.drawn_lines.proofs.Coloured.{plain, quiet-plain}
use Rattle.drawn_lines.proofs.Harmless.{glyphs-harmless, run-harmless, text as harmless_text}
use Rattle.drawn_lines.proofs.Harmless.{written-harmless}
use Rattle.drawn_lines.proofs.HarmlessLines.{of_dots, of_number_bar, of_numbered, of_parting}
use Rattle.drawn_lines.proofs.HarmlessLines.{of_under, plain_frame, spaces, text}

pub of_help_word : (p : Palette) → IsColourOf (help_word p) (help_word Colourless)
unfolding help_word
of_help_word p =
    join (of_painted p Help (harmless_text (codes "help") refl)) (text (codes ": ") refl)

-- rows of lines
quiet-drawn : (xs : List Piece) → AreQuiet (drawn_pieces xs)
quiet-drawn [] = tt
quiet-drawn (x ∷ xs) = (glyphs-harmless (chars x.text), quiet-drawn xs)

of_sign_row : (f : Frame) (s : Style) {sign : List ℕ} (n : ℕ) (xs : List Piece) → IsHarmless sign
    → IsColourOf (sign_row f s sign n xs) (sign_row (plain_frame f) s sign n xs)
unfolding sign_row
of_sign_row f s {sign = sign} n xs h =
    let ys : List Piece = piece s sign ∷ drawn_pieces xs in
    let q : AreQuiet ys = (h, quiet-drawn xs) in
    join (of_numbered f n) (join (text (codes " ") refl)
    (join (of_pieces f.gutter.palette ys q) (text (codes "\n") refl)))

of_sign_rows : (f : Frame) (s : Style) {sign : List ℕ} (n : ℕ) (ls : List (List Piece))
    → IsHarmless sign
    → IsColourOf (sign_rows f s sign n ls) (sign_rows (plain_frame f) s sign n ls)
of_sign_rows f s n [] h = nothing
of_sign_rows f s n (l ∷ ls) h = join (of_sign_row f s n l h) (of_sign_rows f s (n + 1) ls h)

of_kept_row : (f : Frame) (n : ℕ) (xs : List Piece)
    → IsColourOf (kept_row f n xs) (kept_row (plain_frame f) n xs)
unfolding kept_row
of_kept_row f n xs =
    join (of_number_bar f n)
    (join (either (length (plain_text (drawn_pieces xs)) == 0) nothing
    (join (text (codes " ") refl) (plain (quiet-plain (drawn_pieces xs) (quiet-drawn xs)))))
    (text (codes "\n") refl))

of_kept_rows : (f : Frame) (n : ℕ) (ls : List (List Piece))
    → IsColourOf (kept_rows f n ls) (kept_rows (plain_frame f) n ls)
of_kept_rows f n [] = nothing
of_kept_rows f n (l ∷ ls) = join (of_kept_row f n l) (of_kept_rows f (n + 1) ls)

of_kept_lines : (f : Frame) (n : ℕ) (ls : List (List Piece))
    → IsColourOf (kept_lines f n ls) (kept_lines (plain_frame f) n ls)
unfolding kept_lines
of_kept_lines f n ls =
    either (nat_lt 3 (length ls))
    (join (of_kept_rows f n (take 1 ls)) (join (spaces (f.gutter.columns - 3))
    (join (of_dots f.gutter.palette) (join (text (codes "\n") refl)
    (of_kept_rows f (n + (length ls - 1)) (drop (length ls - 1) ls))))))
    (of_kept_rows f n ls)

-- several new lines
plus : IsHarmless (codes "+ ")
plus = harmless_text (codes "+ ") refl

of_changed_row : (f : Frame) (n : ℕ) (xs : List Piece) (o : Option (List ℕ))
    → IsColourOf (changed_row f n xs (lone_sign xs o))
    (changed_row (plain_frame f) n xs (lone_sign xs o))
of_changed_row f n xs None = of_sign_row f Addition n xs (harmless_text (codes "~ ") refl)
of_changed_row f n xs (Some t) =
    by_tests (have_bytes (cells_of 0 (chars t)) xs) (length t == 0)
  where
    by_tests : (a b : Bool)
        → IsColourOf
        (changed_row f n xs (cond a (Some (codes "+ ")) (cond b None (Some (codes "~ ")))))
        (changed_row (plain_frame f) n xs
        (cond a (Some (codes "+ ")) (cond b None (Some (codes "~ ")))))
    by_tests true b = of_sign_row f Addition n xs plus
    by_tests false true = of_kept_row f n xs
    by_tests false false = of_sign_row f Addition n xs (harmless_text (codes "~ ") refl)

of_changed_rows : (f : Frame) (n : ℕ) (before ls : List (List Piece))
    → IsColourOf (changed_rows f n before ls) (changed_rows (plain_frame f) n before ls)
of_changed_rows f n before [] = nothing
of_changed_rows f n before (l ∷ ls) =
    either (list_any is_added l)
    (join (of_kept_lines f n before)
    (join (of_changed_row f (n + length before) l (lone_addition l))
    (of_changed_rows f (n + length before + 1) [] ls)))
    (of_changed_rows f n (before ++ l ∷ []) ls)

-- one new line
of_new_row : (f : Frame) (n : ℕ) (ls : List (List Piece))
    → IsColourOf (new_row f n ls) (new_row (plain_frame f) n ls)
of_new_row f n [] = nothing
of_new_row f n (l ∷ ls) = either (are_blank l) nothing (of_sign_row f Addition n l plus)

of_replaced : (f : Frame) (n : ℕ) (old new : List (List Piece))
    → IsColourOf (replaced_rows f n old new) (replaced_rows (plain_frame f) n old new)
unfolding replaced_rows
of_replaced f n old new =
    let minus = harmless_text (codes "- ") refl in
    either (is_same_end old new)
    (of_sign_rows f Removal n (take (length old - 1) old) minus)
    (join (of_sign_rows f Removal n old minus) (of_new_row f n new))

of_signs : (p : Palette) (n m : ℕ) → IsColourOf (run n 32 ++ painted_text p Addition (run m 43))
    (run n 32 ++ painted_text Colourless Addition (run m 43))
of_signs p n m =
    join (spaces n) (of_painted p Addition (run-harmless m 43 (written-harmless 43 refl)))

of_pluses : (p : Palette) (n : ℕ) (t : Text) → IsColourOf (pluses p n t) (pluses Colourless n t)
of_pluses p n t =
    let back = skip_leading_whitespace t in
    either (length back == 0) (of_signs p n (columns_of 0 t))
    (of_signs p (n + (columns_of 0 t - columns_of 0 back))
    (columns_of 0 (drop_trailing_whitespace back)))

of_plus_signs : (p : Palette) (n : ℕ) (xs : List Piece)
    → IsColourOf (plus_signs p n xs) (plus_signs Colourless n xs)
of_plus_signs p n [] = nothing
of_plus_signs p n (x ∷ xs) =
    either (is_added x)
    (join (of_pluses p n (chars x.text)) (of_plus_signs p (after_pluses (chars x.text)) xs))
    (of_plus_signs p (n + columns_of 0 (chars x.text)) xs)

of_inserted : (f : Frame) (n : ℕ) (ls : List (List Piece))
    → IsColourOf (inserted_rows f n ls) (inserted_rows (plain_frame f) n ls)
of_inserted f n [] = nothing
of_inserted f n (l ∷ ls) =
    either (is_whole l) (join (of_sign_row f Addition n l plus) (of_parting f))
    (join (of_sign_row f Secondary n l (harmless_text (codes "| ") refl))
    (of_under f.gutter (of_plus_signs f.gutter.palette 0 l)))

of_new_rows : (f : Frame) (n : ℕ) (xs : List Piece) (new : List (List Piece))
    → IsColourOf (new_rows f n xs new) (new_rows (plain_frame f) n xs new)
of_new_rows f n xs new =
    either (nat_lt 1 (length new)) (join (of_changed_rows f n [] new) (of_parting f))
    (either (do_remove xs) (join (of_replaced f n (old_lines xs) new) (of_parting f))
    (of_inserted f n new))

of_from : (f : Frame) (n : ℕ) (es : List Edit)
    → IsColourOf (rows_from f n es) (rows_from (plain_frame f) n es)
unfolding edited_parts
of_from f n es =
    let xs = edited_parts f n es in
    join (of_parting f) (of_new_rows f n xs (new_lines xs))

pub of_edits : (f : Frame) (es : List Edit)
    → IsColourOf (edits_rows f es) (edits_rows (plain_frame f) es)
of_edits f [] = nothing
of_edits f (e ∷ es) = of_from f e.extent.start.line (e ∷ es)
