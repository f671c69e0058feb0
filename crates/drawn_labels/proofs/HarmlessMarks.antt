-- Rows under a line with several labels: without their colours they are those without colours,
-- and a terminal obeys no character of these, but for line feeds.
use Rattle.std.proofs.Common.{◌≡◌, ◌-◌, ◌∷◌, ◌&&◌, ◌==◌, ℕ, suc, zero, [], false, true, Bool, List}
use Rattle.std.proofs.Common.{chars, cond, map, nat_lt, refl, replicate}
use Rattle.std.specs.Str.{NonePass}
use Rattle.rustc_parse_format.specs.Characters.{Text}
use Rattle.drawn_lines.specs.Glyphs.{glyphs, is_obeyed}
use Rattle.drawn_labels.specs.Marks.{HungLabel, bars, cells, depth, hung_labels, has_text, hung_row}
use Rattle.drawn_labels.specs.Marks.{hung_rows}
use Rattle.drawn_labels.specs.Marks.{hung_texts, mark_rows, put_cell_at, put_cells_from, rows_below}
use Rattle.drawn_labels.specs.Marks.{rows_of}
use Rattle.drawn_labels.specs.Marks.{side_texts, sign_row, signs_of, sorted_marks, with_bar}
use Rattle.drawn_labels.specs.Marks.{with_hung_text, with_mark, with_side_text, with_signs}
use Rattle.drawn_lines.specs.Painting.{IsColourOf}
use Rattle.drawn_labels.specs.Rows.{Mark, cell, is_covered, space, style_of, text_style}
use Rattle.drawn_labels.specs.Rows.{written_cells}
use Rattle.drawn_lines.specs.Lines.{row_under}
use Rattle.drawn_labels.specs.declared.cells.Cell.{Cell}
use Rattle.drawn_lines.specs.declared.paint.Gutter.{Gutter}
use Rattle.drawn_lines.specs.declared.paint.Palette.TheVariants.{Colourless}
use Rattle.drawn_lines.specs.declared.paint.Style.{Style}
use Rattle.drawn_labels.proofs.HarmlessRows.{Quiet, of_written}
use Rattle.drawn_lines.proofs.Coloured.{either, join, nothing}
use Rattle.drawn_lines.proofs.Harmless.{none-glyphs, written-harmless}
use Rattle.drawn_lines.proofs.HarmlessLines.{of_under, off}

-- rows of cells
if_quiet : (b : Bool) (cs ds : List Cell) → Quiet cs → Quiet ds → Quiet (cond b cs ds)
if_quiet true cs ds p q = p
if_quiet false cs ds p q = q

quiet-put_at : (n : ℕ) (c : Cell) (row : List Cell) → is_obeyed c.character ≡ false → Quiet row
    → Quiet (put_cell_at n c row)
quiet-put_at zero c [] e q = (e, tt)
quiet-put_at zero c (d ∷ row) e q = (e, q.1)
quiet-put_at (suc n) c [] e q = (written-harmless 32 refl, quiet-put_at n c [] e tt)
quiet-put_at (suc n) c (d ∷ row) e q = (q.0, quiet-put_at n c row e q.1)

quiet-put_from : (n : ℕ) (cs row : List Cell) → Quiet cs → Quiet row
    → Quiet (put_cells_from n cs row)
quiet-put_from n [] row p q = q
quiet-put_from n (c ∷ cs) row p q =
    quiet-put_from (suc n) cs (put_cell_at n c row) p.1 (quiet-put_at n c row p.0 q)

quiet-styled : (s : Style) (t : Text) → NonePass is_obeyed t → Quiet (map (cell s) t)
quiet-styled s [] p = tt
quiet-styled s (c ∷ t) p = (p.0, quiet-styled s t p.1)

quiet-text : (s : Style) (t : List ℕ) → Quiet (cells s t)
quiet-text s t = quiet-styled s (glyphs (chars t)) (none-glyphs (chars t))

quiet-replicate : (n : ℕ) (c : Cell) → is_obeyed c.character ≡ false → Quiet (replicate n c)
quiet-replicate zero c e = tt
quiet-replicate (suc n) c e = (e, quiet-replicate n c e)

-- labels whose signs are harmless
abbrev pub AreSigned : List Mark → Type 0
AreSigned [] = Unit {0}
AreSigned (m ∷ ms) = (is_obeyed m.sign ≡ false) × AreSigned ms

with_mark-signed : (before : Mark → Mark → Bool) (m : Mark) (ms : List Mark)
    → is_obeyed m.sign ≡ false → AreSigned ms → AreSigned (with_mark before m ms)
with_mark-signed before m [] e p = (e, tt)
with_mark-signed before m (n ∷ ns) e p =
    by_test (before m n) (with_mark before m ns) (with_mark-signed before m ns e p.1)
  where
    by_test : (b : Bool) (ms : List Mark) → AreSigned ms
        → AreSigned (cond b (m ∷ n ∷ ns) (n ∷ ms))
    by_test true ms q = (e, p)
    by_test false ms q = (p.0, q)

pub sorted-signed : (before : Mark → Mark → Bool) (done ms : List Mark) → AreSigned done
    → AreSigned ms → AreSigned (sorted_marks before done ms)
sorted-signed before done [] p q = p
sorted-signed before done (m ∷ ms) p q =
    sorted-signed before (with_mark before m done) ms (with_mark-signed before m done q.0 p) q.1

-- rows under a line
quiet-side_text : (h : HungLabel) (row : List Cell) → Quiet row → Quiet (with_side_text h row)
quiet-side_text h row q =
    if_quiet (has_text h.mark && (h.down == 0))
    (put_cells_from h.mark.end (space ∷ cells (text_style h.mark) h.mark.text) row) row
    (quiet-put_from h.mark.end (space ∷ cells (text_style h.mark) h.mark.text) row
    (written-harmless 32 refl, quiet-text (text_style h.mark) h.mark.text) q) q

quiet-side_texts : (hs : List HungLabel) (row : List Cell) → Quiet row → Quiet (side_texts hs row)
quiet-side_texts [] row q = q
quiet-side_texts (h ∷ hs) row q =
    quiet-side_texts hs (with_side_text h row) (quiet-side_text h row q)

quiet-signs : (ms : List Mark) (row : List Cell) → AreSigned ms → Quiet row
    → Quiet (with_signs ms row)
quiet-signs [] row p q = q
quiet-signs (m ∷ ms) row p q =
    quiet-signs ms (put_cells_from m.start (signs_of m) row) p.1
    (quiet-put_from m.start (signs_of m) row
    (quiet-replicate (m.end - m.start) (cell (style_of m) m.sign) p.0) q)

quiet-sign_row : (ms : List Mark) (hs : List HungLabel) → AreSigned ms → Quiet (sign_row ms hs)
unfolding sign_row
quiet-sign_row ms hs p =
    quiet-signs (sorted_marks is_covered [] ms) (side_texts hs [])
    (sorted-signed is_covered [] ms tt p) (quiet-side_texts hs [] tt)

quiet-bars : (n : ℕ) (hs : List HungLabel) (row : List Cell) → Quiet row → Quiet (bars n hs row)
quiet-bars n [] row q = q
quiet-bars n (h ∷ hs) row q =
    quiet-bars n hs (with_bar n h row) (if_quiet (has_text h.mark && nat_lt n h.down)
    (put_cell_at h.mark.start (cell (style_of h.mark) 124) row) row
    (quiet-put_at h.mark.start (cell (style_of h.mark) 124) row (written-harmless 124 refl) q) q)

quiet-texts : (n : ℕ) (hs : List HungLabel) (row : List Cell) → Quiet row
    → Quiet (hung_texts n hs row)
quiet-texts n [] row q = q
quiet-texts n (h ∷ hs) row q =
    quiet-texts n hs (with_hung_text n h row)
    (if_quiet (has_text h.mark && (nat_lt 0 h.down && (n == h.down)))
    (put_cells_from h.mark.start (cells (text_style h.mark) h.mark.text) row) row
    (quiet-put_from h.mark.start (cells (text_style h.mark) h.mark.text) row
    (quiet-text (text_style h.mark) h.mark.text) q) q)

of_hung_row : (g : Gutter) (n : ℕ) (hs : List HungLabel)
    → IsColourOf (row_under g (written_cells g.palette (hung_row n hs)))
    (row_under (off g) (written_cells Colourless (hung_row n hs)))
of_hung_row g n hs =
    of_under g (of_written g.palette (hung_row n hs)
    (quiet-texts n hs (bars n hs []) (quiet-bars n hs [] tt)))

of_hung_rows : (g : Gutter) (n : ℕ) (hs : List HungLabel)
    → IsColourOf (hung_rows g n hs) (hung_rows (off g) n hs)
of_hung_rows g zero hs = nothing
of_hung_rows g (suc n) hs = join (of_hung_rows g n hs) (of_hung_row g n hs)

of_rows_below : (g : Gutter) (n : ℕ) (hs : List HungLabel)
    → IsColourOf (rows_below g n hs) (rows_below (off g) n hs)
of_rows_below g n hs =
    either (n == 0) nothing (join (of_hung_rows g n hs) (of_hung_row g n hs))

pub of_marks : (g : Gutter) (ms : List Mark) → AreSigned ms
    → IsColourOf (mark_rows g ms) (mark_rows (off g) ms)
unfolding mark_rows rows_of
of_marks g ms p =
    let hs = hung_labels 0 ms in
    join (of_under g (of_written g.palette (sign_row ms hs) (quiet-sign_row ms hs p)))
    (of_rows_below g (depth 0 hs) hs)
