-- The lines of a page of parts are those of the text of the parts.
use Rattle.std.proofs.Common.{◌≡◌, ◌∙◌, ℕ, suc, ◌+◌, ◌<◌, ◌∷◌, ◌++◌, ◌==◌}
use Rattle.std.proofs.Common.{Bool, true, false, List, [], append-nil, append_assoc, ap}
use Rattle.std.proofs.Common.{arith, cond, length, length-append, map, refl, sym}
use Rattle.std.proofs.Common.{take}
use Rattle.std.specs.List.{onto_first, position_or_len}
use Rattle.std.proofs.lemmas.List.{map-append}
use Rattle.std.proofs.lemmas.List.Concat.{flat_map-append}
use Rattle.std.proofs.lemmas.List.Splits.{length-slice_split}
use Rattle.drawn_lines.specs.Painting.{Piece, piece, plain_text, rank}
use Rattle.drawn_lines.specs.Places.{first_line, is_line_feed}
use Rattle.drawn_lines.specs.declared.paint.Style.{Style}
use Rattle.drawn_lines.specs.declared.paint.Style.TheVariants.{Plain}
use Rattle.drawn_edits.specs.EditedLines.{Page, all_lines}
use Rattle.drawn_edits.specs.EditedLines.{no_page}
use Rattle.drawn_edits.specs.EditedLines.{with_line, with_parts, with_texts}
use Rattle.drawn_edits.specs.ShownLines.{lines_of}

-- The lines of two texts, one after the other: the last of the first goes on with the first of the
-- second.
pub glue : List (List ℕ) → List (List ℕ) → List (List ℕ)
glue [] ys = ys
glue (x ∷ []) [] = x ∷ []
glue (x ∷ []) (y ∷ ys) = (x ++ y) ∷ ys
glue (x ∷ z ∷ xs) ys = x ∷ glue (z ∷ xs) ys

pub some-lines : (bs : List ℕ) → 0 < length (lines_of bs)
some-lines bs = omega (arith, length-slice_split is_line_feed bs)

glue-none : (ys : List (List ℕ)) → 0 < length ys → ys ≡ glue ([] ∷ []) ys
unfolding glue
glue-none [] h = absurd (omega (arith, h))
glue-none (y ∷ ys) h = refl

glue-cons : (x : List ℕ) (xs ys : List (List ℕ)) → 0 < length xs → x ∷ glue xs ys ≡ glue (x ∷ xs) ys
unfolding glue
glue-cons x [] ys h = absurd (omega (arith, h))
glue-cons x (z ∷ xs) ys h = refl

glue-onto : (c : ℕ) (xs ys : List (List ℕ)) → 0 < length xs
    → onto_first c (glue xs ys) ≡ glue (onto_first c xs) ys
unfolding glue
glue-onto c [] ys h = absurd (omega (arith, h))
glue-onto c (x ∷ []) [] h = refl
glue-onto c (x ∷ []) (y ∷ ys) h = refl
glue-onto c (x ∷ z ∷ xs) ys h = refl

pub glue-last : (xs : List (List ℕ)) (x y : List ℕ) (ys : List (List ℕ))
    → glue (xs ++ x ∷ []) (y ∷ ys) ≡ xs ++ (x ++ y) ∷ ys
unfolding glue
glue-last [] x y ys = refl
glue-last (w ∷ xs) x y ys =
    sym (glue-cons w (xs ++ x ∷ []) (y ∷ ys) (omega (arith, length-append xs (x ∷ []))))
    ∙ ap (λ zs. w ∷ zs) (glue-last xs x y ys)

pub lines-append : (a b : List ℕ) → lines_of (a ++ b) ≡ glue (lines_of a) (lines_of b)
lines-append [] b = glue-none (lines_of b) (some-lines b)
lines-append (c ∷ a) b = by_feed (is_line_feed c) (lines-append a b)
  where
    by_feed : (v : Bool) → lines_of (a ++ b) ≡ glue (lines_of a) (lines_of b)
        → cond v ([] ∷ lines_of (a ++ b)) (onto_first c (lines_of (a ++ b)))
        ≡ glue (cond v ([] ∷ lines_of a) (onto_first c (lines_of a))) (lines_of b)
    by_feed true e = ap (λ us. [] ∷ us) e ∙ glue-cons [] (lines_of a) (lines_of b) (some-lines a)
    by_feed false e = ap (onto_first c) e ∙ glue-onto c (lines_of a) (lines_of b) (some-lines a)

glue-more : (xs : List (List ℕ)) (y : List ℕ) (ys : List (List ℕ)) → 0 < length xs
    → glue xs (y ∷ ys) ≡ glue xs (y ∷ []) ++ ys
unfolding glue
glue-more [] y ys h = absurd (omega (arith, h))
glue-more (x ∷ []) y ys h = refl
glue-more (x ∷ z ∷ xs) y ys h = ap (λ us. x ∷ us) (glue-more (z ∷ xs) y ys (omega arith))

-- The texts of the lines of a page.
unfoldable pub texts : Page → List (List ℕ)
texts p = map plain_text p.lines ++ plain_text p.row ∷ []

plain-add : (row : List Piece) (s : Style) (t : List ℕ)
    → plain_text (row ++ piece s t ∷ []) ≡ plain_text row ++ t
plain-add row s t = flat_map-append (λ (x : Piece). x.text) row (piece s t ∷ [])
    ∙ ap (λ u. plain_text row ++ u) (append-nil t)

texts-line : (s : Style) (t : List ℕ) (p : Page)
    → texts (with_line s t p) ≡ (map plain_text p.lines ++ (plain_text p.row ++ t) ∷ []) ++ [] ∷ []
unfolding texts
texts-line s t p =
    ap (λ us. us ++ [] ∷ []) (map-append plain_text p.lines ((p.row ++ piece s t ∷ []) ∷ [])
    ∙ ap (λ u. map plain_text p.lines ++ u ∷ []) (plain-add p.row s t))

texts-with : (s : Style) (ts : List (List ℕ)) (p : Page) → 0 < length ts
    → texts (with_texts s ts p) ≡ glue (texts p) ts
unfolding texts
texts-with s [] p h = absurd (omega (arith, h))
texts-with s (t ∷ []) p h =
    ap (λ u. map plain_text p.lines ++ u ∷ []) (plain-add p.row s t)
    ∙ sym (glue-last (map plain_text p.lines) (plain_text p.row) t [])
texts-with s (t ∷ u ∷ ts) p h =
    let ls = map plain_text p.lines in
    let l = plain_text p.row ++ t in
    texts-with s (u ∷ ts) (with_line s t p) (omega arith)
    ∙ (ap (λ us. glue us (u ∷ ts)) (texts-line s t p)
    ∙ (glue-last (ls ++ l ∷ []) [] u ts
    ∙ (append_assoc ls (l ∷ []) (u ∷ ts)
    ∙ sym (glue-last ls (plain_text p.row) t (u ∷ ts)))))

-- The text of parts but for those of a style.
unfoldable pub kept : Style → List Piece → List ℕ
kept s [] = []
kept s (x ∷ xs) = cond (rank x.style == rank s) [] x.text ++ kept s xs

kept-append : (s : Style) (xs ys : List Piece) → kept s (xs ++ ys) ≡ kept s xs ++ kept s ys
unfolding kept
kept-append s [] ys = refl
kept-append s (x ∷ xs) ys =
    let t = cond (rank x.style == rank s) [] x.text in
    ap (λ u. t ++ u) (kept-append s xs ys) ∙ sym (append_assoc t (kept s xs) (kept s ys))

pub texts-parts : (s : Style) (xs : List Piece) (p : Page) (bs : List ℕ) → texts p ≡ lines_of bs
    → texts (with_parts s xs p) ≡ lines_of (bs ++ kept s xs)
unfolding kept
texts-parts s [] p bs e = e ∙ ap lines_of (sym (append-nil bs))
texts-parts s (x ∷ xs) p bs e =
    by_style (rank x.style == rank s) (λ q cs. texts-parts s xs q cs)
  where
    by_style : (v : Bool) → ((q : Page) (cs : List ℕ) → texts q ≡ lines_of cs
        → texts (with_parts s xs q) ≡ lines_of (cs ++ kept s xs))
        → texts (with_parts s xs (cond v p (with_texts x.style (lines_of x.text) p)))
        ≡ lines_of (bs ++ (cond v [] x.text ++ kept s xs))
    by_style true on = on p bs e
    by_style false on =
        on (with_texts x.style (lines_of x.text) p) (bs ++ x.text)
        (texts-with x.style (lines_of x.text) p (some-lines x.text)
        ∙ (ap (λ us. glue us (lines_of x.text)) e ∙ sym (lines-append bs x.text)))
        ∙ ap lines_of (append_assoc bs x.text (kept s xs))

pub page-texts : (s : Style) (xs : List Piece)
    → texts (with_parts s xs no_page) ≡ lines_of (kept s xs)
unfolding texts
page-texts s xs = texts-parts s xs no_page [] refl

pub all-texts : (p : Page) → map plain_text (all_lines p) ≡ texts p
unfolding texts
all-texts p = map-append plain_text p.lines (p.row ∷ [])

-- The first line of a text, and the others.
pub record Line (bs : List ℕ) : Type 0 where
  pub others : List (List ℕ)
  pub split : lines_of bs ≡ first_line bs ∷ others
  pub alone : lines_of (first_line bs) ≡ first_line bs ∷ []

take-one : (n c : ℕ) (bs : List ℕ) → take (1 + n) (c ∷ bs) ≡ c ∷ take n bs
take-one n c bs =
    let one : 1 + n ≡ suc n = omega arith in
    ap (λ k. take k (c ∷ bs)) one

pub line-in : (bs : List ℕ) → Line bs
line-in [] = record { others = []; split = refl; alone = refl }
line-in (c ∷ bs) = by_feed (is_line_feed c) refl (line-in bs)
  where
    by_feed : (v : Bool) → is_line_feed c ≡ v → Line bs → Line (c ∷ bs)
    by_feed true e l = record {
      others = lines_of bs;
      split = rw e refl;
      alone = rw e refl;
    }
    by_feed false e l =
        let same : first_line (c ∷ bs) ≡ c ∷ first_line bs =
        rw e (take-one (position_or_len is_line_feed bs) c bs) in
        let one : lines_of (c ∷ first_line bs) ≡ (c ∷ first_line bs) ∷ [] =
        rw e (ap (onto_first c) l.alone) in
        record {
          others = l.others;
          split = rw same (rw e (ap (onto_first c) l.split));
          alone = ap lines_of same ∙ (one ∙ ap (λ u. u ∷ []) (sym same));
        }

-- A text before another one, and the lines of both.
pub lines-after : (a bs : List ℕ) (l : Line bs)
    → lines_of (a ++ bs) ≡ lines_of (a ++ first_line bs) ++ l.others
lines-after a bs l =
    lines-append a bs ∙ (ap (λ us. glue (lines_of a) us) l.split
    ∙ (glue-more (lines_of a) (first_line bs) l.others (some-lines a)
    ∙ ap (λ us. us ++ l.others) (ap (λ us. glue (lines_of a) us) (sym l.alone)
    ∙ sym (lines-append a (first_line bs)))))

-- A part that stays.
pub kept-one : (s : Style) (t : List ℕ) → (rank Plain == rank s) ≡ false
    → kept s (piece Plain t ∷ []) ≡ t
unfolding kept
kept-one s t h = rw h (append-nil t)

pub kept-last : (s : Style) (xs : List Piece) (t : List ℕ) → (rank Plain == rank s) ≡ false
    → kept s (xs ++ piece Plain t ∷ []) ≡ kept s xs ++ t
kept-last s xs t h = kept-append s xs (piece Plain t ∷ [])
    ∙ ap (λ u. kept s xs ++ u) (kept-one s t h)
