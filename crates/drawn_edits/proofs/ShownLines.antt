-- The old lines of edits are those of the text, and the new ones those of the edited text.
use Rattle.std.proofs.Common.{◌≡◌, ◌∙◌, ℕ, suc, zero, ◌+◌, ◌-◌, ◌≤◌, ◌∷◌, ◌++◌, ◌==◌, ◌⊎◌}
use Rattle.std.proofs.Common.{inl, inr, Bool, true, false, List, [], append_assoc, ap}
use Rattle.std.proofs.Common.{arith, chars, cond, drop, length, length-append, map, refl, sym}
use Rattle.std.proofs.Common.{subst, take, IsUtf8, nat_lt}
use Rattle.std.specs.Prelude.{encode_utf8, encode_utf8_all, max}
use Rattle.std.specs.Char.{len_utf8}
use Rattle.std.specs.List.{AllByRecursion}
use Rattle.std.proofs.Math.Seq.{drop-append_seam, take-append_seam}
use Rattle.std.proofs.lemmas.Bool.{and_parts, eqb-true, ltb-false, ltb-true}
use Rattle.std.proofs.lemmas.List.{map-append, nil_from_length, take-append-drop}
use Rattle.std.proofs.lemmas.List.{take-append-le}
use Rattle.std.proofs.lemmas.Str.{IsUtf8-past_char, encodes-append, encodes-chars}
use Rattle.rustc_parse_format.specs.Characters.{Text}
use Rattle.drawn_lines.specs.Painting.{Piece, piece, plain_text}
use Rattle.drawn_lines.specs.Places.{first_line, front_within}
use Rattle.drawn_lines.specs.declared.paint.Style.TheVariants.{Addition, Plain, Removal}
use Rattle.drawn_edits.specs.EditedLines.{Edit, Page, all_lines, count_to_text, front, have_no_text}
use Rattle.drawn_edits.specs.EditedLines.{is_ended, new_lines, no_page, old_lines, parts}
use Rattle.drawn_edits.specs.EditedLines.{rest_after, with_parts}
use Rattle.drawn_edits.specs.ShownLines.{AreLines, after_edits, edited_source, lines_of}
use Rattle.drawn_edits.proofs.PageLines.{Line, all-texts, glue, glue-last, kept, kept-last}
use Rattle.drawn_edits.proofs.PageLines.{kept-one, line-in, lines-after, lines-append}
use Rattle.drawn_edits.proofs.PageLines.{page-texts, texts, texts-parts}

-- The first characters of a text and the rest.
record AreSplit (n : ℕ) (bs : List ℕ) : Type 0 where
  whole : bs ≡ front n bs ++ rest_after n bs
  is_text : IsUtf8 (rest_after n bs)

within-front : (n : ℕ) (t : Text) → (z : Text) × (t ≡ front_within n t ++ z)
within-front n [] = ([], refl)
within-front n (c ∷ t) = by_room (nat_lt n (len_utf8 c)) (within-front (n - len_utf8 c) t)
  where
    by_room : (v : Bool) → (z : Text) × (t ≡ front_within (n - len_utf8 c) t ++ z)
        → (z : Text) × (c ∷ t ≡ cond v [] (c ∷ front_within (n - len_utf8 c) t) ++ z)
    by_room true h = (c ∷ t, refl)
    by_room false (z, e) = (z, ap (λ u. c ∷ u) e)

utf8-after : (u : Text) (z : List ℕ) → IsUtf8 (encode_utf8_all u ++ z) → IsUtf8 z
utf8-after [] z h = h
utf8-after (c ∷ u) z h =
    utf8-after u z (IsUtf8-past_char _ (encode_utf8_all u ++ z) c h
    (append_assoc (encode_utf8 c) (encode_utf8_all u) z))

split-at : (n : ℕ) (bs : List ℕ) → IsUtf8 bs → AreSplit n bs
split-at n bs h =
    let (z, e) = within-front n (chars bs) in
    let both : bs ≡ front n bs ++ encode_utf8_all z = sym (encodes-chars bs h)
    ∙ (ap encode_utf8_all e ∙ encodes-append (front_within n (chars bs)) z) in
    let rest : rest_after n bs ≡ encode_utf8_all z =
    ap (drop (length (front n bs))) both ∙ drop-append_seam (front n bs) (encode_utf8_all z) in
    record {
      whole = both ∙ ap (λ u. front n bs ++ u) (sym rest);
      is_text = subst IsUtf8 (sym rest)
          (utf8-after (front_within n (chars bs)) (encode_utf8_all z) (subst IsUtf8 both h));
    }

-- The parts of a text: what is left after the last edit ends them.
record Ends (at : ℕ) (es : List Edit) (bs : List ℕ) : Type 0 where
  before : List Piece
  are_parts : parts at es bs ≡ before ++ piece Plain (first_line (after_edits at es bs)) ∷ []
  is_old : bs ≡ kept Addition before ++ after_edits at es bs
  is_new : edited_source at es bs ≡ kept Removal before ++ after_edits at es bs

ends : (at : ℕ) (es : List Edit) (bs : List ℕ) → IsUtf8 bs → Ends at es bs
unfolding kept
ends at [] bs h = record { before = []; are_parts = refl; is_old = refl; is_new = refl }
ends at (e ∷ es) bs h =
    let from = max e.start at in
    let to = max e.end from in
    let one = split-at (from - at) bs h in
    let rest = rest_after (from - at) bs in
    let two = split-at (to - from) rest one.is_text in
    let k = ends to es (rest_after (to - from) rest) two.is_text in
    let f = front (from - at) bs in
    let g = front (to - from) rest in
    let z = after_edits to es (rest_after (to - from) rest) in
    let old = kept Addition k.before in
    let new = kept Removal k.before in
    record {
      before = piece Plain f ∷ piece Removal g ∷ piece Addition e.text ∷ k.before;
      are_parts = ap (λ xs. piece Plain f ∷ piece Removal g ∷ piece Addition e.text ∷ xs)
          k.are_parts;
      is_old = one.whole
          ∙ (ap (λ v. f ++ v) (two.whole ∙ (ap (λ v. g ++ v) k.is_old
          ∙ sym (append_assoc g old z)))
          ∙ sym (append_assoc f (g ++ old) z));
      is_new = ap (λ v. f ++ (e.text ++ v)) k.is_new
          ∙ (ap (λ v. f ++ v) (sym (append_assoc e.text new z))
          ∙ sym (append_assoc f (e.text ++ new) z));
    }

-- Empty lines have no text.
abbrev AreEmpty : List (List ℕ) → Type 0
AreEmpty ts = AllByRecursion (λ (t : List ℕ). t ≡ []) ts

no-text : (xs : List Piece) → have_no_text xs ≡ true → plain_text xs ≡ []
no-text [] h = refl
no-text (x ∷ xs) h =
    let (one, all) = and_parts (length x.text == 0) (have_no_text xs) h in
    let none : x.text ≡ [] = nil_from_length x.text (eqb-true _ _ one) in
    ap (λ u. u ++ plain_text xs) none ∙ no-text xs all

no-lines : (k : ℕ) → AreEmpty (map plain_text (drop k []))
no-lines zero = tt
no-lines (suc k) = tt

-- From the count of lines on there are only empty lines.
count-from : (n m : ℕ) (ls : List (List Piece)) → m ≤ n
    → (m ≤ count_to_text n m ls) × (count_to_text n m ls ≤ n + length ls)
    × AreEmpty (map plain_text (drop (count_to_text n m ls - n) ls))
count-from n m [] h =
    (omega arith, omega (arith, h), no-lines (m - n))
count-from n m (l ∷ ls) h =
    by_text (have_no_text l) refl (λ k g. count-from (n + 1) k ls g)
  where
    by_place : (k : ℕ) (v : Bool) → nat_lt n k ≡ v → (k ≤ n → have_no_text l ≡ true)
        → AreEmpty (map plain_text (drop (k - (n + 1)) ls))
        → AreEmpty (map plain_text (drop (k - n) (l ∷ ls)))
    by_place k true e none all =
        let more : k - n ≡ suc (k - (n + 1)) = omega (arith, ltb-true n k e) in
        rw more all
    by_place k false e none all =
        let few : k ≤ n = ltb-false n k e in
        let here : k - n ≡ 0 = omega (arith, few) in
        let there : k - (n + 1) ≡ 0 = omega (arith, few) in
        let others : AreEmpty (map plain_text ls) = rw there at all in
        rw here (no-text l (none few), others)

    by_text : (v : Bool) → have_no_text l ≡ v
        → ((k : ℕ) → k ≤ n + 1 → (k ≤ count_to_text (n + 1) k ls)
        × (count_to_text (n + 1) k ls ≤ (n + 1) + length ls)
        × AreEmpty (map plain_text (drop (count_to_text (n + 1) k ls - (n + 1)) ls)))
        → (let c = count_to_text (n + 1) (cond v m (n + 1)) ls in
        (m ≤ c) × (c ≤ n + length (l ∷ ls))
        × AreEmpty (map plain_text (drop (c - n) (l ∷ ls))))
    by_text true e on =
        let (low, high, all) = on m (omega (arith, h)) in
        let c = count_to_text (n + 1) m ls in
        (low, omega (arith, high), by_place c (nat_lt n c) refl (λ few. e) all)
    by_text false e on =
        let (low, high, all) = on (n + 1) (omega arith) in
        let c = count_to_text (n + 1) (n + 1) ls in (
          omega (arith, h, low),
          omega (arith, high),
          by_place c (nat_lt n c) refl (λ few. absurd (omega (arith, few, low))) all,
        )

-- A last line without a text is not counted.
count-last : (n m : ℕ) (ls : List (List Piece)) (row : List Piece) → have_no_text row ≡ true
    → count_to_text n m (ls ++ row ∷ []) ≡ count_to_text n m ls
count-last n m [] row none = rw none refl
count-last n m (l ∷ ls) row none = count-last (n + 1) _ ls row none

-- So many of the lines of a page.
first-lines : (m : ℕ) (ls : List (List Piece)) (us others : List (List ℕ))
    → us ≡ map plain_text ls ++ others
    → us ≡ map plain_text (take m ls) ++ (map plain_text (drop m ls) ++ others)
first-lines m ls us others e =
    e ∙ (ap (λ xs. map plain_text xs ++ others) (sym (take-append-drop m ls))
    ∙ (ap (λ xs. xs ++ others) (map-append plain_text (take m ls) (drop m ls))
    ∙ append_assoc (map plain_text (take m ls)) (map plain_text (drop m ls)) others))

-- The new lines, and the empty ones after them.
record Shown (new : List (List Piece)) (us : List (List ℕ)) (end : List ℕ)
    (others : List (List ℕ)) : Type 0 where
  empty : List (List ℕ)
  are_empty : AreEmpty empty
  are_lines : (us ≡ map plain_text new ++ (empty ++ others))
      ⊎ (us ≡ map plain_text new ++ (empty ++ end ∷ others))

page-whole : (p : Page) (us others : List (List ℕ)) (end : List ℕ) → us ≡ texts p ++ others
    → Shown (take (count_to_text 0 0 (all_lines p)) (all_lines p)) us end others
unfolding texts
page-whole p us others end e =
    let ls = all_lines p in
    let m = count_to_text 0 0 ls in
    let zero_left : m - 0 ≡ m = omega arith in
    record {
      empty = map plain_text (drop m ls);
      are_empty = subst (λ k. AreEmpty (map plain_text (drop k ls))) zero_left
          (count-from 0 0 ls (omega arith)).2;
      are_lines = inl (first-lines m ls us others
          (e ∙ ap (λ vs. vs ++ others) (sym (all-texts p))));
    }

page-ended : (p : Page) (us others : List (List ℕ)) (end : List ℕ)
    → us ≡ glue (texts p) (end ∷ others) → have_no_text p.row ≡ true
    → Shown (take (count_to_text 0 0 (all_lines p)) (all_lines p)) us end others
unfolding texts
page-ended p us others end e none =
    let ls = p.lines in
    let m = count_to_text 0 0 ls in
    let (low, high, all) = count-from 0 0 ls (omega arith) in
    let zero_left : m - 0 ≡ m = omega arith in
    let same : count_to_text 0 0 (all_lines p) ≡ m = count-last 0 0 ls p.row none in
    let few : m ≤ length ls = omega (arith, high) in
    let shown : take (count_to_text 0 0 (all_lines p)) (all_lines p) ≡ take m ls =
    ap (λ k. take k (all_lines p)) same ∙ take-append-le m ls (p.row ∷ []) few in
    let whole : us ≡ map plain_text ls ++ end ∷ others =
    e ∙ (glue-last (map plain_text ls) (plain_text p.row) end others
    ∙ ap (λ u. map plain_text ls ++ (u ++ end) ∷ others) (no-text p.row none)) in
    record {
      empty = map plain_text (drop m ls);
      are_empty = subst (λ k. AreEmpty (map plain_text (drop k ls))) zero_left all;
      are_lines = inr (rw shown (first-lines m ls us (end ∷ others) whole));
    }

new-shown : (xs : List Piece) (bs z : List ℕ) (before : List Piece) (l : Line z)
    → xs ≡ before ++ piece Plain (first_line z) ∷ [] → bs ≡ kept Removal before ++ z
    → Shown (new_lines xs) (lines_of bs) (first_line z) l.others
unfolding new_lines
new-shown xs bs z before l e f = by_end (is_ended p) refl
  where
    last : List Piece
    last = piece Plain (first_line z) ∷ []

    p : Page
    p = with_parts Removal (take (length xs - 1) xs) no_page

    size : length xs - 1 ≡ length before
    size = omega (arith, ap length e, length-append before (piece Plain (first_line z) ∷ []))

    first-is : take (length xs - 1) xs ≡ before
    first-is = ap (λ k. take k xs) size ∙ (ap (take (length before)) e
        ∙ take-append_seam before (piece Plain (first_line z) ∷ []))

    last-is : drop (length xs - 1) xs ≡ piece Plain (first_line z) ∷ []
    last-is = ap (λ k. drop k xs) size ∙ (ap (drop (length before)) e
        ∙ drop-append_seam before (piece Plain (first_line z) ∷ []))

    p-is : texts p ≡ lines_of (kept Removal before)
    p-is = page-texts Removal (take (length xs - 1) xs)
        ∙ ap (λ ys. lines_of (kept Removal ys)) first-is

    by_end : (v : Bool) → is_ended p ≡ v
        → (let q = cond v p (with_parts Removal (drop (length xs - 1) xs) p) in
        Shown (take (count_to_text 0 0 (all_lines q)) (all_lines q)) (lines_of bs) (first_line z)
        l.others)
    by_end true q =
        page-ended p (lines_of bs) l.others (first_line z)
        (ap lines_of f ∙ (lines-append (kept Removal before) z
        ∙ (ap (λ us. glue us (lines_of z)) (sym p-is) ∙ ap (λ us. glue (texts p) us) l.split)))
        (and_parts _ _ q).0
    by_end false q =
        let page = with_parts Removal (drop (length xs - 1) xs) p in
        let all : texts page ≡ lines_of (kept Removal before ++ first_line z) =
        texts-parts Removal (drop (length xs - 1) xs) p (kept Removal before) p-is
        ∙ (ap (λ ys. lines_of (kept Removal before ++ kept Removal ys)) last-is
        ∙ ap (λ u. lines_of (kept Removal before ++ u))
        (kept-one Removal (first_line z) refl)) in
        page-whole page (lines_of bs) l.others (first_line z)
        (ap lines_of f ∙ (lines-after (kept Removal before) z l
        ∙ ap (λ us. us ++ l.others) (sym all)))

old-shown : (xs : List Piece) (bs z : List ℕ) (before : List Piece) (l : Line z)
    → xs ≡ before ++ piece Plain (first_line z) ∷ [] → bs ≡ kept Addition before ++ z
    → lines_of bs ≡ map plain_text (old_lines xs) ++ l.others
unfolding old_lines
old-shown xs bs z before l e f =
    let p = with_parts Addition xs no_page in
    let text : kept Addition xs ≡ kept Addition before ++ first_line z =
    ap (kept Addition) e ∙ kept-last Addition before (first_line z) refl in
    let same : map plain_text (all_lines p) ≡ lines_of (kept Addition before ++ first_line z) =
    all-texts p ∙ (page-texts Addition xs ∙ ap lines_of text) in
    ap lines_of f ∙ (lines-after (kept Addition before) z l
    ∙ ap (λ us. us ++ l.others) (sym same))

pub shown-lines : (at : ℕ) (es : List Edit) (bs : List ℕ) → IsUtf8 bs
    → AreLines at es bs (old_lines (parts at es bs)) (new_lines (parts at es bs))
shown-lines at es bs h =
    let k = ends at es bs h in
    let z = after_edits at es bs in
    let l = line-in z in
    let xs = parts at es bs in
    let new = new-shown xs (edited_source at es bs) z k.before l k.are_parts k.is_new in
    record {
      end = first_line z;
      others = l.others;
      after = l.split;
      old_lines = old-shown xs bs z k.before l k.are_parts k.is_old;
      empty = new.empty;
      are_empty = new.are_empty;
      new_lines = new.are_lines;
    }
