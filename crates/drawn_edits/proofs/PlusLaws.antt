-- The signs under a line stand under what is added, and nowhere else.
use Rattle.std.proofs.Common.{◌≡◌, ◌⊎◌, inl, inr, ℕ, ◌+◌, Bool, true, false, List, [], ◌∷◌, ◌++◌}
use Rattle.std.proofs.Common.{◌∙◌, ap, append-nil, append_assoc, arith, chars, codes, cond, get_or}
use Rattle.std.proofs.Common.{length, refl, subst, sym}
use Rattle.std.specs.Prelude.{◌==◌}
use Rattle.std.proofs.lemmas.Bool.{false≢true}
use Rattle.std.proofs.lemmas.List.Sums.{sum_by-cons}
use Rattle.drawn_lines.specs.Frames.{Frame}
use Rattle.drawn_lines.specs.Glyphs.{run}
use Rattle.drawn_lines.specs.Lines.{numbered_gutter, parting, row_under}
use Rattle.drawn_lines.specs.Painting.{Piece, has_colours, piece, plain_text, rank}
use Rattle.drawn_lines.specs.declared.paint.Gutter.{Gutter}
use Rattle.drawn_lines.specs.declared.paint.Palette.{Palette}
use Rattle.drawn_lines.specs.declared.paint.Style.{Style}
use Rattle.drawn_lines.specs.declared.paint.Style.TheVariants.{Addition, Plain, Primary}
use Rattle.drawn_lines.specs.declared.paint.Style.TheVariants.{PrimaryText, Secondary}
use Rattle.drawn_lines.specs.declared.paint.Style.TheVariants.{SecondaryText, Bold, Help, Removal}
use Rattle.drawn_edits.specs.EditedLines.{Edit, do_remove, is_added, new_lines}
use Rattle.drawn_edits.specs.Helps.{after_pluses, columns_of, drawn_pieces, edited_parts}
use Rattle.drawn_edits.specs.Helps.{edits_rows}
use Rattle.drawn_edits.specs.Helps.{is_whole, new_rows, plus_signs, pluses, sign_row}
use Rattle.drawn_edits.specs.PlusSigns.{AddsEdits, AddsSigns, AreSigns, IsAdded, IsSigned, columns}
use Rattle.drawn_edits.specs.PlusSigns.{columns_before, signed_text}
use Rattle.drawn_edits.proofs.PlusColumns.{Column, Here, Left, Right, Spread, column, columns-of}
use Rattle.drawn_edits.proofs.PlusColumns.{spread}

-- A column of an addition is one of the first part or of the others.
abbrev first-of : Piece → List Piece → Piece
first-of d [] = d
first-of d (x ∷ xs) = x

abbrev others-of : List Piece → List Piece
others-of [] = []
others-of (x ∷ xs) = xs

data Under (x : Piece) (xs : List Piece) (n : ℕ) : Type 0 where
  First : is_added x ≡ true → IsSigned (chars x.text) n → Under x xs n
  Others : (k : ℕ) → n ≡ columns (chars x.text) + k → IsAdded xs k → Under x xs n

find-part : (x : Piece) (xs : List Piece) (n : ℕ) → IsAdded (x ∷ xs) n → Under x xs n
find-part x xs n h = by_before h.before h.whole h.place
  where
    by_before : (before : List Piece) → x ∷ xs ≡ before ++ piece Addition h.text ∷ h.rest
        → n ≡ columns_before before + h.column → Under x xs n
    by_before [] e p =
        let same : x ≡ piece Addition h.text = ap (first-of x) e in
        let nil : columns_before [] ≡ 0 = refl in
        let at : h.column ≡ n = omega (arith, p, nil) in
        let here : IsSigned (chars h.text) n = subst (IsSigned (chars h.text)) at h.is_signed in
        First (ap is_added same) (subst (λ y. IsSigned (chars y.text) n) (sym same) here)
    by_before (y ∷ ys) e p =
        let same : x ≡ y = ap (first-of x) e in
        let wide : columns (chars x.text) ≡ columns (chars y.text) =
        ap (λ z. columns (chars z.text)) same in
        let more = sum_by-cons (λ z. columns (chars z.text)) y ys in
        Others (columns_before ys + h.column) (omega (arith, p, wide, more)) (record {
          before = ys;
          text = h.text;
          rest = h.rest;
          whole = ap others-of e;
          column = h.column;
          place = refl;
          is_signed = h.is_signed;
        })

added-after : (x : Piece) (xs : List Piece) (n k : ℕ) → n ≡ columns (chars x.text) + k
    → IsAdded xs k → IsAdded (x ∷ xs) n
added-after x xs n k e h = record {
  before = x ∷ h.before;
  text = h.text;
  rest = h.rest;
  whole = ap (λ ys. x ∷ ys) h.whole;
  column = h.column;
  place = omega (
    arith,
    e,
    h.place,
    sum_by-cons (λ z. columns (chars z.text)) x h.before,
  );
  is_signed = h.is_signed;
}

added-style : (s : Style) → (rank s == 7) ≡ true → s ≡ Addition
added-style Plain e = absurd (false≢true e)
added-style Primary e = absurd (false≢true e)
added-style PrimaryText e = absurd (false≢true e)
added-style Secondary e = absurd (false≢true e)
added-style SecondaryText e = absurd (false≢true e)
added-style Bold e = absurd (false≢true e)
added-style Help e = absurd (false≢true e)
added-style Addition e = refl
added-style Removal e = absurd (false≢true e)

none-added : (n : ℕ) → IsAdded [] n → ⊥
none-added n h = by_before h.before h.whole
  where
    by_before : (before : List Piece) → [] ≡ before ++ piece Addition h.text ∷ h.rest → ⊥
    by_before [] e = absurd (omega (arith, ap length e))
    by_before (y ∷ ys) e = absurd (omega (arith, ap length e))

-- What stands in a column of a row of signs, of which the first columns are before the parts.
data At (xs : List Piece) (gap n c : ℕ) : Type 0 where
  Marked : (m : ℕ) → n ≡ gap + m → IsAdded xs m → c ≡ 43 → At xs gap n c
  Free : ((m : ℕ) → n ≡ gap + m → IsAdded xs m → ⊥) → c ≡ 32 → At xs gap n c

at-kept : (x : Piece) (xs : List Piece) (gap wide n c : ℕ) → is_added x ≡ false
    → wide ≡ gap + columns (chars x.text) → At xs wide n c → At (x ∷ xs) gap n c
at-kept x xs gap wide n c other w (Marked m e a s) =
    Marked (columns (chars x.text) + m) (omega (arith, w, e))
    (added-after x xs (columns (chars x.text) + m) m refl a) s
at-kept x xs gap wide n c other w (Free none s) =
    Free (λ m e a. by_part m e (find-part x xs m a)) s
  where
    by_part : (m : ℕ) → n ≡ gap + m → Under x xs m → ⊥
    by_part m e (First added u) = false≢true (sym other ∙ added)
    by_part m e (Others k g u) = none k (omega (arith, w, e, g)) u

at-added : (x : Piece) (xs : List Piece) (gap n : ℕ) (rest : List ℕ) (c : ℕ)
    (s : Spread (chars x.text)) → is_added x ≡ true
    → Column (gap + columns s.front) (columns (signed_text (chars x.text))) n rest c
    → ((k : ℕ) → At xs (after_pluses (chars x.text)) k (get_or rest k 32))
    → At (x ∷ xs) gap n c
at-added x xs gap n rest c s added (Left l e) on =
    Free (λ m at a. by_part m at (find-part x xs m a)) e
  where
    by_part : (m : ℕ) → n ≡ gap + m → Under x xs m → ⊥
    by_part m at (First _ u) =
        absurd (omega (arith, l, at, u.from, s.only u.front u.back u.whole u.is_white))
    by_part m at (Others k g _) = absurd (omega (arith, l, at, g, s.after))
at-added x xs gap n rest c s added (Here m at l e) on =
    let nil : columns_before [] ≡ 0 = refl in
    let same : x ≡ piece Addition x.text =
    ap (λ style. piece style x.text) (added-style x.style added) in
    Marked (columns s.front + m) (omega (arith, at)) (record {
      before = [];
      text = x.text;
      rest = xs;
      whole = ap (λ y. y ∷ xs) same;
      column = columns s.front + m;
      place = omega (arith, nil);
      is_signed = record {
        front = s.front;
        back = s.back;
        whole = s.whole;
        is_white = s.is_white;
        from = omega arith;
        to = omega (arith, l);
      };
    }) e
at-added x xs gap n rest c s added (Right m at e) on = by_rest (on m)
  where
    by_part : ((k : ℕ) → m ≡ after_pluses (chars x.text) + k → IsAdded xs k → ⊥) → (j : ℕ)
        → n ≡ gap + j → Under x xs j → ⊥
    by_part none j here (First _ u) =
        absurd (omega (arith, at, here, u.to, s.only u.front u.back u.whole u.is_white))
    by_part none j here (Others k g u) = none k (omega (arith, at, here, g, s.after)) u

    by_rest : At xs (after_pluses (chars x.text)) m (get_or rest m 32) → At (x ∷ xs) gap n c
    by_rest (Marked k g a f) =
        Marked (columns (chars x.text) + k) (omega (arith, at, g, s.after))
        (added-after x xs (columns (chars x.text) + k) k refl a) (e ∙ f)
    by_rest (Free none f) =
        Free (λ j here a. by_part none j here (find-part x xs j a)) (e ∙ f)

-- The signs of an addition, and those of the other parts.
row-added : (p : Palette) (x : Piece) (gap : ℕ) (rest : List ℕ) (s : Spread (chars x.text))
    → has_colours p ≡ false → pluses p gap (chars x.text) ++ rest
    ≡ run (gap + columns s.front) 32 ++ (run (columns (signed_text (chars x.text))) 43 ++ rest)
row-added p x gap rest s h =
    ap (λ u. u ++ rest) (s.drawn p gap h)
    ∙ append_assoc (run (gap + columns s.front) 32)
    (run (columns (signed_text (chars x.text))) 43) rest

at-column : (p : Palette) (xs : List Piece) (gap n : ℕ) → has_colours p ≡ false
    → At xs gap n (get_or (plus_signs p gap xs) n 32)
at-column p [] gap n h = Free (λ m e a. none-added m a) refl
at-column p (x ∷ xs) gap n h = by_test (is_added x) refl (λ g k. at-column p xs g k h)
  where
    by_test : (b : Bool) → is_added x ≡ b
        → ((g k : ℕ) → At xs g k (get_or (plus_signs p g xs) k 32))
        → At (x ∷ xs) gap n (get_or (cond b (pluses p gap (chars x.text)
        ++ plus_signs p (after_pluses (chars x.text)) xs)
        (plus_signs p (gap + columns_of 0 (chars x.text)) xs)) n 32)
    by_test false e on =
        at-kept x xs gap (gap + columns_of 0 (chars x.text)) n
        (get_or (plus_signs p (gap + columns_of 0 (chars x.text)) xs) n 32) e
        (omega (arith, columns-of 0 (chars x.text))) (on (gap + columns_of 0 (chars x.text)) n)
    by_test true e on =
        let s = spread (chars x.text) in
        let rest = plus_signs p (after_pluses (chars x.text)) xs in
        let a = gap + columns s.front in
        let b = columns (signed_text (chars x.text)) in
        subst (At (x ∷ xs) gap n) (sym (ap (λ u. get_or u n 32) (row-added p x gap rest s h)))
        (at-added x xs gap n rest (get_or (run a 32 ++ (run b 43 ++ rest)) n 32) s e
        (column a b n rest) (on (after_pluses (chars x.text))))

signs-stand : (p : Palette) (l : List Piece) → has_colours p ≡ false → AreSigns l (plus_signs p 0 l)
signs-stand p l h n = by_column (at-column p l 0 n h)
  where
    by_column : {c : ℕ} → At l 0 n c
        → (IsAdded l n × (c ≡ 43)) ⊎ ((IsAdded l n → ⊥) × (c ≡ 32))
    by_column (Marked m e a s) =
        let same : m ≡ n = omega (arith, e) in
        inl (subst (IsAdded l) same a, s)
    by_column (Free none s) = inr (none n (omega arith), s)

pub signs-add : (g : Gutter) (l : List Piece) (old new : List ℕ)
    → new ≡ old ++ row_under g (plus_signs g.palette 0 l) → has_colours g.palette ≡ false
    → AddsSigns g l old new
signs-add g l old new e h =
    record { row = plus_signs g.palette 0 l; whole = e; are_signs = signs-stand g.palette l h }

-- The rows of edits that only insert something into one line.
line-row : (f : Frame) (n : ℕ) (l : List Piece) → has_colours f.gutter.palette ≡ false
    → sign_row f Secondary (codes "| ") n l
    ≡ numbered_gutter f n ++ (codes " | " ++ (plain_text (drawn_pieces l) ++ codes "\n"))
unfolding sign_row
line-row f n l h = rw h refl

inserted : (f : Frame) (n : ℕ) (xs l : List Piece) (new : List (List Piece))
    → do_remove xs ≡ false → new ≡ l ∷ [] → is_whole l ≡ false → new_rows f n xs new
    ≡ sign_row f Secondary (codes "| ") n l ++ row_under f.gutter (plus_signs f.gutter.palette 0 l)
inserted f n xs l new none one part = ap (new_rows f n xs) one ∙ rw (none, part) refl

pub edits-add : (f : Frame) (es : List Edit) (old new : List ℕ) → new ≡ old ++ edits_rows f es
    → has_colours f.gutter.palette ≡ false → AddsEdits f es old new
edits-add f [] old new e h = e ∙ append-nil old
edits-add f (x ∷ es) old new e h = λ none l one part.
    let n = x.extent.start.line in
    let xs = edited_parts f n (x ∷ es) in
    let line = sign_row f Secondary (codes "| ") n l in
    let signs = row_under f.gutter (plus_signs f.gutter.palette 0 l) in
    let mid = old ++ (parting f ++ line) in
    let whole : new ≡ mid ++ signs =
    e ∙ ap (λ t. old ++ (parting f ++ t)) (inserted f n xs l (new_lines xs) none one part)
    ∙ sym (append_assoc old (parting f ++ line) signs
    ∙ ap (λ t. old ++ t) (append_assoc (parting f) line signs)) in
    record {
      mid = mid;
      line = ap (λ t. old ++ (parting f ++ t)) (line-row f n l h);
      signs = signs-add f.gutter l mid new whole h;
    }

-- what `put_edits` needs
pub ruleset shown_edits = (edits-add)
