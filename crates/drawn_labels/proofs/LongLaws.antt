-- The lines of a label over several lines have signs under its first and its last character, bars
-- in their margins, and no other signs.
use Rattle.std.proofs.Common.{◌≡◌, ◌⊎◌, inl, inr, ℕ, ◌+◌, ◌-◌, ◌<◌, ◌≤◌, ◌==◌, zero, suc, Bool}
use Rattle.std.proofs.Common.{true, false, cond, List, [], ◌∷◌, ◌++◌, ◌∙◌, ap, arith, append-nil}
use Rattle.std.proofs.Common.{append_assoc, chars, codes, encode_utf8_all, length, max, min, nat_lt}
use Rattle.std.proofs.Common.{not, refl, replicate, sym}
use Rattle.std.proofs.Math.Path.{subst}
use Rattle.std.proofs.Math.Utf8.{encode}
use Rattle.std.proofs.lemmas.Bool.Decides.{nat_tests}
use Rattle.std.proofs.lemmas.Str.{encodes-append}
use Rattle.std.specs.Prelude.{◌&&◌, encode_utf8, if◌then◌else◌}
use Rattle.std.proofs.lemmas.Bool.{false≢true}
use Rattle.rustc_parse_format.specs.Characters.{Text}
use Rattle.drawn_lines.specs.Frames.{Frame}
use Rattle.drawn_lines.specs.Glyphs.{glyph_bytes, glyphs, run}
use Rattle.drawn_lines.specs.Lines.{number_bar, source_line, source_row, row_under}
use Rattle.drawn_lines.specs.Painting.{has_colours, painted_text}
use Rattle.drawn_lines.specs.Places.{line}
use Rattle.drawn_lines.specs.Windows.{shift}
use Rattle.drawn_lines.specs.declared.paint.Palette.{Palette}
use Rattle.drawn_lines.specs.declared.paint.Style.TheVariants.{Primary, PrimaryText, Secondary}
use Rattle.drawn_lines.proofs.Joining.{painted-plain}
use Rattle.drawn_lines.proofs.PositionLaws.{line-is, row-adds}
use Rattle.drawn_labels.specs.Labels.{Label}
use Rattle.drawn_labels.specs.Long.{bar_gap, bar_row, bar_rows, rows_between, end_text, first_rows}
use Rattle.drawn_labels.specs.Long.{is_bare_line}
use Rattle.drawn_labels.specs.Long.{last_rows, lead_text, long_rows, signed_row, without_bare}
use Rattle.drawn_labels.specs.LongSigns.{AddsBars, AddsFirst, AddsLead, AddsLong, AddsSigned}
use Rattle.drawn_labels.specs.LongSigns.{RowsBetween, Dots, IsInLead, Next, character_in, dots_row}

-- The row of a line and of a sign.
row-signed : (f : Frame) (sign : List ℕ) (n : ℕ) (old : List ℕ)
    → has_colours f.gutter.palette ≡ false
    → AddsSigned f sign n old (old ++ signed_row f sign n)
unfolding source_line
row-signed f sign n old h = record {
  text = line n f.picture.source;
  is_line = line-is n f.picture.source;
  whole = ap (λ t. old ++ (number_bar f n ++ (codes " " ++ (t ++ source_line f (codes " ") n))))
      (painted-plain f.gutter.palette Primary sign h);
}

-- A row of a character, a line and a sign, and what follows.
lead_row : ℕ → ℕ → Text → Text
lead_row margin n rest = margin ∷ (replicate n 95 ++ 94 ∷ rest)

line-here : (n k : ℕ) (rest : Text) → k < n → character_in k (replicate n 95 ++ rest) ≡ 95
line-here zero k rest l = absurd (omega (arith, l))
line-here (suc n) zero rest l = refl
line-here (suc n) (suc k) rest l = line-here n k rest (omega (arith, l))

line-after : (n k : ℕ) (rest : Text) → character_in (n + k) (replicate n 95 ++ rest)
    ≡ character_in k rest
line-after zero k rest =
    let e : 0 + k ≡ k = omega arith in
    ap (λ i. character_in i rest) e
line-after (suc n) k rest =
    let e : suc n + k ≡ suc (n + k) = omega arith in
    ap (λ i. character_in i (replicate (suc n) 95 ++ rest)) e ∙ line-after n k rest

-- What is known of the characters that follow: those right of the sign.
abbrev Beside : List ℕ → Text → Type 0
Beside text rest = (k : ℕ) → (character_in k rest ≡ 32)
    ⊎ ((i : ℕ) × (k ≡ i + 1) × (character_in k rest ≡ character_in i (glyphs (chars text))))

lead-in : (margin to : ℕ) (text : List ℕ) (rest : Text) → Beside text rest → (n : ℕ)
    → IsInLead margin to text n (character_in n (lead_row margin (to + 1) rest))
unfolding lead_row
lead-in margin to text rest h zero = record {
  in_margin = λ e. refl;
  leads = λ l k. absurd (omega (arith, l));
  sign = λ e. absurd (omega (arith, e));
  others = λ l. absurd (omega (arith, l));
}
lead-in margin to text rest h (suc n) = record {
  in_margin = λ e. absurd (omega (arith, e));
  leads = λ l k. line-here (to + 1) n (94 ∷ rest) (omega (arith, k));
  sign = λ e.
      let at : n ≡ to + 1 + 0 = omega (arith, e) in
      ap (λ i. character_in i (replicate (to + 1) 95 ++ 94 ∷ rest)) at
      ∙ line-after (to + 1) 0 (94 ∷ rest);
  others = λ l.
      let at : n ≡ to + 1 + suc (n - to - 2) = omega (arith, l) in
      let same : character_in n (replicate (to + 1) 95 ++ 94 ∷ rest)
      ≡ character_in (n - to - 2) rest =
      ap (λ i. character_in i (replicate (to + 1) 95 ++ 94 ∷ rest)) at
      ∙ line-after (to + 1) (suc (n - to - 2)) (94 ∷ rest) in
      elim (h (n - to - 2)) [
        | inl e ↦ inl (same ∙ e)
        | inr e ↦ inr (e.0, omega (arith, e.1, l), same ∙ e.2)
      ];
}

line-length : (n : ℕ) (rest : Text) → length (replicate n 95 ++ rest) ≡ n + length rest
line-length zero rest = omega arith
line-length (suc n) rest = omega (arith, line-length n rest)

lead-length : (margin n : ℕ) (rest : Text) → length (lead_row margin n rest) ≡ n + length rest + 2
unfolding lead_row
lead-length margin n rest = omega (arith, line-length n (94 ∷ rest))

lead-bytes : (p : Palette) (margin : ℕ) (front : List ℕ) (n : ℕ) → has_colours p ≡ false
    → front ≡ encode_utf8 margin → codes "^" ≡ encode_utf8 94
    → lead_text p front n ≡ encode_utf8_all (lead_row margin n [])
unfolding lead_row
lead-bytes p margin front n h e k =
    painted-plain p Primary (front ++ (run n 95 ++ codes "^")) h
    ∙ ap (λ t. t ++ (run n 95 ++ codes "^")) e
    ∙ ap (λ t. encode_utf8 margin ++ (run n 95 ++ t)) (k ∙ sym (append-nil (encode_utf8 94)))
    ∙ ap (λ t. encode_utf8 margin ++ t) (sym (encodes-append (replicate n 95) (94 ∷ [])))

row-append : (margin n : ℕ) (rest : Text) → encode_utf8_all (lead_row margin n [])
    ++ encode_utf8_all rest ≡ encode_utf8_all (lead_row margin n rest)
unfolding lead_row
row-append margin n rest =
    sym (encodes-append (margin ∷ (replicate n 95 ++ 94 ∷ [])) rest)
    ∙ ap (λ t. encode_utf8_all (margin ∷ t)) (append_assoc (replicate n 95) (94 ∷ []) rest)

space-bytes : codes " " ≡ encode_utf8 32
unfolding encode
space-bytes = refl

bar-bytes : codes "|" ≡ encode_utf8 124
unfolding encode
bar-bytes = refl

sign-bytes : codes "^" ≡ encode_utf8 94
unfolding encode
sign-bytes = refl

-- The row under the first line,
start-adds : (f : Frame) (to : ℕ) (old : List ℕ) → has_colours f.gutter.palette ≡ false
    → AddsLead f 32 to [] old
    (old ++ row_under f.gutter (lead_text f.gutter.palette (codes " ") (to + 1)))
start-adds f to old h = record {
  row = lead_row 32 (to + 1) [];
  whole = ap (λ t. old ++ row_under f.gutter t)
      (lead-bytes f.gutter.palette 32 (codes " ") (to + 1) h space-bytes sign-bytes);
  is_lead = lead-in 32 to [] [] (λ k. inl refl);
  ends = λ q. omega (arith, lead-length 32 (to + 1) []);
}

-- and under the last one.
text-beside : (text : List ℕ) → Beside text (32 ∷ glyphs (chars text))
text-beside text zero = inl refl
text-beside text (suc k) = inr (k, omega arith, refl)

end-row : (f : Frame) (n to : ℕ) (text : List ℕ) (rest : Text) (old : List ℕ)
    → has_colours f.gutter.palette ≡ false → n ≡ to + 1
    → end_text f.gutter.palette text ≡ encode_utf8_all rest → Beside text rest
    → (text ≡ [] → length rest ≡ 0)
    → AddsLead f 124 to text old (old ++ row_under f.gutter
    (lead_text f.gutter.palette (codes "|") n
    ++ end_text f.gutter.palette text))
end-row f n to text rest old h e same beside none = record {
  row = lead_row 124 (to + 1) rest;
  whole = ap (λ t. old ++ row_under f.gutter t)
      (ap (λ t. t ++ end_text f.gutter.palette text)
      (lead-bytes f.gutter.palette 124 (codes "|") n h bar-bytes sign-bytes
      ∙ ap (λ k. encode_utf8_all (lead_row 124 k [])) e)
      ∙ ap (λ t. encode_utf8_all (lead_row 124 (to + 1) []) ++ t) same
      ∙ row-append 124 (to + 1) rest);
  is_lead = lead-in 124 to text rest beside;
  ends = λ q. omega (arith, lead-length 124 (to + 1) rest, none q);
}

end-adds : (f : Frame) (n to : ℕ) (text old : List ℕ) → has_colours f.gutter.palette ≡ false
    → n ≡ to + 1
    → AddsLead f 124 to text old (old ++ row_under f.gutter
    (lead_text f.gutter.palette (codes "|") n
    ++ end_text f.gutter.palette text))
end-adds f n to [] old h e =
    end-row f n to [] [] old h e refl (λ k. inl refl) (λ q. refl)
end-adds f n to (c ∷ t) old h e =
    let some : (length (c ∷ t) == 0) ≡ false = grind (arith, nat_tests) in
    end-row f n to (c ∷ t) (32 ∷ glyphs (chars (c ∷ t))) old h e
    (ap (λ b. cond b [] (codes " " ++ painted_text f.gutter.palette PrimaryText
    (glyph_bytes (c ∷ t))))
    some ∙ ap (λ u. codes " " ++ u) (painted-plain f.gutter.palette PrimaryText
    (glyph_bytes (c ∷ t)) h) ∙ ap (λ u. u ++ glyph_bytes (c ∷ t)) space-bytes)
    (text-beside (c ∷ t)) (λ q. absurd (cc q))

-- The first line.
first-adds : (f : Frame) (l : Label) (old : List ℕ) → has_colours f.gutter.palette ≡ false
    → AddsFirst f l old (old ++ first_rows f l)
unfolding first_rows
first-adds f l old h = record {
  slash = λ e. rw e (row-signed f (codes "/") l.extent.start.line old h);
  lead = λ e.
      let mid = old ++ source_row f (codes "   ") l.extent.start.line in
      let to = l.extent.start.column - shift f l.extent.start.line in
      rw (
        e,
        sym (append_assoc old (source_row f (codes "   ") l.extent.start.line)
            (row_under f.gutter (lead_text f.gutter.palette (codes " ") (to + 1)))),
      ) (
        mid,
        row-adds f (codes "   ") l.extent.start.line old mid refl,
        start-adds f to mid h,
      );
}

-- Lines with a bar in front of others,
bars-then : (f : Frame) (at n last : ℕ) (bs : List RowsBetween) (old new : List ℕ)
    → has_colours f.gutter.palette ≡ false → at + n < last
    → AddsBars f (at + n) last bs (old ++ bar_rows f at n) new
    → AddsBars f at last (replicate n Next ++ bs) old new
bars-then f at zero last bs old new h l k =
    let e : at + 0 ≡ at = omega arith in
    subst (λ i. AddsBars f i last bs old new) e
    (subst (λ t. AddsBars f (at + 0) last bs t new) (append-nil old) k)
bars-then f at (suc n) last bs old new h l k =
    let e : at + suc n ≡ at + n + 1 = omega arith in
    let same : replicate n Next ++ Next ∷ bs ≡ replicate (suc n) Next ++ bs = one-more n in
    subst (λ x. AddsBars f at last x old new) same
    (bars-then f at n last (Next ∷ bs) old new h (omega (arith, l)) (
      omega (arith, l),
      (old ++ bar_rows f at n) ++ bar_row f (at + n + 1),
      row-signed f (codes "|") (at + n + 1) (old ++ bar_rows f at n) h,
      subst (λ i. AddsBars f i last bs ((old ++ bar_rows f at n) ++ bar_row f i) new) e
          (subst (λ t. AddsBars f (at + suc n) last bs t new)
          (sym (append_assoc old (bar_rows f at n) (bar_row f (at + suc n)))) k),
    ))
  where
    one-more : (m : ℕ) → replicate m Next ++ Next ∷ bs ≡ replicate (suc m) Next ++ bs
    one-more zero = refl
    one-more (suc m) = ap (λ x. Next ∷ x) (one-more m)

-- and what stands for lines that are left out.
gap_bars : ℕ → ℕ → List RowsBetween
gap_bars at to =
    if to == at + 2 then Next ∷ [] else if nat_lt (at + 2) to then Dots (to - 1 - at) ∷ [] else []

-- The claim on them, by two tests.
abbrev GapThen : Frame → ℕ → ℕ → ℕ → List RowsBetween → List ℕ → List ℕ → Bool → Bool → Type 0
GapThen f at to last bs old new a b =
    AddsBars f (to - 1) last bs (old ++ (if a then bar_row f (at + 1)
    else if b then painted_text f.gutter.palette Secondary (codes "...")
    ++ (run f.gutter.columns 32 ++ (painted_text f.gutter.palette Primary (codes "|")
    ++ codes "\n"))
    else [])) new
    → AddsBars f at last ((if a then Next ∷ [] else if b then Dots (to - 1 - at) ∷ [] else [])
    ++ bs) old new

gap-then : (f : Frame) (at to last : ℕ) (bs : List RowsBetween) (old new : List ℕ)
    → has_colours f.gutter.palette ≡ false → at < to → to ≤ last
    → AddsBars f (to - 1) last bs (old ++ bar_gap f at to) new
    → AddsBars f at last (gap_bars at to ++ bs) old new
unfolding bar_gap gap_bars
gap-then f at to last bs old new h l m k =
    by_tests (to == at + 2) refl (nat_lt (at + 2) to) refl k
  where
    by_tests : (a : Bool) → (to == at + 2) ≡ a → (b : Bool) → nat_lt (at + 2) to ≡ b
        → GapThen f at to last bs old new a b
    by_tests true e b g k =
        let s : to ≡ at + 2 = grind (arith, nat_tests) in
        let i : to - 1 ≡ at + 1 = omega (arith, s) in (
          omega (arith, s, m),
          old ++ bar_row f (at + 1),
          row-signed f (codes "|") (at + 1) old h,
          subst (λ j. AddsBars f j last bs (old ++ bar_row f (at + 1)) new) i k,
        )
    by_tests false e true g k =
        let s : at + 2 < to = grind (arith, nat_tests) in
        let i : to - 1 ≡ at + (to - 1 - at) = omega (arith, s) in (
          omega (arith, s, m),
          omega (arith, s),
          subst (λ j. AddsBars f j last bs (old ++ dots_row f) new) i
              (subst (λ t. AddsBars f (to - 1) last bs (old ++ t) new) dots k),
        )
      where
        dots : painted_text f.gutter.palette Secondary (codes "...")
            ++ (run f.gutter.columns 32
            ++ (painted_text f.gutter.palette Primary (codes "|") ++ codes "\n")) ≡ dots_row f
        dots = ap (λ t. t ++ (run f.gutter.columns 32
            ++ (painted_text f.gutter.palette Primary (codes "|") ++ codes "\n")))
            (painted-plain f.gutter.palette Secondary (codes "...") h)
            ∙ ap (λ t. codes "..." ++ (run f.gutter.columns 32 ++ (t ++ codes "\n")))
            (painted-plain f.gutter.palette Primary (codes "|") h)
    by_tests false e false g k =
        let s : to ≡ at + 1 = grind (arith, nat_tests, l) in
        let i : to - 1 ≡ at = omega (arith, s) in
        subst (λ j. AddsBars f j last bs old new) i
        (subst (λ t. AddsBars f (to - 1) last bs t new) (append-nil old) k)

few-bare : (f : Frame) (first n : ℕ) → without_bare f first n ≤ n
few-bare f first zero = omega arith
few-bare f first (suc n) = by_test (is_bare_line f (first + suc n)) (few-bare f first n)
  where
    by_test : (b : Bool) → without_bare f first n ≤ n
        → cond b (without_bare f first n) (suc n) ≤ suc n
    by_test true h = omega (arith, h)
    by_test false h = omega arith

-- The rows between the first and the last line.
record AddsBetween (f : Frame) (first last : ℕ) (old new : List ℕ) : Type 0 where
  bars : List RowsBetween
  adds : AddsBars f first last bars old new

between-adds : (f : Frame) (first last : ℕ) (old : List ℕ) → has_colours f.gutter.palette ≡ false
    → first < last → AddsBetween f first last old (old ++ rows_between f first last)
unfolding rows_between
between-adds f first last old h l =
    by_test (nat_lt (first + 5) last && not (is_bare_line f (last - 1))) refl
  where
    n : ℕ
    n = without_bare f first (min (last - first - 1) 3)

    mid : List ℕ
    mid = old ++ bar_rows f first n

    few : n ≤ min (last - first - 1) 3
    few = few-bare f first (min (last - first - 1) 3)

    by_test : (b : Bool) → (nat_lt (first + 5) last && not (is_bare_line f (last - 1))) ≡ b
        → AddsBetween f first last old (old ++ (bar_rows f first n
        ++ (if b then bar_gap f (first + n) (last - 1) ++ bar_row f (last - 1)
        else bar_gap f (first + n) last)))
    by_test true e =
        let far : first + 5 < last = before (nat_lt (first + 5) last) refl _ e in
        let low = mid ++ bar_gap f (first + n) (last - 1) in
        let s : last - 1 - 1 + 1 ≡ last - 1 = omega (arith, far) in
        let whole : low ++ bar_row f (last - 1) ≡ old ++ (bar_rows f first n
        ++ (bar_gap f (first + n) (last - 1) ++ bar_row f (last - 1))) =
        append_assoc mid (bar_gap f (first + n) (last - 1)) (bar_row f (last - 1))
        ∙ append_assoc old (bar_rows f first n)
        (bar_gap f (first + n) (last - 1) ++ bar_row f (last - 1)) in
        record {
          bars = replicate n Next ++ (gap_bars (first + n) (last - 1) ++ Next ∷ []);
          adds = bars-then f first n last _ old _ h (omega (arith, few, far))
              (gap-then f (first + n) (last - 1) last (Next ∷ []) mid _ h
              (omega (arith, few, far)) (omega arith) (
                omega (arith, far),
                low ++ bar_row f (last - 1),
                subst (λ i. AddsSigned f (codes "|") i low (low ++ bar_row f (last - 1))) (sym s)
                    (row-signed f (codes "|") (last - 1) low h),
                (omega (arith, far), sym whole),
              ));
        }
      where
        before : (a : Bool) → nat_lt (first + 5) last ≡ a → (b : Bool) → (a && b) ≡ true
            → first + 5 < last
        before true q b t = grind (arith, nat_tests)
        before false q b t = absurd (false≢true t)
    by_test false e = record {
      bars = replicate n Next ++ (gap_bars (first + n) last ++ []);
      adds = bars-then f first n last _ old _ h (omega (arith, few, l))
          (gap-then f (first + n) last last [] mid _ h (omega (arith, few, l)) (omega arith) (
            omega (arith, l),
            sym (append_assoc old (bar_rows f first n) (bar_gap f (first + n) last)),
          ));
    }

-- All lines.
pub long-adds : (f : Frame) (l : Label) (old new : List ℕ) → has_colours f.gutter.palette ≡ false
    → l.extent.start.line < l.extent.end.line → new ≡ old ++ long_rows f l
    → AddsLong f l old new
unfolding long_rows last_rows
long-adds f l old new h lines e =
    let mid = old ++ first_rows f l in
    let low = mid ++ rows_between f l.extent.start.line l.extent.end.line in
    let end = low ++ bar_row f l.extent.end.line in
    let to = l.extent.end.column - shift f l.extent.end.line - 1 in
    let n : max (l.extent.end.column - shift f l.extent.end.line) 1 ≡ to + 1 = omega arith in
    let rows = between-adds f l.extent.start.line l.extent.end.line mid h lines in
    let last = row_under f.gutter (lead_text f.gutter.palette (codes "|")
    (max (l.extent.end.column - shift f l.extent.end.line) 1)
    ++ end_text f.gutter.palette l.text) in
    let whole : end ++ last ≡ new =
    append_assoc low (bar_row f l.extent.end.line) last
    ∙ append_assoc mid (rows_between f l.extent.start.line l.extent.end.line)
    (bar_row f l.extent.end.line ++ last)
    ∙ append_assoc old (first_rows f l) (rows_between f l.extent.start.line l.extent.end.line
    ++ (bar_row f l.extent.end.line ++ last)) ∙ sym e in
    record {
      mid = mid;
      low = low;
      end = end;
      bars = rows.bars;
      first = first-adds f l old h;
      between = rows.adds;
      last = row-signed f (codes "|") l.extent.end.line low h;
      lead = subst (λ t. AddsLead f 124 to l.text end t) whole
          (end-adds f _ to l.text end h n);
    }

pub long-whole : (f : Frame) (l : Label) (old mid low new : List ℕ) → mid ≡ old ++ first_rows f l
    → low ≡ mid ++ rows_between f l.extent.start.line l.extent.end.line → new ≡ low ++ last_rows f l
    → new ≡ old ++ long_rows f l
unfolding long_rows
long-whole f l old mid low new e h k =
    k ∙ ap (λ t. t ++ last_rows f l) (h
    ∙ ap (λ t. t ++ rows_between f l.extent.start.line l.extent.end.line) e)
    ∙ append_assoc (old ++ first_rows f l) (rows_between f l.extent.start.line l.extent.end.line)
    (last_rows f l)
    ∙ append_assoc old (first_rows f l)
    (rows_between f l.extent.start.line l.extent.end.line ++ last_rows f l)
