-- The drawing of a diagnostic names the first spot at which a primary label begins, and shows the
-- lines of its labels.
use Rattle.std.proofs.Common.{◌≡◌, ◌⊎◌, inl, inr, ◌≤◌, ◌<◌, ℕ, ◌-◌, ◌++◌, ◌∷◌, [], ◌∙◌}
use Rattle.std.proofs.Common.{Bool, Option}
use Rattle.std.proofs.Common.{List, None, Some, ap, append_assoc, append-nil, arith, chars, codes}
use Rattle.std.proofs.Common.{cond, false, map, refl, subst, sym, true}
use Rattle.std.specs.Prelude.{◌==◌, ◌&&◌, if◌then◌else◌, max, nat_lt, unwrap_or}
use Rattle.std.specs.Char.{len_utf8}
use Rattle.std.specs.List.{AllByRecursion, fold}
use Rattle.std.specs.Option.{option_map_or}
use Rattle.std.proofs.lemmas.Bool.Decides.{nat_tests}
use Rattle.rustc_parse_format.specs.Characters.{Text}
use Rattle.drawn_lines.specs.Frames.{Frame}
use Rattle.drawn_lines.specs.Glyphs.{glyph_bytes, run}
use Rattle.drawn_lines.specs.Lines.{code_row, parting}
use Rattle.drawn_lines.specs.Painting.{has_colours, painted_text, palette_of}
use Rattle.drawn_lines.specs.Places.{Picture, extent, offset, origin, spot_past, spot, front_within}
use Rattle.drawn_lines.specs.declared.extent.Spot.{Spot}
use Rattle.drawn_lines.specs.declared.paint.Style.TheVariants.{Bold, Primary, Secondary}
use Rattle.drawn_lines.specs.Positions.{IsSpot}
use Rattle.drawn_lines.proofs.PositionLaws.{row-adds, spot-is}
use Rattle.drawn_labels.specs.Labels.{Label, mark_in}
use Rattle.drawn_labels.specs.Marks.{is_right_of, mark_rows, sorted_marks, with_mark}
use Rattle.drawn_labels.specs.Rows.{Mark}
use Rattle.drawn_labels.specs.Signs.{AddsLabels, IsAmong}
use Rattle.drawn_labels.proofs.LongLaws.{long-adds}
use Rattle.drawn_labels.proofs.SignLaws.{among-sorted, rows-stand, sorted-among}
use Rattle.drawn_faults.specs.Diagnostics.{Diagnostic, SourceLabel, arrow, diagnostic_text}
use Rattle.drawn_faults.specs.Diagnostics.{drawn_in}
use Rattle.drawn_faults.specs.Diagnostics.{each_in_line, first_of, first_spot, frame_of, gap_after}
use Rattle.drawn_faults.specs.Diagnostics.{gutter_of, helps_rows, in_line, is_before, label_of}
use Rattle.drawn_faults.specs.Diagnostics.{labels_rows, level_of, level_word, line_rows}
use Rattle.drawn_faults.specs.Diagnostics.{marked_lines, next_line, notes_rows, parting_above}
use Rattle.drawn_faults.specs.Diagnostics.{titled_labels}
use Rattle.drawn_faults.specs.Shown.{AddsAll, AddsEach, AddsLines, AddsNext, AddsOne, AreByLine}
use Rattle.drawn_faults.specs.Shown.{Descend, IsFirst, NoneBefore, NoneIsPrimary, OneBegins}
use Rattle.drawn_faults.specs.Shown.{PointsAt, ShowsLabels, spot_name, start_of, title_row}

-- Which spot the first one is: the one found before, or the start of one more label that is primary
-- and begins before it.
abbrev earlier : Bool → Spot → Option Spot → Option Spot
earlier b s found =
    if ((if b then 94 else 45) == 94) && option_map_or (is_before s) found true then Some s
    else found

abbrev NotBefore : Option Spot → Spot → Type 0
NotBefore None at = Unit {0}
NotBefore (Some s) at = is_before s at ≡ false

never-before : (s : Spot) → is_before s s ≡ false
never-before s = grind (arith, nat_tests)

after-both : (s t u : Spot) → is_before s t ≡ true → is_before s u ≡ false → is_before t u ≡ false
after-both s t u e f = grind (arith, nat_tests, e, f)

before-neither : (s t u : Spot) → is_before s t ≡ false → is_before t u ≡ false
    → is_before s u ≡ false
before-neither s t u e f = grind (arith, nat_tests, e, f)

step-before : (b : Bool) (s : Spot) (found : Option Spot) (at : Spot)
    → NotBefore (earlier b s found) at → (b ≡ true → is_before s at ≡ false) × NotBefore found at
step-before false s found at h = (λ e. cc, h)
step-before true s None at h = (λ e. h, tt)
step-before true s (Some t) at h = by_test (is_before s t) refl h
  where
    by_test : (c : Bool) → is_before s t ≡ c → NotBefore (if c then Some s else Some t) at
        → (true ≡ true → is_before s at ≡ false) × NotBefore (Some t) at
    by_test true e k = (λ same. k, after-both s t at e k)
    by_test false e k = (λ same. before-neither s t at e k, k)

none-before : (p : Picture) (found : Option Spot) (ls : List SourceLabel) (at : Spot)
    → first_of found (map (label_of p) ls) ≡ Some at → NoneBefore p ls at × NotBefore found at
none-before p None [] at e = (tt, tt)
none-before p (Some s) [] at e =
    (tt, subst (NotBefore (Some s)) (ap (λ o. unwrap_or o s) e) (never-before s))
none-before p found (l ∷ ls) at e =
    let on = none-before p (earlier l.is_primary (start_of p l) found) ls at e in
    let here = step-before l.is_primary (start_of p l) found at on.1 in
    ((here.0, on.0), here.1)

step-one : (b : Bool) (s : Spot) (found : Option Spot) (at : Spot) → earlier b s found ≡ Some at
    → (found ≡ Some at) ⊎ ((b ≡ true) × (s ≡ at))
step-one false s found at e = inl e
step-one true s None at e = inr (refl, ap (λ o. unwrap_or o s) e)
step-one true s (Some t) at e = by_test (is_before s t) e
  where
    by_test : (c : Bool) → (if c then Some s else Some t) ≡ Some at
        → (Some t ≡ Some at) ⊎ ((true ≡ true) × (s ≡ at))
    by_test true k = inr (refl, ap (λ o. unwrap_or o s) k)
    by_test false k = inl k

one-begins : (p : Picture) (found : Option Spot) (ls : List SourceLabel) (at : Spot)
    → first_of found (map (label_of p) ls) ≡ Some at → (found ≡ Some at) ⊎ OneBegins p ls at
unfolding extent
one-begins p found [] at e = inl e
one-begins p found (l ∷ ls) at e =
    elim (one-begins p (earlier l.is_primary (start_of p l) found) ls at e) [
      | inl f ↦ elim (step-one l.is_primary (start_of p l) found at f) [
        | inl k ↦ inl k
        | inr k ↦ inr (inl (
          k.0,
          subst (IsSpot (offset p l.span.0) (chars p.source)) k.1
              (spot-is (offset p l.span.0) (chars p.source)),
        ))
      ]
      | inr k ↦ inr (inr k)
    ]

step-none : (b : Bool) (s : Spot) (found : Option Spot) → earlier b s found ≡ None
    → (b ≡ false) × (found ≡ None)
step-none false s found e = (refl, e)
step-none true s None e = cc
step-none true s (Some t) e = by_test (is_before s t) e
  where
    by_test : (c : Bool) → (if c then Some s else Some t) ≡ None
        → (true ≡ false) × (Some t ≡ None)
    by_test true k = cc
    by_test false k = cc

none-primary : (p : Picture) (found : Option Spot) (ls : List SourceLabel)
    → first_of found (map (label_of p) ls) ≡ None → NoneIsPrimary ls × (found ≡ None)
none-primary p found [] e = (tt, e)
none-primary p found (l ∷ ls) e =
    let on = none-primary p (earlier l.is_primary (start_of p l) found) ls e in
    let here = step-none l.is_primary (start_of p l) found on.1 in
    ((here.0, on.0), here.1)

first-is : (p : Picture) (ls : List SourceLabel)
    → IsFirst p ls (first_spot (map (label_of p) ls))
first-is p ls = by_found (first_of None (map (label_of p) ls)) refl
  where
    by_found : (o : Option Spot) → first_of None (map (label_of p) ls) ≡ o
        → IsFirst p ls (unwrap_or o origin)
    by_found None e = inr ((none-primary p None ls e).0, refl)
    by_found (Some at) e = elim (one-begins p None ls at e) [
      | inl none ↦ cc
      | inr one ↦ inl (one, (none-before p None ls at e).0)
    ]

-- A title, an arrow, the row under it and the lines of labels, with what is below them.
flat : (w b n a p l r : List ℕ) → (w ++ (b ++ (n ++ (a ++ (p ++ l))))) ++ r
    ≡ (w ++ (b ++ n)) ++ (a ++ (p ++ (l ++ r)))
flat w b n a p l r =
    append_assoc w (b ++ (n ++ (a ++ (p ++ l)))) r
    ∙ ap (λ u. w ++ u) (append_assoc b (n ++ (a ++ (p ++ l))) r
    ∙ ap (λ u. b ++ u) (append_assoc n (a ++ (p ++ l)) r
    ∙ ap (λ u. n ++ u) (append_assoc a (p ++ l) r ∙ ap (λ u. a ++ u) (append_assoc p l r))))
    ∙ sym (append_assoc w (b ++ n) (a ++ (p ++ (l ++ r)))
    ∙ ap (λ u. w ++ u) (append_assoc b n (a ++ (p ++ (l ++ r)))))

arrow-parts : (f : Frame) (at : Spot) (rest : List ℕ) → arrow f at ++ rest
    ≡ run f.gutter.columns 32 ++ (painted_text f.gutter.palette Secondary (codes "--> ")
    ++ (spot_name f.picture at ++ rest))
unfolding arrow
arrow-parts f at rest =
    let r = run f.gutter.columns 32 in
    let a = painted_text f.gutter.palette Secondary (codes "--> ") in
    let n = spot_name f.picture at in
    append_assoc r (a ++ n) rest ∙ ap (λ u. r ++ u) (append_assoc a n rest)

-- The rows below the labels of a diagnostic.
abbrev below : Frame → Picture → Diagnostic → List ℕ
below f p d =
    parting_above f d ++ (notes_rows p f.gutter d.notes ++ (helps_rows f d.helps ++ codes "\n"))

abbrev frame : Picture → Diagnostic → Frame
frame p d = frame_of p (gutter_of p d) (map (label_of p) d.labels)

whole-parts : (p : Picture) (d : Diagnostic) → diagnostic_text p d
    ≡ title_row p d ++ (arrow (frame p d) (first_spot (map (label_of p) d.labels))
    ++ (parting (frame p d) ++ (labels_rows (frame p d) (map (label_of p) d.labels)
    ++ below (frame p d) p d)))
unfolding diagnostic_text drawn_in titled_labels frame_of
whole-parts p d =
    let ls = map (label_of p) d.labels in
    let f = frame p d in
    flat (painted_text f.gutter.palette Primary (level_word d.is_warning))
    (painted_text f.gutter.palette Bold (codes ": " ++ glyph_bytes d.title)) (codes "\n")
    (arrow f (first_spot ls)) (parting f) (labels_rows f ls) (below f p d)

frame-is : (p : Picture) (d : Diagnostic) → (frame p d).picture ≡ p
unfolding frame_of
frame-is p d = refl

pub diagnostic-points : (p : Picture) (d : Diagnostic) (text : List ℕ)
    → text ≡ diagnostic_text p d → PointsAt p d text
unfolding frame_of
diagnostic-points p d text e =
    let ls = map (label_of p) d.labels in
    let f = frame p d in
    let rows = parting f ++ (labels_rows f ls ++ below f p d) in
    record {
      at = first_spot ls;
      is_first = first-is p d.labels;
      columns = f.gutter.columns;
      rows_below = rows;
      whole = e ∙ whole-parts p d
          ∙ ap (λ u. title_row p d ++ u) (arrow-parts f (first_spot ls) rows);
    }

-- A spot after more characters is in the same line, or in a later one.
past-line : (s : Spot) (c : ℕ) → s.line ≤ (spot_past s c).line
unfolding spot_past
past-line s c = by_test (c == 10) refl
  where
    by_test : (b : Bool) → (c == 10) ≡ b → s.line ≤ (spot_past s c).line
    by_test true e = rw e (omega arith)
    by_test false e = rw e (omega arith)

walk-line : (w : Text) (s : Spot) → s.line ≤ (fold spot_past s w).line
walk-line [] s = omega arith
walk-line (c ∷ w) s = omega (arith, past-line s c, walk-line w (spot_past s c))

spot-order : (t : Text) (m n : ℕ) (s : Spot) → m ≤ n
    → (fold spot_past s (front_within m t)).line ≤ (fold spot_past s (front_within n t)).line
spot-order [] m n s l = omega arith
spot-order (c ∷ t) m n s l =
    by_test (nat_lt m (len_utf8 c)) refl (λ i k h. spot-order t i k (spot_past s c) h)
  where
    by_test : (b : Bool) → nat_lt m (len_utf8 c) ≡ b
        → ((i k : ℕ) → i ≤ k
        → (fold spot_past (spot_past s c) (front_within i t)).line ≤
        (fold spot_past (spot_past s c) (front_within k t)).line)
        → (fold spot_past s (front_within m (c ∷ t))).line ≤
        (fold spot_past s (front_within n (c ∷ t))).line
    by_test true e on = rw e (walk-line (front_within n (c ∷ t)) s)
    by_test false e on =
        let long : len_utf8 c ≤ m = grind (arith, nat_tests) in
        let wide : nat_lt n (len_utf8 c) ≡ false = grind (arith, nat_tests) in
        rw (e, wide) (on (m - len_utf8 c) (n - len_utf8 c) (omega (arith, l)))

label-order : (p : Picture) (l : SourceLabel)
    → (label_of p l).extent.start.line ≤ (label_of p l).extent.end.line
unfolding extent
label-order p l =
    spot-order (chars p.source) (offset p l.span.0) (max (offset p l.span.0) (offset p l.span.1))
    origin (omega arith)

-- Labels that are put in order are line by line.
lower : (m n : Mark) → is_right_of m n ≡ true → m.line ≤ n.line
lower m n e = grind (arith, nat_tests, e)

not-lower : (m n : Mark) → is_right_of m n ≡ false → n.line ≤ m.line
not-lower m n e = grind (arith, nat_tests, e)

all-lower : (n k : ℕ) (ms : List Mark) → n ≤ k → AllByRecursion (λ m. k ≤ m.line) ms
    → AllByRecursion (λ m. n ≤ m.line) ms
all-lower n k [] l h = tt
all-lower n k (m ∷ ms) l h = (omega (arith, l, h.0), all-lower n k ms l h.1)

all-put : (n : ℕ) (m : Mark) (ms : List Mark) → n ≤ m.line
    → AllByRecursion (λ k. n ≤ k.line) ms
    → AllByRecursion (λ k. n ≤ k.line) (with_mark is_right_of m ms)
all-put n m [] l h = (l, tt)
all-put n m (k ∷ ms) l h = by_test (is_right_of m k) (all-put n m ms l h.1)
  where
    by_test : (b : Bool) → AllByRecursion (λ j. n ≤ j.line) (with_mark is_right_of m ms)
        → AllByRecursion (λ j. n ≤ j.line)
        (cond b (m ∷ k ∷ ms) (k ∷ with_mark is_right_of m ms))
    by_test true on = (l, h)
    by_test false on = (h.0, on)

descend-put : (m : Mark) (ms : List Mark) → Descend ms → Descend (with_mark is_right_of m ms)
descend-put m [] h = (tt, tt)
descend-put m (k ∷ ms) h = by_test (is_right_of m k) refl (descend-put m ms h.1)
  where
    by_test : (b : Bool) → is_right_of m k ≡ b → Descend (with_mark is_right_of m ms)
        → Descend (cond b (m ∷ k ∷ ms) (k ∷ with_mark is_right_of m ms))
    by_test true e on =
        let l = lower m k e in
        ((l, all-lower m.line k.line ms l h.0), h)
    by_test false e on = (all-put k.line m ms (not-lower m k e) h.0, on)

descend-sorted : (done ms : List Mark) → Descend done
    → Descend (sorted_marks is_right_of done ms)
descend-sorted done [] h = h
descend-sorted done (m ∷ ms) h =
    descend-sorted (with_mark is_right_of m done) ms (descend-put m done h)

by-line : (ls : List Mark) → AreByLine ls (sorted_marks is_right_of [] ls)
by-line ls = record {
  each_is = λ m among. elim (sorted-among is_right_of [] ls m among) [
    | inl k ↦ absurd k
    | inr k ↦ k
  ];
  each_stays = λ m among. among-sorted is_right_of [] ls m (inr among);
  descend = descend-sorted [] ls tt;
}

-- The lines of labels are added.
line-adds : (f : Frame) (n : ℕ) (ms : List Mark) (old new : List ℕ)
    → new ≡ old ++ (code_row f n ++ mark_rows f.gutter ms) → AddsLabels f n ms old new
line-adds f n ms old new e = record {
  mid = old ++ code_row f n;
  line = row-adds f (codes " ") n old (old ++ code_row f n) refl;
  rows = rows-stand f.gutter ms (old ++ code_row f n) new
      (rw (append_assoc old (code_row f n) (mark_rows f.gutter ms)) e);
}

next-adds : (b : Bool) (f : Frame) (before : Option ℕ) (n : ℕ) (ms : List Mark) (old : List ℕ)
    → AddsNext b f before n ms old
    (old ++ (if b then [] else gap_after f before n ++ line_rows f n ms))
next-adds true f before n ms old = append-nil old
next-adds false f before n ms old =
    line-adds f n (in_line n ms) (old ++ gap_after f before n) _
    (sym (append_assoc old (gap_after f before n) (line_rows f n ms)))

lines-add : (f : Frame) (before : Option ℕ) (ms : List Mark) (old : List ℕ)
    → AddsLines f before ms old (old ++ marked_lines f before ms)
lines-add f before [] old = append-nil old
lines-add f before (m ∷ ms) old =
    let next = next_line f before m.line (m ∷ ms) in
    let rest = marked_lines f (Some m.line) ms in (
      old ++ next,
      next-adds (option_map_or (λ n. n == m.line) before false) f before m.line (m ∷ ms) old,
      subst (λ v. AddsLines f (Some m.line) ms (old ++ next) v) (append_assoc old next rest)
          (lines-add f (Some m.line) ms (old ++ next)),
    )

each-adds : (f : Frame) (ls : List Label) (old : List ℕ)
    → AddsEach f ls old (old ++ each_in_line f ls)
each-adds f ls old =
    let ms = sorted_marks is_right_of [] (map (mark_in f) ls) in
    (ms, by-line (map (mark_in f) ls), lines-add f None ms old)

one-adds : (f : Frame) (l : Label) (old : List ℕ) → l.extent.start.line ≤ l.extent.end.line
    → AddsOne f l old (old ++ labels_rows f (l ∷ []))
one-adds f l old order = record {
  in_line = λ e.
      let one : (l.extent.start.line == l.extent.end.line) ≡ true = grind (arith, nat_tests) in
      rw one (each-adds f (l ∷ []) old);
  in_lines = λ e h.
      let more : (l.extent.start.line == l.extent.end.line) ≡ false = grind (arith, nat_tests) in
      long-adds f l old (old ++ labels_rows f (l ∷ [])) h e (rw more refl);
  in_order = order;
}

all-add : (f : Frame) (p : Picture) (ls : List SourceLabel) (old : List ℕ)
    → AddsAll f (map (label_of p) ls) old (old ++ labels_rows f (map (label_of p) ls))
all-add f p [] old = each-adds f [] old
all-add f p (l ∷ []) old = one-adds f (label_of p l) old (label-order p l)
all-add f p (l ∷ k ∷ ls) old = each-adds f (map (label_of p) (l ∷ k ∷ ls)) old

pub diagnostic-shows : (p : Picture) (d : Diagnostic) (text : List ℕ)
    → text ≡ diagnostic_text p d → ShowsLabels p d text
diagnostic-shows p d text e =
    let ls = map (label_of p) d.labels in
    let f = frame p d in
    let a = arrow f (first_spot ls) in
    let top = title_row p d ++ (a ++ parting f) in
    record {
      layout = f;
      is_of = frame-is p d;
      mid = top ++ labels_rows f ls;
      labels = all-add f p d.labels top;
      whole = e ∙ whole-parts p d
          ∙ sym (append_assoc top (labels_rows f ls) (below f p d)
          ∙ append_assoc (title_row p d) (a ++ parting f) (labels_rows f ls ++ below f p d)
          ∙ ap (λ u. title_row p d ++ u)
          (append_assoc a (parting f) (labels_rows f ls ++ below f p d)));
    }

-- what `draw_labels` needs
pub ruleset shown_diagnostic = (diagnostic-points, diagnostic-shows)
