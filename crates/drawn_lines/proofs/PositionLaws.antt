-- A line that is found by reading on is the line with its number, and a spot that is found so is
-- that of its byte.
use Rattle.std.proofs.Common.{◌≡◌, ℕ, ◌+◌, ◌-◌, ◌<◌, ◌≤◌, zero, suc, Bool, true, false, List, []}
use Rattle.std.proofs.Common.{◌∷◌, ◌++◌, ◌∙◌, ap, append_assoc, arith, length, nat_lt, refl, sym}
use Rattle.std.proofs.Common.{append-nil}
use Rattle.std.specs.Prelude.{◌==◌, ◌&&◌}
use Rattle.std.specs.Char.{is_whitespace, len_utf8}
use Rattle.std.specs.List.{after_first, fold, list_all, position_or_len}
use Rattle.std.proofs.lemmas.Bool.Decides.{nat_tests}
use Rattle.std.proofs.lemmas.List.{length-append}
use Rattle.std.proofs.lemmas.List.Folds.{list_all-append}
use Rattle.std.proofs.lemmas.Grind.{flat_map-append}
use Rattle.std.proofs.lemmas.List.Sums.{sum_by-cons}
use Rattle.rustc_parse_format.specs.Characters.{Text, byte_length}
use Rattle.drawn_lines.specs.Glyphs.{width}
use Rattle.drawn_lines.specs.Places.{first_line, is_line_feed, line, spot_past, spot}
use Rattle.drawn_lines.specs.Places.{front_within}
use Rattle.drawn_lines.specs.Frames.{Frame}
use Rattle.drawn_lines.specs.Lines.{AddsLine, source_line, source_row}
use Rattle.drawn_lines.specs.Positions.{AreLines, EndsLine, IsLine, IsOneLine, IsSpot, line_feeds}
use Rattle.drawn_lines.specs.Positions.{with_feeds}
use Rattle.drawn_lines.specs.Windows.{columns}
use Rattle.drawn_lines.specs.declared.extent.Spot.{Spot}

-- The first line of a text, and the rest from its line feed on.
record IsFirst (t l after : List ℕ) : Type 0 where
  rest : List ℕ
  whole : t ≡ l ++ rest
  is_one : IsOneLine l
  ends : EndsLine rest
  more : 0 < line_feeds t → rest ≡ 10 ∷ after
  fewer : 0 < line_feeds t → line_feeds t ≡ 1 + line_feeds after

feeds-other : (c : ℕ) (t : List ℕ) → (c == 10) ≡ false → line_feeds (c ∷ t) ≡ line_feeds t
feeds-other c t e = rw e refl

feeds-same : (c : ℕ) (t : List ℕ) → (c == 10) ≡ true → line_feeds (c ∷ t) ≡ 1 + line_feeds t
feeds-same c t e = rw e (omega arith)

first : (t : List ℕ) → IsFirst t (first_line t) (after_first is_line_feed t)
first [] = record {
  rest = [];
  whole = refl;
  is_one = refl;
  ends = tt;
  more = λ l. absurd (omega (arith, l));
  fewer = λ l. absurd (omega (arith, l));
}
first (c ∷ t) = by_test (c == 10) refl (first t)
  where
    by_test : (b : Bool) → (c == 10) ≡ b
        → IsFirst t (first_line t) (after_first is_line_feed t)
        → IsFirst (c ∷ t) (first_line (c ∷ t)) (after_first is_line_feed (c ∷ t))
    by_test true e f =
        rw e (record {
          rest = c ∷ t;
          whole = refl;
          is_one = refl;
          ends = grind (arith, nat_tests);
          more = λ l. ap (λ d. d ∷ t) (grind (arith, nat_tests));
          fewer = λ l. feeds-same c t e;
        })
    by_test false e f =
        let n = position_or_len is_line_feed t in
        let one : 1 + n ≡ suc n = omega arith in
        let two : suc n + 1 ≡ suc (n + 1) = omega arith in
        rw (e, one, two) (record {
          rest = f.rest;
          whole = ap (λ u. c ∷ u) f.whole;
          is_one = rw e f.is_one;
          ends = f.ends;
          more = λ l. f.more (omega (arith, l, feeds-other c t e));
          fewer = λ l. feeds-other c t e ∙ f.fewer (omega (arith, l, feeds-other c t e));
        })

-- The line with a number, behind a line.
next : (n : ℕ) (t u l rest : List ℕ) → IsOneLine l → t ≡ l ++ (10 ∷ rest) → IsLine n rest u
    → IsLine (suc n) t u
next n t u l rest h e k = record {
  before = l ∷ k.before;
  rest = k.rest;
  whole = e ∙ ap (λ v. l ++ (10 ∷ v)) k.whole
      ∙ sym (append_assoc l (10 ∷ []) (with_feeds k.before ++ (u ++ k.rest)))
      ∙ sym (append_assoc (l ++ 10 ∷ []) (with_feeds k.before) (u ++ k.rest));
  count = ap suc k.count;
  are_lines = (h, k.are_lines);
  is_one = k.is_one;
  ends = k.ends;
}

pub line-is : (n : ℕ) (t : List ℕ) → n ≤ line_feeds t → IsLine n t (line n t)
unfolding line
line-is zero t h = let f = first t in record {
  before = [];
  rest = f.rest;
  whole = f.whole;
  count = refl;
  are_lines = tt;
  is_one = f.is_one;
  ends = f.ends;
}
line-is (suc n) t h =
    let f = first t in
    let l : 0 < line_feeds t = omega (arith, h) in
    let k = f.fewer l in
    next n t (line n (after_first is_line_feed t)) (first_line t) (after_first is_line_feed t)
    f.is_one (f.whole ∙ ap (λ u. first_line t ++ u) (f.more l))
    (line-is n (after_first is_line_feed t) (omega (arith, h, k)))

-- The place after whole lines and the front of another one.
abbrev after : List Text → Text → Spot
after ls f = record {
  line = length ls;
  chars = length f;
  column = columns f;
  is_indent = list_all is_whitespace f;
}

-- The place after the text t.
record IsAfter (t : Text) (s : Spot) : Type 0 where
  before : List Text
  front : Text
  whole : t ≡ with_feeds before ++ front
  are_lines : AreLines before
  is_one : IsOneLine front
  same : s ≡ after before front

lines-append : (ls : List Text) (l : Text) → AreLines ls → IsOneLine l → AreLines (ls ++ l ∷ [])
lines-append [] l h k = (k, tt)
lines-append (m ∷ ls) l h k = (h.0, lines-append ls l h.1 k)

columns-append : (t : Text) (c : ℕ) → columns (t ++ c ∷ []) ≡ columns t + width c
columns-append [] c = omega arith
columns-append (d ∷ t) c = omega (arith, columns-append t c)

feeds-append : (t : Text) (c : ℕ) → line_feeds t ≡ 0 → (c == 10) ≡ false
    → line_feeds (t ++ c ∷ []) ≡ 0
feeds-append [] c h e = rw e refl
feeds-append (d ∷ t) c h e = by_test (d == 10) refl (λ k. feeds-append t c k e)
  where
    by_test : (b : Bool) → (d == 10) ≡ b
        → (line_feeds t ≡ 0 → line_feeds (t ++ c ∷ []) ≡ 0)
        → line_feeds (d ∷ (t ++ c ∷ [])) ≡ 0
    by_test true f more = absurd (omega (arith, h, feeds-same d t f))
    by_test false f more = feeds-other d (t ++ c ∷ []) f ∙ more (sym (feeds-other d t f) ∙ h)

and-true : (b : Bool) → (b && true) ≡ b
and-true true = refl
and-true false = refl

past-feed : (ls : List Text) (f : Text) (c : ℕ) → (c == 10) ≡ true
    → spot_past (after ls f) c ≡ after (ls ++ f ∷ []) []
unfolding spot_past
past-feed ls f c e = rw (e, length-append ls (f ∷ [])) refl

past-other : (ls : List Text) (f : Text) (c : ℕ) → (c == 10) ≡ false
    → spot_past (after ls f) c ≡ after ls (f ++ c ∷ [])
unfolding spot_past
past-other ls f c e =
    rw (
      e,
      length-append f (c ∷ []),
      columns-append f c,
      list_all-append is_whitespace f (c ∷ []),
      and-true (is_whitespace c),
    ) refl

feed-moves : (ls : List Text) (f w t : Text) (c : ℕ) → c ≡ 10 → t ≡ with_feeds ls ++ (f ++ c ∷ w)
    → t ≡ with_feeds (ls ++ f ∷ []) ++ ([] ++ w)
feed-moves ls f w t c e h =
    h ∙ ap (λ d. with_feeds ls ++ (f ++ d ∷ w)) e
    ∙ ap (λ u. with_feeds ls ++ u) (sym (append_assoc f (10 ∷ []) w)
    ∙ ap (λ u. u ++ w) (sym (append-nil (f ++ 10 ∷ []))))
    ∙ sym (append_assoc (with_feeds ls) (with_feeds (f ∷ [])) w)
    ∙ ap (λ u. u ++ w) (sym (flat_map-append (λ l. l ++ 10 ∷ []) ls (f ∷ [])))

other-moves : (ls : List Text) (f w t : Text) (c : ℕ) → t ≡ with_feeds ls ++ (f ++ c ∷ w)
    → t ≡ with_feeds ls ++ ((f ++ c ∷ []) ++ w)
other-moves ls f w t c h = h ∙ ap (λ u. with_feeds ls ++ u) (sym (append_assoc f (c ∷ []) w))

walk : (ls : List Text) (f w t : Text) → AreLines ls → IsOneLine f → t ≡ with_feeds ls ++ (f ++ w)
    → IsAfter t (fold spot_past (after ls f) w)
walk ls f [] t h k e = record {
  before = ls;
  front = f;
  whole = e ∙ ap (λ u. with_feeds ls ++ u) (append-nil f);
  are_lines = h;
  is_one = k;
  same = refl;
}
walk ls f (c ∷ w) t h k e = by_test (c == 10) refl (λ ms g. walk ms g w t)
  where
    by_test : (b : Bool) → (c == 10) ≡ b
        → ((ms : List Text) (g : Text) → AreLines ms → IsOneLine g → t ≡ with_feeds ms ++ (g ++ w)
        → IsAfter t (fold spot_past (after ms g) w))
        → IsAfter t (fold spot_past (spot_past (after ls f) c) w)
    by_test true q on =
        let n : c ≡ 10 = grind (arith, nat_tests) in
        rw (past-feed ls f c q) (on (ls ++ f ∷ []) [] (lines-append ls f h k) refl
        (feed-moves ls f w t c n e))
    by_test false q on =
        rw (past-other ls f c q) (on ls (f ++ c ∷ []) h (feeds-append f c k q)
        (other-moves ls f w t c e))

-- The characters of a text that end within n bytes, and the rest.
record IsCut (n : ℕ) (t w : Text) : Type 0 where
  rest : Text
  whole : t ≡ w ++ rest
  starts : byte_length w ≤ n
  ends : (c : ℕ) (u : Text) → rest ≡ c ∷ u → n < byte_length w + len_utf8 c

cut : (n : ℕ) (t : Text) → IsCut n t (front_within n t)
cut n [] = record {
  rest = [];
  whole = refl;
  starts = omega arith;
  ends = λ c u e. cc e;
}
cut n (c ∷ t) = by_test (nat_lt n (len_utf8 c)) refl (cut (n - len_utf8 c) t)
  where
    by_test : (b : Bool) → nat_lt n (len_utf8 c) ≡ b
        → IsCut (n - len_utf8 c) t (front_within (n - len_utf8 c) t)
        → IsCut n (c ∷ t) (front_within n (c ∷ t))
    by_test true e k = rw e (record {
      rest = c ∷ t;
      whole = refl;
      starts = omega arith;
      ends = λ d u q.
          let same : c ≡ d = cc in
          let short : n < len_utf8 c = grind (arith, nat_tests) in
          let long : len_utf8 c ≡ len_utf8 d = ap len_utf8 same in
          omega (arith, short, long);
    })
    by_test false e k =
        let all = sum_by-cons len_utf8 c (front_within (n - len_utf8 c) t) in
        let long : len_utf8 c ≤ n = grind (arith, nat_tests) in
        rw e (record {
          rest = k.rest;
          whole = ap (λ u. c ∷ u) k.whole;
          starts = omega (arith, all, long, k.starts);
          ends = λ d u q. omega (arith, all, long, k.ends d u q);
        })

pub spot-is : (n : ℕ) (t : Text) → IsSpot n t (spot n t)
spot-is n t =
    let k = cut n t in
    let a = walk [] [] (front_within n t) (front_within n t) tt refl refl in
    record {
      before = a.before;
      front = a.front;
      rest = k.rest;
      whole = k.whole ∙ ap (λ u. u ++ k.rest) a.whole
          ∙ append_assoc (with_feeds a.before) a.front k.rest;
      are_lines = a.are_lines;
      is_one = a.is_one;
      line = ap (λ (s : Spot). s.line) a.same;
      chars = ap (λ (s : Spot). s.chars) a.same;
      column = ap (λ (s : Spot). s.column) a.same;
      is_indent = ap (λ (s : Spot). s.is_indent) a.same;
      starts = rw (sym a.whole) k.starts;
      ends = λ c u e. rw (sym a.whole) (k.ends c u e);
    }

-- A row of the source shows the line with its number.
pub row-adds : (f : Frame) (front : List ℕ) (n : ℕ) (old new : List ℕ)
    → new ≡ old ++ source_row f front n → AddsLine f front n old new
unfolding source_line
row-adds f front n old new e = record {
  text = line n f.picture.source;
  is_line = line-is n f.picture.source;
  whole = e;
}

-- what `put_code` needs
pub ruleset adds_line = (row-adds)
