-- Laws of lines. Reading may stop and go on, the computed lines are those of the cut at the
-- newlines and no others are, and each character has its effect.
use Prim.Native.Char.{code}
use Rattle.std.proofs.Common.{◌≡◌, ◌≢◌, ℕ, ◌++◌, ◌&&◌, ◌==◌, Bool, true, false, not, cond, List, []}
use Rattle.std.proofs.Common.{◌∷◌, length, refl, sym, ap, ◌∙◌}
use Rattle.std.proofs.Common.{append_assoc, if◌then◌else◌}
use Rattle.std.specs.List.{list_all}
use Rattle.std.specs.Char.{is_whitespace}
use Rattle.std.proofs.lemmas.List.{map-append}
use Rattle.std.proofs.lemmas.Bool.{cond-true, and_parts, and_from, not-true, ne_eqb, eq-eqb}
use Rattle.rustc_parse_format.specs.Characters.{Text}
use Rattle.rustc_parse_format.specs.World.{World, Place, place_at}
use Rattle.rustc_parse_format.specs.Marks.{run_texts}
use Rattle.rustc_parse_format.specs.CallStates.{CallState, read_texts}
use Rattle.rustc_parse_format.specs.Lines.{PlacedCharacter, texts_in, is_newline, is_indent}
use Rattle.rustc_parse_format.specs.Lines.{indented_start, IsLines}
use Rattle.rustc_parse_format.specs.Lines.{read_lines, lines_in}

-- Reading from a line start on, and then more from where that stopped.
abbrev pub Reading : Type 0
Reading = ℕ × List Place

abbrev pub then_read : Reading → Reading → Reading
then_read r q = (q.0, r.1 ++ q.1)

-- where the line starts after a character that is no newline
abbrev pub moved : ℕ → PlacedCharacter → ℕ
moved start x = if is_indent start x then x.1.1 else start

pub read_lines-append : (start : ℕ) (xs ys : List PlacedCharacter) →
    read_lines start (xs ++ ys)
    ≡ then_read (read_lines start xs) (read_lines (read_lines start xs).0 ys)
read_lines-append start [] ys = refl
read_lines-append start (x ∷ xs) ys =
    by_test (is_newline x) (read_lines x.1.1 xs) (read_lines x.1.1 (xs ++ ys))
    (read_lines (moved start x) xs) (read_lines (moved start x) (xs ++ ys))
    (read_lines-append x.1.1 xs ys) (read_lines-append (moved start x) xs ys)
  where
    by_test : (b : Bool) (newline newline_both other other_both : Reading) →
        newline_both ≡ then_read newline (read_lines newline.0 ys)
        → other_both ≡ then_read other (read_lines other.0 ys) →
        cond b (newline_both.0, (start, x.1.0) ∷ newline_both.1) other_both
        ≡ then_read (cond b (newline.0, (start, x.1.0) ∷ newline.1) other)
        (read_lines (cond b (newline.0, (start, x.1.0) ∷ newline.1) other).0 ys)
    by_test true newline newline_both other other_both e f =
        ap (λ (r : Reading). (r.0, (start, x.1.0) ∷ r.1)) e
    by_test false newline newline_both other other_both e f = f

-- Characters and their places.
pub noted-append : (w : World) (cs ds : List (ℕ × ℕ)) → texts_in w (cs ++ ds)
    ≡ texts_in w cs ++ texts_in w ds
noted-append w cs ds = map-append (λ (x : ℕ × ℕ). (x.0, place_at w x.1)) cs ds

pub marked-append : (u v r : Text) → run_texts (u ++ v) r ≡ run_texts u (v ++ r) ++ run_texts v r
marked-append [] v r = refl
marked-append (c ∷ u) v r =
    ap (λ (t : Text). (c, length (c ∷ t)) ∷ run_texts (u ++ v) r) (append_assoc u v r)
    ∙ ap (λ (cs : List (ℕ × ℕ)). (c, length (c ∷ (u ++ (v ++ r)))) ∷ cs) (marked-append u v r)

-- The same in a world, whether or not it has a source literal.
pub lines_in-append : (w : World) (start : ℕ) (cs ds : List (ℕ × ℕ)) →
    lines_in w start (cs ++ ds)
    ≡ then_read (lines_in w start cs) (lines_in w (lines_in w start cs).0 ds)
lines_in-append w start cs ds =
    by_test w.has_source (read_lines start (texts_in w cs)) (read_lines start (texts_in w (cs
    ++ ds)))
    (ap (read_lines start) (noted-append w cs ds)
    ∙ read_lines-append start (texts_in w cs) (texts_in w ds))
  where
    by_test : (b : Bool) (first both : Reading) → both
        ≡ then_read first (read_lines first.0 (texts_in w ds)) →
        cond b both (start, [])
        ≡ then_read (cond b first (start, []))
        (cond b (read_lines (cond b first (start, [])).0 (texts_in w ds))
        ((cond b first (start, [])).0, []))
    by_test true first both e = e
    by_test false first both e = refl

pub lines_in-source : (w : World) (start : ℕ) (cs : List (ℕ × ℕ)) → w.has_source ≡ true
    → lines_in w start cs ≡ read_lines start (texts_in w cs)
lines_in-source w start cs e = cond-true w.has_source (read_lines start (texts_in w cs))
    (start, []) e

-- and in the middle of a call
pub read_texts-append : (s : CallState) (cs ds : List (ℕ × ℕ))
    → read_texts s (cs ++ ds) ≡ read_texts (read_texts s cs) ds
read_texts-append s cs ds =
    let r : Reading = lines_in s.world s.line_start cs in
    let q : Reading = lines_in s.world r.0 ds in
    let read : Reading → CallState = λ x. record s { line_start = x.0; lines = s.lines ++ x.1 } in
    ap read (lines_in-append s.world s.line_start cs ds)
    ∙ ap (λ (ls : List Place). record s { line_start = q.0; lines = ls })
    (sym (append_assoc s.lines r.1 q.1))

-- One character at a time: a newline ends the line,
pub read_lines-newline : (start : ℕ) (x : PlacedCharacter) (xs : List PlacedCharacter)
    → is_newline x ≡ true →
    read_lines start (x ∷ xs) ≡ ((read_lines x.1.1 xs).0, (start, x.1.0) ∷ (read_lines x.1.1 xs).1)
read_lines-newline start x xs e =
    ap (λ b. cond b ((read_lines x.1.1 xs).0, (start, x.1.0) ∷ (read_lines x.1.1 xs).1)
    (read_lines (moved start x) xs)) e

-- and no other character does. White space at the start of the line moves that start after itself,
pub read_lines-step : (start : ℕ) (x : PlacedCharacter) (xs : List PlacedCharacter)
    → is_newline x ≡ false →
    read_lines start (x ∷ xs) ≡ read_lines (moved start x) xs
read_lines-step start x xs e =
    ap (λ b. cond b ((read_lines x.1.1 xs).0, (start, x.1.0) ∷ (read_lines x.1.1 xs).1)
    (read_lines (moved start x) xs)) e

-- and any other character moves nothing.
pub read_lines-other : (start : ℕ) (x : PlacedCharacter) (xs : List PlacedCharacter)
    → is_newline x ≡ false
    → is_indent start x ≡ false →
    read_lines start (x ∷ xs) ≡ read_lines start xs
read_lines-other start x xs e f = read_lines-step start x xs e
    ∙ ap (λ b. read_lines (cond b x.1.1 start) xs) f

-- The same of a character, by how many are left from it on, in a world.
newline-yes : (w : World) (c k : ℕ) → c ≡ code "\n" → is_newline (c, place_at w k) ≡ true
newline-yes w c k e = eq-eqb c (code "\n") e

pub indent-no : (w : World) (start c k : ℕ) → (is_whitespace c ≡ true → (place_at w k).0 ≢ start)
    → is_indent start (c, place_at w k) ≡ false
indent-no w start c k h = by_test (is_whitespace c)
    (λ white. ne_eqb (place_at w k).0 start (h white))
  where
    by_test : (b : Bool) → (b ≡ true → ((place_at w k).0 == start) ≡ false)
        → (b && (place_at w k).0 == start) ≡ false
    by_test true f = f refl
    by_test false f = refl

pub note-newline : (w : World) (start c k : ℕ) → c ≡ code "\n" →
    read_lines start (texts_in w ((c, k) ∷ [])) ≡ ((place_at w k).1, (start, (place_at w k).0) ∷ [])
note-newline w start c k e = read_lines-newline start (c, place_at w k) [] (newline-yes w c k e)

-- no newline among them
abbrev pub has_no_newline : List PlacedCharacter → Bool
has_no_newline xs = list_all (λ x. not (is_newline x)) xs

-- none of them is white space that starts at start
abbrev pub has_no_indent : ℕ → List PlacedCharacter → Bool
has_no_indent start xs = list_all (λ x. not (is_indent start x)) xs

-- Characters with no newline give no line,
pub read_lines-one_line : (start : ℕ) (xs : List PlacedCharacter) → has_no_newline xs ≡ true
    → read_lines start xs ≡ (indented_start start xs, [])
read_lines-one_line start [] a = refl
read_lines-one_line start (x ∷ xs) a =
    let h : (not (is_newline x) ≡ true) × (has_no_newline xs ≡ true) =
    and_parts (not (is_newline x)) _ a in
    read_lines-step start x xs (not-true (is_newline x) h.0)
    ∙ read_lines-one_line (moved start x) xs h.1

-- and where none of them is white space at the start of the line, that start stays.
pub read_lines-skip : (start : ℕ) (xs : List PlacedCharacter) → has_no_newline xs ≡ true
    → has_no_indent start xs ≡ true → read_lines start xs ≡ (start, [])
read_lines-skip start [] a b = refl
read_lines-skip start (x ∷ xs) a b =
    let h : (not (is_newline x) ≡ true) × (has_no_newline xs ≡ true) =
    and_parts (not (is_newline x)) _ a in
    let k : (not (is_indent start x) ≡ true) × (has_no_indent start xs ≡ true) =
    and_parts (not (is_indent start x)) _ b in
    read_lines-other start x xs (not-true (is_newline x) h.0) (not-true (is_indent start x) k.0)
    ∙ read_lines-skip start xs h.1 k.1

-- The lines that are read are those of the cut,
cut-further : (start : ℕ) (x : PlacedCharacter) (xs : List PlacedCharacter) (ls : List Place)
    (next : ℕ)
    → is_newline x ≡ false →
    IsLines (moved start x) xs ls next → IsLines start (x ∷ xs) ls next
cut-further start x xs [] next e h = (and_from (not (is_newline x)) _ (ap not e) h.0, h.1)
cut-further start x xs (line ∷ lines) next e (front, rest_after, newline, split, none, is, l, rest)
    = (
      x ∷ front,
      rest_after,
      newline,
      ap (λ (ys : List PlacedCharacter). x ∷ ys) split,
      and_from (not (is_newline x)) _ (ap not e) none,
      is,
      l,
      rest,
    )

pub read_lines-cut : (start : ℕ) (xs : List PlacedCharacter)
    → IsLines start xs (read_lines start xs).1 (read_lines start xs).0
read_lines-cut start [] = (refl, refl)
read_lines-cut start (x ∷ xs) =
    by_test (is_newline x) refl (read_lines-cut x.1.1 xs) (read_lines-cut (moved start x) xs)
  where
    by_test : (b : Bool) → is_newline x ≡ b →
        IsLines x.1.1 xs (read_lines x.1.1 xs).1 (read_lines x.1.1 xs).0 →
        IsLines (moved start x) xs (read_lines (moved start x) xs).1
        (read_lines (moved start x) xs).0 →
        IsLines start (x ∷ xs)
        (cond b ((read_lines x.1.1 xs).0, (start, x.1.0) ∷ (read_lines x.1.1 xs).1)
        (read_lines (moved start x) xs)).1
        (cond b ((read_lines x.1.1 xs).0, (start, x.1.0) ∷ (read_lines x.1.1 xs).1)
        (read_lines (moved start x) xs)).0
    by_test true e newline other = ([], xs, x, refl, refl, e, refl, newline)
    by_test false e newline other = cut-further start x xs _ _ e other

-- and no others are.
pub cut-only : (start : ℕ) (xs : List PlacedCharacter) (ls : List Place) (next : ℕ)
    → IsLines start xs ls next
    → (next, ls) ≡ read_lines start xs
cut-only start xs [] next h = ap (λ (n : ℕ). (n, [])) h.1 ∙ sym (read_lines-one_line start xs h.0)
cut-only start xs (line ∷ lines) next (front, rest_after, newline, split, none, is, l, rest) =
    let first : read_lines start front ≡ (indented_start start front, []) =
    read_lines-one_line start front none in
    let ended : read_lines (indented_start start front) (newline ∷ rest_after)
    ≡ (
      (read_lines newline.1.1 rest_after).0,
      (indented_start start front, newline.1.0)
          ∷ (read_lines newline.1.1 rest_after).1,
    ) =
    read_lines-newline (indented_start start front) newline rest_after is in
    let later : (next, lines) ≡ read_lines newline.1.1 rest_after =
    cut-only newline.1.1 rest_after lines next rest in
    sym (ap (read_lines start) split ∙ (read_lines-append start front (newline ∷ rest_after)
    ∙ (ap (λ (r : Reading). then_read r (read_lines r.0 (newline ∷ rest_after))) first ∙ (ended
    ∙ (ap (λ (r : Reading). (r.0, (indented_start start front, newline.1.0) ∷ r.1)) (sym later)
    ∙ ap (λ (p : Place). (next, p ∷ lines)) (sym l))))))
