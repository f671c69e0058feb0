-- Lemmas on the columns of texts, and on their parts.
use Rattle.std.proofs.Common.{◌≡◌, ℕ, ◌+◌, ◌-◌, ◌≤◌, Bool, true, false, zero, suc, List, []}
use Rattle.std.proofs.Common.{◌∷◌, ◌++◌}
use Rattle.std.proofs.Common.{◌∙◌, ap, arith, chars, cond, encode_utf8_all, length, nat_lt, refl}
use Rattle.std.proofs.Common.{replicate, IsUtf8}
use Rattle.std.specs.Prelude.{◌==◌, ◌||◌, if◌then◌else◌}
use Rattle.std.specs.Int.{is_in_range}
use Rattle.std.specs.List.{list_all}
use Rattle.std.proofs.lemmas.Bool.{and_from, and_parts, cond_both}
use Rattle.std.proofs.lemmas.Bool.Decides.{nat_tests}
use Rattle.std.proofs.lemmas.List.{nil_from_length}
use Rattle.std.proofs.lemmas.Str.{chars-encodes, chars-nil, scalars-chars}
use lib.Utf8.{low_scalar, scalar, scalars}
use Rattle.rustc_parse_format.specs.Characters.{Text}
use Rattle.drawn_lines.specs.Glyphs.{glyph, glyph_count, glyphs, is_bidi_control, is_printable}
use Rattle.drawn_lines.specs.Glyphs.{width}
use Rattle.drawn_lines.specs.Windows.{columns, dotted_part, in_window, is_wide, left_out_columns}
use Rattle.drawn_lines.specs.Windows.{past_columns, shown_line, within_columns}
use Rattle.drawn_lines.specs.declared.paint.Palette.{Palette}
use Rattle.drawn_lines.specs.declared.window.Window.{Window}
use Rattle.drawn_lines.proofs.PrintableLemmas.{whole-printable, width-printable}

-- printable characters take a column each
pub columns-printable : (f : List ℕ) (t : Text) → list_all is_printable f ≡ true
    → columns (f ++ t) ≡ length f + columns t
columns-printable [] t e = omega arith
columns-printable (c ∷ f) t e =
    let parts = and_parts (is_printable c) (list_all is_printable f) e in
    let one = width-printable c parts.0 in
    let more = columns-printable f t parts.1 in
    omega (arith, one, more)

-- nothing is left out
pub left_out-none : (n : ℕ) (t : Text) → n ≡ 0 → left_out_columns n t ≡ 0
left_out-none n [] e = refl
left_out-none n (c ∷ t) e = rw e refl

pub past-none : (n : ℕ) (t : Text) → n ≡ 0 → past_columns n t ≡ t
past-none n [] e = refl
past-none n (c ∷ t) e = rw e refl

pub past-nil : (n : ℕ) (t : Text) → t ≡ [] → past_columns n t ≡ t
past-nil n t e = rw e refl

-- a line that is not cut
pub shown-whole : (p : Palette) (w : Window) (t : Text) → w.start ≡ 0 → is_wide w t ≡ false
    → shown_line p w t ≡ encode_utf8_all (glyphs t)
unfolding shown_line
shown-whole p w t z n = rw (n, past-none w.start (glyphs t) z, z) refl

-- and one of printable characters, for which there is room
pub shown-printable : (p : Palette) (w : Window) (s front back : List ℕ)
    → chars s ≡ front ++ chars back → length back ≡ 0 → list_all is_printable front ≡ true
    → w.start ≡ 0 → length front ≤ w.room → shown_line p w (chars s) ≡ front
shown-printable p w s front back parts none e z l =
    let nil : chars back ≡ [] = ap chars (nil_from_length back none) ∙ chars-nil in
    let count : columns (chars s) ≡ length front + 0 =
    ap columns (parts ∙ ap (λ t. front ++ t) nil) ∙ columns-printable front [] e in
    let narrow : is_wide w (chars s) ≡ false = grind (arith, nat_tests, count, l) in
    shown-whole p w (chars s) z narrow ∙ whole-printable s front back parts none e

-- and one that may be
pub shown-cut : (p : Palette) (w : Window) (t s : Text) (wide : Bool) → s ≡ glyphs t
    → is_wide w t ≡ wide → dotted_part p w wide (in_window w wide s) ≡ shown_line p w t
unfolding shown_line
shown-cut p w t s wide e f = rw (e, f) refl

-- characters of UTF-8
scalars-cond : (b : Bool) (s t : Text) → scalars s ≡ true → scalars t ≡ true
    → scalars (cond b s t) ≡ true
scalars-cond true s t p q = p
scalars-cond false s t p q = q

pub scalars-past : (n : ℕ) (t : Text) → scalars t ≡ true → scalars (past_columns n t) ≡ true
scalars-past n [] e = e
scalars-past n (c ∷ t) e =
    scalars-cond (n == 0) (c ∷ t) (past_columns (n - width c) t) e
    (scalars-past (n - width c) t (and_parts (scalar c) (scalars t) e).1)

pub scalars-within : (n : ℕ) (t : Text) → scalars t ≡ true → scalars (within_columns n t) ≡ true
scalars-within n [] e = e
scalars-within n (c ∷ t) e =
    let parts = and_parts (scalar c) (scalars t) e in
    scalars-cond (nat_lt n (width c)) [] (c ∷ within_columns (n - width c) t) refl
    (and_from (scalar c) (scalars (within_columns (n - width c) t)) parts.0
    (scalars-within (n - width c) t parts.1))

scalars-in_window : (w : Window) (wide : Bool) (t : Text) → scalars t ≡ true
    → scalars (in_window w wide t) ≡ true
scalars-in_window w wide t e =
    let past = scalars-past w.start t e in
    scalars-cond wide (within_columns w.limit (past_columns w.start t)) (past_columns w.start t)
    (scalars-within w.limit (past_columns w.start t) past) past

glyph-scalar : (c : ℕ) → scalar c ≡ true → scalar (glyph c) ≡ true
unfolding glyph
glyph-scalar c e =
    let late = is_in_range 0x80 0x9F c || is_bidi_control c in
    let above = if late then 0xFFFD else c in
    let from_deletion = if c == 127 then 0x2421 else above in
    let from_controls = if nat_lt c 32 then 0x2400 + c else from_deletion in
    let from_line_feed = if c == 10 then 10 else from_controls in
    cond_both (c == 9) 32 from_line_feed (λ g. scalar g ≡ true) (λ yes. refl)
    (λ no. cond_both (c == 10) 10 from_controls (λ g. scalar g ≡ true) (λ yes. refl)
    (λ no. cond_both (nat_lt c 32) (0x2400 + c) from_deletion (λ g. scalar g ≡ true)
    (λ yes. low_scalar (0x2400 + c) (grind (arith, nat_tests)))
    (λ no. cond_both (c == 127) 0x2421 above (λ g. scalar g ≡ true) (λ yes. refl)
    (λ no. cond_both late 0xFFFD c (λ g. scalar g ≡ true) (λ yes. refl) (λ no. e)))))

scalars-run : (n c : ℕ) (t : Text) → scalar c ≡ true → scalars t ≡ true
    → scalars (replicate n c ++ t) ≡ true
scalars-run zero c t e f = f
scalars-run (suc n) c t e f =
    and_from (scalar c) (scalars (replicate n c ++ t)) e (scalars-run n c t e f)

scalars-glyphs : (t : Text) → scalars t ≡ true → scalars (glyphs t) ≡ true
scalars-glyphs [] e = refl
scalars-glyphs (c ∷ t) e =
    let parts = and_parts (scalar c) (scalars t) e in
    scalars-run (glyph_count c) (glyph c) (glyphs t) (glyph-scalar c parts.0)
    (scalars-glyphs t parts.1)

-- The characters of a text as it is drawn.
pub glyph-chars : (bs row : List ℕ) → IsUtf8 bs → row ≡ encode_utf8_all (glyphs (chars bs))
    → chars row ≡ glyphs (chars bs)
glyph-chars bs row u e =
    ap chars e ∙ chars-encodes (glyphs (chars bs)) (scalars-glyphs (chars bs) (scalars-chars bs u))

-- The characters of a part of a text.
pub part-chars : (w : Window) (wide : Bool) (bs part : List ℕ) → IsUtf8 bs
    → part ≡ encode_utf8_all (in_window w wide (chars bs))
    → chars part ≡ in_window w wide (chars bs)
part-chars w wide bs part u e =
    ap chars e ∙ chars-encodes (in_window w wide (chars bs))
    (scalars-in_window w wide (chars bs) (scalars-chars bs u))
