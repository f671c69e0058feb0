-- Lemmas on texts with colours: without these they are the texts that are drawn without colours.
use Rattle.std.proofs.Common.{◌≡◌, ◌∙◌, ◌==◌, ℕ, Bool, true, false, List, [], ◌∷◌, ◌++◌, ap}
use Rattle.std.proofs.Common.{append-nil, append_assoc, codes, cond, length, arith, refl, subst}
use Rattle.std.proofs.Common.{sym}
use Rattle.std.proofs.lemmas.Bool.Decides.{nat_tests}
use Rattle.std.specs.Prelude.{flat_map}
use Rattle.std.specs.Char.{is_ascii_digit}
use Rattle.std.specs.List.{list_all}
use Rattle.drawn_lines.specs.Glyphs.{IsHarmless}
use Rattle.drawn_lines.specs.Painting.{AreSafe, IsColourOf, IsColoured, IsHarmlessWith, Part, Piece}
use Rattle.drawn_lines.specs.Painting.{Sgr, Text, change, closing, escape, level_escape, opening}
use Rattle.drawn_lines.specs.Painting.{painted_text, part_bytes, pieces, pieces_after, plain_text}
use Rattle.drawn_lines.specs.Painting.{rank}
use Rattle.drawn_lines.specs.Painting.{reset_of, text_bytes}
use Rattle.drawn_lines.specs.declared.paint.Palette.{Palette}
use Rattle.drawn_lines.specs.declared.paint.Palette.TheVariants.{Colourless, Error, Warning, Note}
use Rattle.drawn_lines.specs.declared.paint.Style.{Style}
use Rattle.drawn_lines.specs.declared.paint.Style.TheVariants.{Plain, Primary, PrimaryText}
use Rattle.drawn_lines.specs.declared.paint.Style.TheVariants.{Secondary, SecondaryText, Bold, Help}
use Rattle.drawn_lines.specs.declared.paint.Style.TheVariants.{Addition, Removal}
use Rattle.drawn_lines.proofs.Harmless.{join as join_harmless, text as written_text}

safe-append : (ps qs : List Part) → AreSafe ps → AreSafe qs → AreSafe (ps ++ qs)
safe-append [] qs p q = q
safe-append (Text bs ∷ ps) qs p q = (p.0, safe-append ps qs p.1 q)
safe-append (Sgr n ∷ ps) qs p q = (p.0, safe-append ps qs p.1 q)

bytes-append : (f : Part → List ℕ) (ps qs : List Part)
    → flat_map f (ps ++ qs) ≡ flat_map f ps ++ flat_map f qs
bytes-append f [] qs = refl
bytes-append f (p ∷ ps) qs =
    ap (λ t. f p ++ t) (bytes-append f ps qs)
    ∙ sym (append_assoc (f p) (flat_map f ps) (flat_map f qs))

bytes-joined : (f : Part → List ℕ) (ps qs : List Part) {s t : List ℕ} → s ≡ flat_map f ps
    → t ≡ flat_map f qs → s ++ t ≡ flat_map f (ps ++ qs)
bytes-joined f ps qs {s = s} {t = t} d e =
    ap (λ u. u ++ t) d ∙ ap (λ u. flat_map f ps ++ u) e ∙ sym (bytes-append f ps qs)

-- two texts after each other
pub join : {s t u v : List ℕ} → IsColourOf s t → IsColourOf u v → IsColourOf (s ++ u) (t ++ v)
join p q = record {
  parts = p.parts ++ q.parts;
  are_all = bytes-joined part_bytes p.parts q.parts p.are_all q.are_all;
  are_plain = bytes-joined text_bytes p.parts q.parts p.are_plain q.are_plain;
  are_safe = safe-append p.parts q.parts p.are_safe q.are_safe;
}

-- one of two texts
pub either : (k : Bool) {s t u v : List ℕ} → IsColourOf s t → IsColourOf u v
    → IsColourOf (cond k s u) (cond k t v)
either true p q = p
either false p q = q

one_of : (k : Bool) {s t u : List ℕ} → IsColourOf s u → IsColourOf t u → IsColourOf (cond k s t) u
one_of true p q = p
one_of false p q = q

-- a text without colours
pub plain : {t : List ℕ} → IsHarmless t → IsColourOf t t
plain {t = t} h = record {
  parts = Text t ∷ [];
  are_all = sym (append-nil t);
  are_plain = sym (append-nil t);
  are_safe = (h, tt);
}

pub nothing : IsColourOf [] []
nothing = record { parts = []; are_all = refl; are_plain = refl; are_safe = tt }

-- escapes
of_level : (p : Palette) → IsColourOf (level_escape p) []
of_level Colourless = nothing
of_level Error = record {
  parts = Sgr (codes "1") ∷ Sgr (codes "91") ∷ [];
  are_all = refl;
  are_plain = refl;
  are_safe = (refl, (refl, tt));
}
of_level Warning = record {
  parts = Sgr (codes "1") ∷ Sgr (codes "33") ∷ [];
  are_all = refl;
  are_plain = refl;
  are_safe = (refl, (refl, tt));
}
of_level Note = record {
  parts = Sgr (codes "1") ∷ Sgr (codes "92") ∷ [];
  are_all = refl;
  are_plain = refl;
  are_safe = (refl, (refl, tt));
}

of_escape : (p : Palette) (s : Style) → IsColourOf (escape p s) []
unfolding escape
of_escape p Plain = nothing
of_escape p Primary = of_level p
of_escape p PrimaryText = of_level p
of_escape p Secondary = record {
  parts = Sgr (codes "1") ∷ Sgr (codes "94") ∷ [];
  are_all = refl;
  are_plain = refl;
  are_safe = (refl, (refl, tt));
}
of_escape p SecondaryText = record {
  parts = Sgr (codes "1") ∷ Sgr (codes "94") ∷ [];
  are_all = refl;
  are_plain = refl;
  are_safe = (refl, (refl, tt));
}
of_escape p Bold = record {
  parts = Sgr (codes "1") ∷ [];
  are_all = refl;
  are_plain = refl;
  are_safe = (refl, tt);
}
of_escape p Help = record {
  parts = Sgr (codes "1") ∷ Sgr (codes "96") ∷ [];
  are_all = refl;
  are_plain = refl;
  are_safe = (refl, (refl, tt));
}
of_escape p Addition = record {
  parts = Sgr (codes "92") ∷ [];
  are_all = refl;
  are_plain = refl;
  are_safe = (refl, tt);
}
of_escape p Removal = record {
  parts = Sgr (codes "91") ∷ [];
  are_all = refl;
  are_plain = refl;
  are_safe = (refl, tt);
}

reset : IsColourOf (codes "\u{1b}[0m") []
reset = record {
  parts = Sgr (codes "0") ∷ [];
  are_all = refl;
  are_plain = refl;
  are_safe = (refl, tt);
}

pub of_opening : (p : Palette) (s : Style) → IsColourOf (opening p s) []
of_opening Colourless s = nothing
of_opening Error s = of_escape Error s
of_opening Warning s = of_escape Warning s
of_opening Note s = of_escape Note s

pub of_closing : (p : Palette) → IsColourOf (closing p) []
of_closing Colourless = nothing
of_closing Error = reset
of_closing Warning = reset
of_closing Note = reset

of_reset : (s : Style) → IsColourOf (reset_of s) []
of_reset s = one_of (rank s == 0) nothing reset

of_change : (p : Palette) (s t : Style) → IsColourOf (change p s t) []
of_change p s t = one_of (rank s == rank t) nothing (join (of_reset s) (of_escape p t))

-- a text in a style
pub of_painted : (p : Palette) (s : Style) {bs : List ℕ} → IsHarmless bs
    → IsColourOf (painted_text p s bs) (painted_text Colourless s bs)
of_painted p s {bs = bs} h =
    either (length bs == 0) nothing (join (of_opening p s) (join (plain h) (of_closing p)))

-- pieces whose texts a terminal does not obey
abbrev pub AreQuiet : List Piece → Type 0
AreQuiet [] = Unit {0}
AreQuiet (x ∷ xs) = IsHarmless x.text × AreQuiet xs

pub quiet-plain : (xs : List Piece) → AreQuiet xs → IsHarmless (plain_text xs)
quiet-plain [] q = written_text [] refl
quiet-plain (x ∷ xs) q = join_harmless q.0 (quiet-plain xs q.1)

of_text : (p : Palette) (s t : Style) (bs : List ℕ) {u v w : List ℕ} → IsHarmless bs
    → IsColourOf u w → IsColourOf v w
    → IsColourOf (cond (length bs == 0) u (change p s t ++ (bs ++ v))) (bs ++ w)
of_text p s t [] h x y = x
of_text p s t (c ∷ bs) h x y =
    let some : (length (c ∷ bs) == 0) ≡ false = grind (arith, nat_tests) in
    rw some (join (of_change p s t) (join (plain h) y))

of_pieces_after : (p : Palette) (s : Style) (xs : List Piece) → AreQuiet xs
    → IsColourOf (pieces_after p s xs) (plain_text xs)
of_pieces_after p s [] q = of_reset s
of_pieces_after p s (x ∷ xs) q =
    of_text p s x.style x.text q.0 (of_pieces_after p s xs q.1) (of_pieces_after p x.style xs q.1)

pub of_pieces : (p : Palette) (xs : List Piece) → AreQuiet xs
    → IsColourOf (pieces p xs) (pieces Colourless xs)
of_pieces Colourless xs q = plain (quiet-plain xs q)
of_pieces Error xs q = of_pieces_after Error Plain xs q
of_pieces Warning xs q = of_pieces_after Warning Plain xs q
of_pieces Note xs q = of_pieces_after Note Plain xs q

-- A terminal obeys nothing of such a text but colours,
pub coloured : {t u : List ℕ} → IsColourOf t u → IsColoured t
coloured h = (h.parts, h.are_all, h.are_safe)

parts-harmless : (ps : List Part) → AreSafe ps → IsHarmless (flat_map text_bytes ps)
parts-harmless [] p = written_text [] refl
parts-harmless (Text bs ∷ ps) p = join_harmless p.0 (parts-harmless ps p.1)
parts-harmless (Sgr n ∷ ps) p = parts-harmless ps p.1

-- and nothing of it without these.
pub uncoloured-harmless : {t u : List ℕ} → IsColourOf t u → IsHarmless u
uncoloured-harmless h = subst IsHarmless (sym h.are_plain) (parts-harmless h.parts h.are_safe)

-- two texts with colours after each other
pub joined : {s t : List ℕ} → IsColoured s → IsColoured t → IsColoured (s ++ t)
joined (ps, e, p) (qs, f, q) =
    (ps ++ qs, bytes-joined part_bytes ps qs e f, safe-append ps qs p q)

-- an escape with a number
pub sgr : (n : List ℕ) → list_all is_ascii_digit n ≡ true
    → IsColoured (codes "\u{1b}[" ++ (n ++ codes "m"))
sgr n e = (Sgr n ∷ [], sym (append-nil (codes "\u{1b}[" ++ (n ++ codes "m"))), (e, tt))

-- texts that have colours or none
pub joined_with : (b : Bool) (s t : List ℕ) → IsHarmlessWith b s → IsHarmlessWith b t
    → IsHarmlessWith b (s ++ t)
joined_with true s t p q = joined p q
joined_with false s t p q = join_harmless p q

pub plain_with : (b : Bool) {t : List ℕ} → IsHarmless t → IsHarmlessWith b t
plain_with true h = coloured (plain h)
plain_with false h = h
