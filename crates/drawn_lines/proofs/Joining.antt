-- Texts that were appended one after the other are appended as one.
use Rattle.std.proofs.Common.{◌≡◌, ◌==◌, ℕ, List, ◌∷◌, ◌++◌, ◌∙◌, append_assoc, arith, false, []}
use Rattle.std.proofs.Common.{append-nil, length, refl}
use Rattle.std.proofs.lemmas.Bool.Decides.{nat_tests}
use Rattle.drawn_lines.specs.Painting.{closing, has_colours, opening, painted_text}
use Rattle.drawn_lines.specs.declared.paint.Palette.{Palette}
use Rattle.drawn_lines.specs.declared.paint.Style.{Style}

-- a text that begins with a character has a style
some-length : (c : ℕ) (cs : List ℕ) → (length (c ∷ cs) == 0) ≡ false
some-length c cs = grind (arith, nat_tests)

pub some-painted : (p : Palette) (s : Style) (c : ℕ) (cs : List ℕ)
    → opening p s ++ ((c ∷ cs) ++ closing p) ≡ painted_text p s (c ∷ cs)
some-painted p s c cs = rw (some-length c cs) refl

-- a text without colours
pub painted-plain : (p : Palette) (s : Style) (bs : List ℕ) → has_colours p ≡ false
    → painted_text p s bs ≡ bs
painted-plain p s [] h = refl
painted-plain p s (c ∷ cs) h = rw (some-length c cs, h) (append-nil (c ∷ cs))

-- what `put_painted_glyphs` needs
pub ruleset without_colours = (painted-plain)

pub join3 : (o a b c : List ℕ) → ((o ++ a) ++ b) ++ c ≡ o ++ (a ++ (b ++ c))
join3 o a b c = append_assoc (o ++ a) b c ∙ append_assoc o a (b ++ c)

pub join4 : (o a b c d : List ℕ) → (((o ++ a) ++ b) ++ c) ++ d ≡ o ++ (a ++ (b ++ (c ++ d)))
join4 o a b c d = append_assoc ((o ++ a) ++ b) c d ∙ join3 o a b (c ++ d)

join5 : (o a b c d e : List ℕ)
    → ((((o ++ a) ++ b) ++ c) ++ d) ++ e ≡ o ++ (a ++ (b ++ (c ++ (d ++ e))))
join5 o a b c d e = append_assoc (((o ++ a) ++ b) ++ c) d e ∙ join4 o a b c (d ++ e)

pub join6 : (o a b c d e f : List ℕ)
    → (((((o ++ a) ++ b) ++ c) ++ d) ++ e) ++ f ≡ o ++ (a ++ (b ++ (c ++ (d ++ (e ++ f)))))
join6 o a b c d e f = append_assoc ((((o ++ a) ++ b) ++ c) ++ d) e f ∙ join5 o a b c d (e ++ f)

join7 : (o a b c d e f g : List ℕ) → ((((((o ++ a) ++ b) ++ c) ++ d) ++ e) ++ f) ++ g
    ≡ o ++ (a ++ (b ++ (c ++ (d ++ (e ++ (f ++ g))))))
join7 o a b c d e f g =
    append_assoc (((((o ++ a) ++ b) ++ c) ++ d) ++ e) f g ∙ join6 o a b c d e (f ++ g)

pub join8 : (o a b c d e f g h : List ℕ) → (((((((o ++ a) ++ b) ++ c) ++ d) ++ e) ++ f) ++ g) ++ h
    ≡ o ++ (a ++ (b ++ (c ++ (d ++ (e ++ (f ++ (g ++ h)))))))
join8 o a b c d e f g h =
    append_assoc ((((((o ++ a) ++ b) ++ c) ++ d) ++ e) ++ f) g h ∙ join7 o a b c d e f (g ++ h)
