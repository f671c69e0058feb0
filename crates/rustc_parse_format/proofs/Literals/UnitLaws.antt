-- The computed unit at the start of a text is the one that the text begins with.
use Rattle.std.proofs.Common.{◌≡◌, ℕ, ◌++◌, true, false, ◌||◌, [], ◌∷◌, refl, sym, ap, subst, ◌∙◌}
use Rattle.std.proofs.Common.{Option, Some, None, append_assoc}
use Rattle.std.specs.Prelude.{IsTrue, is_some, ⊤, ◌==◌}
use Rattle.std.specs.List.{list_all}
use Rattle.std.proofs.lemmas.Bool.{cond_both, cond-true, cond-false, and_parts, eqb-true, ne_eqb}
use Rattle.std.proofs.lemmas.Bool.{not-false, not-true, not_from_false, or_parts, both_ways}
use Rattle.std.proofs.lemmas.Bool.{false≢true}
use Rattle.rustc_parse_format.specs.Characters.{Text, front, rest_after, first_passes}
use Rattle.rustc_parse_format.specs.LiteralUnits.{LiteralUnit, Plain, SimpleEscape, ByteEscape}
use Rattle.rustc_parse_format.specs.LiteralUnits.{UnicodeEscape, Continuation, spelling, is_unit}
use Rattle.rustc_parse_format.specs.LiteralUnits.{may_precede}
use Rattle.rustc_parse_format.specs.LiteralUnits.{with_rest, at_brace, unicode_at, byte_at}
use Rattle.rustc_parse_format.specs.LiteralUnits.{escape_at, unit_at, is_skipped, is_inside, is_hex}
use Rattle.rustc_parse_format.specs.LiteralUnits.{is_underscore}
use Rattle.rustc_parse_format.specs.LiteralUnits.{is_plain, is_unicode, escaped_character}
use Rattle.rustc_parse_format.proofs.Grammar.Fronts.{front-rest_after, list_all-front}
use Rattle.rustc_parse_format.proofs.Grammar.Fronts.{first_passes-rest_after, front-append}
use Rattle.rustc_parse_format.proofs.Grammar.Fronts.{rest_after-append, list_all-weaker}

-- It is a unit that may stand there, and the text is it and the rest.
pub record IsAtFront (t : Text) (u : LiteralUnit) (r : Text) : Type 0 where
  pub well_formed : IsTrue (is_unit u)
  pub takes_all : IsTrue (may_precede u r)
  pub split : t ≡ spelling u ++ r

abbrev Fits : Text → Option (LiteralUnit × Text) → Type 0
Fits t None = ⊤
Fits t (Some x) = IsAtFront t x.0 x.1

with_rest-fits : (t : Text) (u : LiteralUnit) (r : Text) → IsTrue (may_precede u r)
    → t ≡ spelling u ++ r → Fits t (with_rest r u)
with_rest-fits t u r m e =
    cond_both (is_unit u) (Some (u, r)) None (Fits t)
    (λ yes. record { well_formed = yes; takes_all = m; split = e }) (λ no. tt)

byte_at-fits : (t : Text) → Fits (92 ∷ 120 ∷ t) (byte_at t)
unfolding byte_at
byte_at-fits [] = tt
byte_at-fits (h ∷ []) = tt
byte_at-fits (h ∷ l ∷ r) = with_rest-fits _ (ByteEscape h l) r refl refl

at_brace-fits : (t w b : Text) → t ≡ w ++ b → first_passes is_inside b ≡ false
    → Fits (92 ∷ 117 ∷ 123 ∷ t) (at_brace w b)
at_brace-fits t w [] e n = tt
at_brace-fits t w (c ∷ r) e n =
    let brace : c ≡ 125 = eqb-true c 125 (not-false _ n) in
    with_rest-fits _ (UnicodeEscape w) r refl
    (ap (λ s. 92 ∷ 117 ∷ 123 ∷ s) (e ∙ ap (λ d. w ++ d ∷ r) brace
    ∙ sym (append_assoc w (125 ∷ []) r)))

unicode_at-fits : (t : Text) → Fits (92 ∷ 117 ∷ t) (unicode_at t)
unfolding unicode_at
unicode_at-fits [] = tt
unicode_at-fits (c ∷ t) =
    cond_both (c == 123) (at_brace (front is_inside t) (rest_after is_inside t)) None
    (Fits (92 ∷ 117 ∷ c ∷ t))
    (λ yes. rw (eqb-true c 123 yes)
    (at_brace-fits t (front is_inside t) (rest_after is_inside t) (front-rest_after is_inside t)
    (first_passes-rest_after is_inside t)))
    (λ no. tt)

escape_at-fits : (t : Text) → Fits (92 ∷ t) (escape_at t)
unfolding escape_at
escape_at-fits [] = tt
escape_at-fits (l ∷ t) =
    cond_both {A = Option (LiteralUnit × Text)} (l == 10) _ _ (Fits (92 ∷ l ∷ t))
    (λ yes. record {
      well_formed = list_all-front is_skipped t;
      takes_all = not_from_false _ (first_passes-rest_after is_skipped t);
      split = ap (λ d. 92 ∷ d ∷ t) (eqb-true l 10 yes)
          ∙ ap (λ s. 92 ∷ 10 ∷ s) (front-rest_after is_skipped t);
    })
    (λ _. cond_both {A = Option (LiteralUnit × Text)} (l == 120) _ _ (Fits (92 ∷ l ∷ t))
    (λ yes. rw (eqb-true l 120 yes) (byte_at-fits t))
    (λ _. cond_both {A = Option (LiteralUnit × Text)} (l == 117) _ _ (Fits (92 ∷ l ∷ t))
    (λ yes. rw (eqb-true l 117 yes) (unicode_at-fits t))
    (λ _. with_rest-fits _ (SimpleEscape l) t refl refl)))

unit_at-fits : (t : Text) → Fits t (unit_at t)
unfolding unit_at
unit_at-fits [] = tt
unit_at-fits (c ∷ t) =
    cond_both {A = Option (LiteralUnit × Text)} (c == 92) _ _ (Fits (c ∷ t))
    (λ yes. rw (eqb-true c 92 yes) (escape_at-fits t))
    (λ _. with_rest-fits _ (Plain c) t refl refl)

pub unit_at-front : (t : Text) (u : LiteralUnit) (r : Text) → unit_at t ≡ Some (u, r)
    → IsAtFront t u r
unit_at-front t u r e = subst (Fits t) e (unit_at-fits t)

pub unit_at-nil : unit_at [] ≡ None
unfolding unit_at
unit_at-nil = refl

simple_at-complete : (l : ℕ) (r : Text) → IsTrue (is_some (escaped_character l))
    → unit_at (92 ∷ l ∷ r) ≡ Some (SimpleEscape l, r)
unfolding unit_at escape_at
simple_at-complete l r w =
    cond-false (l == 10) _ _ (ne_eqb l 10 (other 10 refl))
    ∙ (cond-false (l == 120) _ _ (ne_eqb l 120 (other 120 refl))
    ∙ (cond-false (l == 117) _ _ (ne_eqb l 117 (other 117 refl))
    ∙ cond-true (is_some (escaped_character l)) _ _ w))
  where
    other : (n : ℕ) → is_some (escaped_character n) ≡ false → l ≡ n → ⊥
    other n none e = let some : is_some (escaped_character n)
        ≡ true = subst (λ k. is_some (escaped_character k) ≡ true) e w in both_ways _ none some

inside_from_hex : (c : ℕ) → (is_hex c || is_underscore c) ≡ true → is_inside c ≡ true
inside_from_hex c h = not_from_false _ (ne_eqb c 125
    (λ e. let k : (is_hex 125 || is_underscore 125)
    ≡ true = subst (λ d. (is_hex d || is_underscore d) ≡ true) e h in false≢true k))

unicode_at-complete : (w r : Text) → IsTrue (is_unicode w)
    → unicode_at (123 ∷ w ++ 125 ∷ r) ≡ Some (UnicodeEscape w, r)
unfolding unicode_at
unicode_at-complete w r h =
    let all : list_all (λ c. is_hex c || is_underscore c) w
    ≡ true = (and_parts _ _ (and_parts _ _ h).1).0 in
    let inside : list_all is_inside w ≡ true = list_all-weaker _ is_inside w inside_from_hex all in
    rw (
      front-append is_inside w (125 ∷ r) inside refl,
      rest_after-append is_inside w (125 ∷ r) inside refl,
    )
    (cond-true (is_unicode w) _ _ h)

pub unit_at-complete : (u : LiteralUnit) (r : Text) → IsTrue (is_unit u)
    → IsTrue (may_precede u r) →
    unit_at (spelling u ++ r) ≡ Some (u, r)
unfolding unit_at escape_at byte_at
unit_at-complete (Plain c) r w m =
    let plain : ((c == 34 || c == 92) || c == 13) ≡ false = not-true _ w in
    cond-false (c == 92) _ _ (or_parts _ _ (or_parts _ _ plain).0).1 ∙ cond-true (is_plain c) _ _ w
unit_at-complete (SimpleEscape l) r w m = simple_at-complete l r w
unit_at-complete (ByteEscape h l) r w m = cond-true (is_unit (ByteEscape h l)) _ _ w
unit_at-complete (UnicodeEscape v) r w m =
    rw (append_assoc v (125 ∷ []) r) (unicode_at-complete v r w)
unit_at-complete (Continuation v) r w m =
    rw (
      front-append is_skipped v r w (not-true _ m),
      rest_after-append is_skipped v r w (not-true _ m),
    ) refl
