-- The text that a content stands for, by the unit at the start of the content.
use Rattle.std.proofs.Common.{◌≡◌, ◌≢◌, ◌++◌, ℕ, [], ◌∷◌, List, refl, sym, ap, ◌∙◌, append_assoc}
use Rattle.std.proofs.Common.{append-nil, Option, Some, None, option_map}
use Rattle.std.specs.Prelude.{IsTrue}
use Rattle.std.specs.List.{list_all}
use Rattle.std.proofs.Common.{chars, IsUtf8, length, true, false, arith}
use Rattle.std.specs.Prelude.{encode_utf8, ◌==◌}
use Rattle.std.specs.Char.{IsScalar}
use Rattle.std.proofs.lemmas.Str.{IsUtf8-encode, chars-append, chars_past_char, chars-nil}
use Rattle.std.proofs.lemmas.Str.{encodes-chars}
use Rattle.std.proofs.Math.Utf8.{encodes}
use Rattle.std.proofs.lemmas.Bool.{and_parts}
use Rattle.std.proofs.lemmas.Bool.Decides.{nat_tests}
use Rattle.std.proofs.lemmas.Option.{same_Some, none-some}
use Rattle.rustc_parse_format.specs.Characters.{Text, rest_after, front}
use Rattle.rustc_parse_format.specs.LiteralUnits.{LiteralUnit, Plain, is_plain, meaning, unit_at}
use Rattle.rustc_parse_format.specs.LiteralUnits.{value}
use Rattle.rustc_parse_format.specs.Literal.{IsNoContent, IsOnlyContent, content_value, more_units}
use Rattle.rustc_parse_format.specs.Literal.{units}
use Rattle.rustc_parse_format.proofs.Grammar.Fronts.{front-rest_after, list_all-front}
use Rattle.rustc_parse_format.proofs.Literals.UnitLaws.{unit_at-complete}
use Rattle.rustc_parse_format.proofs.Literals.Contents.{units-nil, units-some, units-none}
use Rattle.rustc_parse_format.proofs.Literals.Contents.{units-only, units-no_content}
use Rattle.rustc_parse_format.proofs.Literals.Meanings.{meaning-none, meaning-some}

-- The text that a content stands for. None if the text is not a content.
abbrev pub text_of : Text → Option Text
text_of t = option_map content_value (units t)

text-none : (t : Text) → t ≢ [] → meaning (unit_at t) ≡ None → text_of t ≡ None
text-none [] n e = absurd (n refl)
text-none (c ∷ t) n e = ap (option_map content_value) (units-none c t (meaning-none _ e))

pub text-unit : (t v r : Text) → meaning (unit_at t) ≡ Some (v, r)
    → text_of t ≡ option_map (λ w. v ++ w) (text_of r)
text-unit t v r e =
    let m = meaning-some (unit_at t) v r e in
    ap (option_map content_value) (units-some t m.unit r m.is_it)
    ∙ by_rest m.unit m.has_value (units r)
  where
    by_rest : (u : LiteralUnit) → value u ≡ v → (o : Option (List LiteralUnit))
        → option_map content_value (more_units u o)
        ≡ option_map (λ w. v ++ w) (option_map content_value o)
    by_rest u h None = refl
    by_rest u h (Some us) = ap (λ x. Some (x ++ content_value us)) h

text-plain : (f r : Text) → IsTrue (list_all is_plain f)
    → text_of (f ++ r) ≡ option_map (λ w. f ++ w) (text_of r)
text-plain [] r h = alone (text_of r)
  where
    alone : (o : Option Text) → o ≡ option_map (λ w. [] ++ w) o
    alone None = refl
    alone (Some w) = refl
text-plain (c ∷ f) r h =
    let parts = and_parts (is_plain c) _ h in
    text-unit (c ∷ (f ++ r)) (c ∷ []) (f ++ r)
    (ap meaning (unit_at-complete (Plain c) (f ++ r) parts.0 refl))
    ∙ (ap (option_map (λ w. (c ∷ []) ++ w)) (text-plain f r parts.1) ∙ joined (text_of r))
  where
    joined : (o : Option Text) → option_map (λ w. (c ∷ []) ++ w) (option_map (λ w. f ++ w) o)
        ≡ option_map (λ w. (c ∷ f) ++ w) o
    joined None = refl
    joined (Some w) = refl

-- The text that was found, with the text of the rest, is the text of the whole.
abbrev pub IsTextSoFar : Text → Text → Text → Type 0
IsTextSoFar xs t whole = option_map (λ w. xs ++ w) (text_of t) ≡ text_of whole

so_far-step : (xs v ys t r whole : Text) → IsTextSoFar xs t whole
    → text_of t ≡ option_map (λ w. v ++ w) (text_of r) → ys ≡ xs ++ v → IsTextSoFar ys r whole
so_far-step xs v ys t r whole so_far e g =
    ap (λ zs. option_map (λ w. zs ++ w) (text_of r)) g
    ∙ (joined (text_of r) ∙ (ap (option_map (λ w. xs ++ w)) (sym e) ∙ so_far))
  where
    joined : (o : Option Text) → option_map (λ w. (xs ++ v) ++ w) o
        ≡ option_map (λ w. xs ++ w) (option_map (λ w. v ++ w) o)
    joined None = refl
    joined (Some w) = ap Some (append_assoc xs v w)

pub so_far-unit : (xs v ys t r whole : Text) → IsTextSoFar xs t whole
    → meaning (unit_at t) ≡ Some (v, r) → ys ≡ xs ++ v → IsTextSoFar ys r whole
so_far-unit xs v ys t r whole so_far e g =
    so_far-step xs v ys t r whole so_far (text-unit t v r e) g

pub so_far-plain : (xs ys t whole : Text) → IsTextSoFar xs t whole → ys ≡ xs ++ front is_plain t
    → IsTextSoFar ys (rest_after is_plain t) whole
so_far-plain xs ys t whole so_far g =
    so_far-step xs (front is_plain t) ys t (rest_after is_plain t) whole so_far
    (ap text_of (front-rest_after is_plain t)
    ∙ text-plain (front is_plain t) (rest_after is_plain t) (list_all-front is_plain t)) g

pub so_far-none : (whole : Text) → IsTextSoFar [] whole whole
so_far-none whole = alone (text_of whole)
  where
    alone : (o : Option Text) → option_map (λ w. [] ++ w) o ≡ o
    alone None = refl
    alone (Some w) = refl

so_far-all : (xs t whole : Text) → IsTextSoFar xs t whole → t ≡ [] → Some xs ≡ text_of whole
so_far-all xs t whole so_far e =
    ap Some (sym (append-nil xs))
    ∙ (ap (option_map (λ w. xs ++ w)) (sym (ap text_of e ∙ ap (option_map content_value) units-nil))
    ∙ so_far)

-- Where all is read, the text is that of the only row of units.
pub text-found : (xs t whole : Text) → IsTextSoFar xs t whole → t ≡ [] →
    (us : List LiteralUnit) × IsOnlyContent whole us × (content_value us ≡ xs)
text-found xs t whole so_far e = by_units (units whole) refl (so_far-all xs t whole so_far e)
  where
    by_units : (o : Option (List LiteralUnit)) → units whole ≡ o
        → Some xs ≡ option_map content_value o →
        (us : List LiteralUnit) × IsOnlyContent whole us × (content_value us ≡ xs)
    by_units None f h = absurd (none-some xs (sym h))
    by_units (Some us) f h = (us, units-only whole us f, sym (same_Some xs (content_value us) h))

pub text-refused : (xs t whole : Text) → IsTextSoFar xs t whole → t ≢ []
    → meaning (unit_at t) ≡ None → IsNoContent whole
text-refused xs t whole so_far n e us h =
    by_units (units whole) refl
    (ap (option_map (λ w. xs ++ w)) (sym (text-none t n e)) ∙ so_far)
  where
    by_units : (o : Option (List LiteralUnit)) → units whole ≡ o
        → None ≡ option_map content_value o → ⊥
    by_units None f k = units-no_content whole us f h
    by_units (Some vs) f k = none-some (content_value vs) k

-- one character more
pub chars-push : (bs : List ℕ) (c : ℕ) → IsUtf8 bs → IsScalar c
    → chars (bs ++ encode_utf8 c) ≡ chars bs ++ c ∷ []
chars-push bs c u s =
    chars-append bs (encode_utf8 c) u
    ∙ ap (λ x. chars bs ++ x)
    (chars_past_char (encode_utf8 c) [] c (IsUtf8-encode c s) (sym (append-nil (encode_utf8 c)))
    ∙ ap (λ x. c ∷ x) chars-nil)

-- a text has no bytes exactly if it has no characters
pub no_bytes : (bs : List ℕ) → IsUtf8 bs → chars bs ≡ [] → (length bs == 0) ≡ false → ⊥
no_bytes [] u e h = cc
no_bytes (b ∷ bs) u e h = let f : b ∷ bs ≡ [] = sym (encodes-chars (b ∷ bs) u) ∙ ap encodes e in cc

pub no_chars : (bs : List ℕ) → (length bs == 0) ≡ true → chars bs ≡ []
no_chars [] h = chars-nil
no_chars (b ∷ bs) h = grind (arith, nat_tests)
