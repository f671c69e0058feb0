-- The characters of a content with their places, by the unit at the start of the content.
use Rattle.std.proofs.Common.{◌≡◌, ◌≢◌, ℕ, ◌+◌, ◌++◌, List, [], ◌∷◌, refl, sym, ap, ◌∙◌, arith}
use Rattle.std.proofs.Common.{Option, Some, None, option_map, append-nil, Result, Ok, Err}
use Rattle.std.proofs.Common.{IfOk, IfSome, IfNone}
use Rattle.rustc_parse_format.specs.declared.literal.ContentCharacter.{ContentCharacter}
use Rattle.std.proofs.lemmas.Option.{same_Some, none-some}
use Rattle.rustc_parse_format.specs.Characters.{Text, byte_length}
use Rattle.rustc_parse_format.specs.World.{Place}
use Rattle.rustc_parse_format.specs.LiteralUnits.{LiteralUnit, spelling, value, meaning, unit_at}
use Rattle.rustc_parse_format.specs.LiteralUnits.{at_most_one}
use Rattle.rustc_parse_format.specs.Literal.{IsContent, IsNoContent, IsOnlyContent, IsReadAs}
use Rattle.rustc_parse_format.specs.Literal.{more_units}
use Rattle.rustc_parse_format.specs.Literal.{units, placed_characters}
use Rattle.rustc_parse_format.specs.LiteralReading.{seen_characters, content_characters}
use Rattle.rustc_parse_format.specs.Views.{pair}
use Rattle.rustc_parse_format.proofs.Literals.Widths.{width-append}
use Rattle.rustc_parse_format.proofs.Literals.UnitLaws.{unit_at-front}
use Rattle.rustc_parse_format.proofs.Literals.Contents.{units-nil, units-some, units-none}
use Rattle.rustc_parse_format.proofs.Literals.Contents.{units-only, units-no_content}
use Rattle.rustc_parse_format.proofs.Literals.Meanings.{Means, meaning-none, meaning-some}

-- The characters of a content with their places.
placed-none : (at : ℕ) (t : Text) → t ≢ [] → meaning (unit_at t) ≡ None
    → content_characters at t ≡ None
unfolding content_characters
placed-none at [] n e = absurd (n refl)
placed-none at (c ∷ t) n e = ap (option_map (placed_characters at))
    (units-none c t (meaning-none _ e))

pub past : (at end : ℕ) (t v r : Text) → at + byte_length t ≡ end + byte_length r
    → (m : Means (unit_at t) v r) → at + byte_length (spelling m.unit) ≡ end
past at end t v r e m = omega (
  arith,
  width-append (spelling m.unit) r,
  ap byte_length (unit_at-front t m.unit r m.is_it).split,
)

placed-nothing : (at end : ℕ) (t r : Text) → meaning (unit_at t) ≡ Some ([], r)
    → at + byte_length t ≡ end + byte_length r →
    content_characters at t ≡ content_characters end r
unfolding content_characters
placed-nothing at end t r e l =
    let m = meaning-some (unit_at t) [] r e in
    ap (option_map (placed_characters at)) (units-some t m.unit r m.is_it)
    ∙ by_rest m.unit m.has_value (past at end t [] r l m) (units r)
  where
    by_rest : (u : LiteralUnit) → value u ≡ [] → at + byte_length (spelling u) ≡ end
        → (o : Option (List LiteralUnit)) →
        option_map (placed_characters at) (more_units u o) ≡ option_map (placed_characters end) o
    by_rest u v k None = refl
    by_rest u v k (Some us) = rw (v, k) refl

placed-character : (at end : ℕ) (t r : Text) (c : ℕ) → meaning (unit_at t) ≡ Some (c ∷ [], r)
    → at + byte_length t ≡ end + byte_length r →
    content_characters at t ≡ option_map (λ ps. ((at, end), c) ∷ ps) (content_characters end r)
unfolding content_characters
placed-character at end t r c e l =
    let m = meaning-some (unit_at t) (c ∷ []) r e in
    ap (option_map (placed_characters at)) (units-some t m.unit r m.is_it)
    ∙ by_rest m.unit m.has_value (past at end t (c ∷ []) r l m) (units r)
  where
    by_rest : (u : LiteralUnit) → value u ≡ c ∷ [] → at + byte_length (spelling u) ≡ end
        → (o : Option (List LiteralUnit)) →
        option_map (placed_characters at) (more_units u o)
        ≡ option_map (λ ps. ((at, end), c) ∷ ps) (option_map (placed_characters end) o)
    by_rest u v k None = refl
    by_rest u v k (Some us) = rw (v, k) refl

placed-nil : (at : ℕ) → content_characters at [] ≡ Some []
unfolding content_characters
placed-nil at = ap (option_map (placed_characters at)) units-nil

-- a character with its byte range
abbrev pub character_at : ℕ → ℕ → ℕ → ContentCharacter
character_at at end c = record { span = record { start = at; end = end }; character = c }

-- one more character that was found
found-push : (xs : List ContentCharacter) (x : ContentCharacter) (o : Option (List (Place × ℕ))) →
    option_map (λ ps. seen_characters (xs ++ x ∷ []) ++ ps) o
    ≡ option_map (λ ps. seen_characters xs ++ ps)
    (option_map (λ ps. (pair x.span, x.character) ∷ ps) o)
found-push xs x None = refl
found-push xs x (Some ps) = ap Some (by_list xs)
  where
    by_list : (xs : List ContentCharacter) → seen_characters (xs ++ x ∷ []) ++ ps
        ≡ seen_characters xs ++ ((pair x.span, x.character) ∷ ps)
    by_list [] = refl
    by_list (y ∷ ys) = ap (λ s. (pair y.span, y.character) ∷ s) (by_list ys)

-- The characters that a reader has found and then those that it will find are those of the whole.
abbrev pub IsSoFar : List ContentCharacter → ℕ → Text → Text → Type 0
IsSoFar xs at t whole = option_map (λ ps. seen_characters xs ++ ps) (content_characters at t)
    ≡ content_characters 0 whole

pub found-character : (at end c : ℕ) (t r whole : Text) (v : Option ℕ)
    (xs ys : List ContentCharacter) → IsSoFar xs at t whole →
    meaning (unit_at t) ≡ Some (at_most_one v, r) → v ≡ Some c →
    at + byte_length t ≡ end + byte_length r → ys ≡ xs ++ character_at at end c ∷ []
    → IsSoFar ys end r whole
found-character at end c t r whole v xs ys so_far e f l g =
    ap (λ zs. option_map (λ ps. seen_characters zs ++ ps) (content_characters end r)) g
    ∙ (found-push xs (character_at at end c) (content_characters end r)
    ∙ (ap (option_map (λ ps. seen_characters xs ++ ps)) (sym (placed-character at end t r c (e
    ∙ ap (λ x. Some (at_most_one x, r)) f) l)) ∙ so_far))

pub found-nothing : (at end : ℕ) (t r whole : Text) (v : Option ℕ) (xs : List ContentCharacter)
    → IsSoFar xs at t whole →
    meaning (unit_at t) ≡ Some (at_most_one v, r) → v ≡ None →
    at + byte_length t ≡ end + byte_length r → IsSoFar xs end r whole
found-nothing at end t r whole v xs so_far e f l =
    ap (option_map (λ ps. seen_characters xs ++ ps)) (sym (placed-nothing at end t r (e
    ∙ ap (λ x. Some (at_most_one x, r)) f) l)) ∙ so_far

pub found-all : (at : ℕ) (t whole : Text) (xs : List ContentCharacter) → IsSoFar xs at t whole
    → t ≡ [] →
    Some (seen_characters xs) ≡ content_characters 0 whole
found-all at t whole xs so_far e =
    ap Some (sym (append-nil (seen_characters xs)))
    ∙ (ap (option_map (λ ps. seen_characters xs ++ ps)) (sym (ap (content_characters at) e
    ∙ placed-nil at))
    ∙ so_far)

pub found-none : (at : ℕ) (t whole : Text) (xs : List ContentCharacter) → IsSoFar xs at t whole
    → t ≢ [] →
    meaning (unit_at t) ≡ None → None ≡ content_characters 0 whole
found-none at t whole xs so_far n e =
    ap (option_map (λ ps. seen_characters xs ++ ps)) (sym (placed-none at t n e)) ∙ so_far

-- The row of units that computing gives is the only one.
pub placed-content : (t : Text) (ps : List (Place × ℕ)) → Some ps ≡ content_characters 0 t →
    (us : List LiteralUnit) × IsOnlyContent t us × (ps ≡ placed_characters 0 us)
unfolding content_characters
placed-content t ps e = by_units (units t) refl e
  where
    by_units : (o : Option (List LiteralUnit)) → units t ≡ o → Some ps
        ≡ option_map (placed_characters 0) o →
        (us : List LiteralUnit) × IsOnlyContent t us × (ps ≡ placed_characters 0 us)
    by_units None f e = absurd (none-some ps (sym e))
    by_units (Some us) f e = (us, units-only t us f, same_Some ps (placed_characters 0 us) e)

pub placed-no_content : (t : Text) → None ≡ content_characters 0 t → (us : List LiteralUnit)
    → IsContent t us
    → ⊥
unfolding content_characters
placed-no_content t e us h = by_units (units t) refl e
  where
    by_units : (o : Option (List LiteralUnit)) → units t ≡ o → None
        ≡ option_map (placed_characters 0) o → ⊥
    by_units None f e = units-no_content t us f h
    by_units (Some vs) f e = none-some (placed_characters 0 vs) e

-- the same of the answer of a reader
pub read-found : {X E : Type 0} (r : Result (Option X) E) (f : X → List (Place × ℕ)) (t : Text) →
    IfOk r (λ o. option_map f o ≡ content_characters 0 t)
    → IfOk r (λ o. IfSome o (λ x. IsReadAs t (f x)))
read-found (Ok None) f t e = tt
read-found (Ok (Some x)) f t e = placed-content t (f x) e
read-found (Err x) f t e = tt

pub read-none : {X E : Type 0} (r : Result (Option X) E) (f : X → List (Place × ℕ)) (t : Text) →
    IfOk r (λ o. option_map f o ≡ content_characters 0 t) → IfOk r (λ o. IfNone o (IsNoContent t))
read-none (Ok None) f t e = placed-no_content t e
read-none (Ok (Some x)) f t e = tt
read-none (Err x) f t e = tt
