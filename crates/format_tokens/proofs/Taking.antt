-- A token is taken from the front of a text: its bytes, and what is left.
use Rattle.std.proofs.Common.{◌≡◌, ◌≢◌, ℕ, ◌++◌, true, List, [], ◌∷◌, length}
use Rattle.std.proofs.Common.{map, chars, drop, take, refl, sym, ap, ◌∙◌, arith, append_assoc}
use Rattle.std.proofs.Common.{append-nil}
use Rattle.std.proofs.Common.{IsUtf8, IsCharBoundary}
use Rattle.std.specs.Char.{len_utf8}
use Rattle.std.proofs.lemmas.Bool.{and_from, and_parts}
use Rattle.std.proofs.lemmas.List.{map-append}
use Rattle.std.proofs.lemmas.List.Sums.{sum_by-cons}
use Rattle.std.proofs.lemmas.Str.{IsCharBoundary-at_seam, chars-encodes, encodes-append}
use Rattle.std.proofs.lemmas.Str.{encodes-chars, len_utf8_bounds, scalars-chars}
use Rattle.std.proofs.Math.Seq.{drop-append_seam, take-append_seam}
use Rattle.std.proofs.Math.Utf8.{encodes, scalar, scalars}
use Rattle.rustc_parse_format.specs.Characters.{Text, byte_length}
use Rattle.rustc_parse_format.proofs.Sources.PlainPlaces.{width_encodes}
use Rattle.format_tokens.specs.declared.kinds.Kind.{Kind}
use Rattle.format_tokens.specs.declared.kinds.Label.{Label as Sized}
use Rattle.format_tokens.specs.Labels.{Adds, sized_token}
use Rattle.format_tokens.specs.Tokens.{Label, token}

-- Tokens that are taken after others.
pub then : {a b : List Label} {s r : Text} {x y z : List Sized} {t u : List ℕ} → Adds a s x y t
    → Adds b r y z u → Adds (a ++ b) r x z u
then {a = a} {b = b} {x = x} h k = record {
  adds = k.adds ∙ (ap (λ l. l ++ map sized_token b) h.adds
      ∙ (append_assoc x (map sized_token a) (map sized_token b)
      ∙ ap (λ l. x ++ l) (sym (map-append sized_token a b))));
  leaves = k.leaves;
}

-- Nothing is taken.
pub nothing : {x : List Sized} {t : List ℕ} {r : Text} → chars t ≡ r → Adds [] r x x t
nothing {x = x} e = record { adds = sym (append-nil x); leaves = e }

pub moved : {a : List Label} {s r : Text} {x y : List Sized} {t : List ℕ} → s ≡ r
    → Adds a s x y t → Adds a r x y t
moved e h = record { adds = h.adds; leaves = h.leaves ∙ e }

-- A token is taken of a kind by another name.
pub as_kind : {k l : Kind} (u : Text) {r : Text} {x y : List Sized} {t : List ℕ} → k ≡ l
    → Adds (token k u) r x y t → Adds (token l u) r x y t
as_kind u e h = rw e at h

-- A text of no bytes is empty.
pub none_from_width : (u : Text) → 0 ≡ byte_length u → u ≡ []
none_from_width [] e = refl
none_from_width (c ∷ u) e =
    absurd (omega (arith, sum_by-cons len_utf8 c u, (len_utf8_bounds c).0))

pub width-nil : 0 ≡ byte_length []
width-nil = refl

-- So no token is taken of no bytes.
pub take-none : (k : Kind) (u r : Text) (x : List Sized) (t : List ℕ) (n : ℕ) → n ≡ 0
    → chars t ≡ u ++ r → n ≡ byte_length u → Adds (token k u) r x x t
take-none k u r x t n z e w =
    let none : u ≡ [] = none_from_width u (sym z ∙ w) in
    rw none (nothing (e ∙ ap (λ v. v ++ r) none))

scalars-right : (xs ys : Text) → scalars (xs ++ ys) ≡ true → scalars ys ≡ true
scalars-right [] ys h = h
scalars-right (x ∷ xs) ys h = scalars-right xs ys (and_parts (scalar x) (scalars (xs ++ ys)) h).1

scalars-left : (xs ys : Text) → scalars (xs ++ ys) ≡ true → scalars xs ≡ true
scalars-left [] ys h = refl
scalars-left (x ∷ xs) ys h =
    let a = and_parts (scalar x) (scalars (xs ++ ys)) h in
    and_from (scalar x) (scalars xs) a.0 (scalars-left xs ys a.1)

-- The bytes of a text are those of its front and those of what is left.
pub record Halves (text : List ℕ) (u r : Text) : Type 0 where
  pub bytes : text ≡ encodes u ++ encodes r
  pub front : chars (encodes u) ≡ u
  pub rest : chars (encodes r) ≡ r
  pub valid : IsUtf8 (encodes r)

pub halves : (text : List ℕ) (u r : Text) → IsUtf8 text → chars text ≡ u ++ r → Halves text u r
halves text u r v e =
    let good : scalars r ≡ true = scalars-right u r (ap scalars (sym e) ∙ scalars-chars text v) in
    record {
      bytes = sym (encodes-chars text v) ∙ (ap encodes e ∙ encodes-append u r);
      front = chars-encodes u (scalars-left u r (ap scalars (sym e) ∙ scalars-chars text v));
      rest = chars-encodes r good;
      valid = (r, (good, refl));
    }

-- The end of a front is between two characters.
pub front_boundary : (text : List ℕ) (u r : Text) (n : ℕ) → IsUtf8 text → chars text ≡ u ++ r
    → n ≡ byte_length u → IsCharBoundary text n
front_boundary text u r n v e w =
    let h = halves text u r v e in
    rw (w ∙ sym (width_encodes u))
    (IsCharBoundary-at_seam text (encodes u) (encodes r) h.bytes h.valid)

-- The characters of a front.
pub front_chars : (text : List ℕ) (u r : Text) (n : ℕ) (front : List ℕ) → IsUtf8 text
    → chars text ≡ u ++ r → n ≡ byte_length u → front ≡ take n text → chars front ≡ u
front_chars text u r n front v e w f =
    let h = halves text u r v e in
    let at : n ≡ length (encodes u) = w ∙ sym (width_encodes u) in
    ap chars (f ∙ (ap (λ m. take m text) at
    ∙ (ap (take (length (encodes u))) h.bytes ∙ take-append_seam (encodes u) (encodes r))))
    ∙ h.front

abbrev label_of : Kind → ℕ → Sized
label_of k m = record { kind = k; width = m }

-- A token of some bytes.
pub take-some : (k : Kind) (u r : Text) (x y : List Sized) (t front left : List ℕ) (n m : ℕ)
    → n ≢ 0 → IsUtf8 t → chars t ≡ u ++ r → n ≡ byte_length u → front ≡ take n t → left ≡ drop n t
    → m ≡ length (chars front) → y ≡ x ++ label_of k m ∷ [] → Adds (token k u) r x y left
take-some k [] r x y t front left n m z v e w f l i added = absurd (z w)
take-some k (c ∷ u) r x y t front left n m z v e w f l i added =
    let h = halves t (c ∷ u) r v e in
    let at : n ≡ length (encodes (c ∷ u)) = w ∙ sym (width_encodes (c ∷ u)) in
    let cut : drop n t ≡ encodes r =
    ap (λ m. drop m t) at
    ∙ (ap (drop (length (encodes (c ∷ u)))) h.bytes
    ∙ drop-append_seam (encodes (c ∷ u)) (encodes r)) in
    let kept : take n t ≡ encodes (c ∷ u) =
    ap (λ m. take m t) at
    ∙ (ap (take (length (encodes (c ∷ u)))) h.bytes
    ∙ take-append_seam (encodes (c ∷ u)) (encodes r)) in
    record {
      adds = added ∙ ap (λ m. x ++ label_of k m ∷ []) (i ∙ (ap (λ b. length (chars b)) (f ∙ kept)
          ∙ ap length h.front));
      leaves = ap chars (l ∙ cut) ∙ h.rest;
    }

-- What `take` says of a token of n bytes at the front of t.
abbrev pub Takes : Kind → ℕ → List ℕ → List Sized → List Sized → List ℕ → Type 0
Takes k n t x y left = (u r : Text) → chars t ≡ u ++ r → n ≡ byte_length u
    → Adds (token k u) r x y left
