-- Places from a place that is known.
use Rattle.std.proofs.Common.{◌≡◌, ◌+◌, ◌≤◌, ◌-◌, ◌++◌, ℕ, List, [], ◌∷◌, length, take, drop, chars}
use Rattle.std.proofs.Common.{refl, ap, sym, ◌∙◌, arith, IsUtf8, subst, true, false}
use Rattle.std.specs.Prelude.{◌==◌, encode_utf8_all, if◌then◌else◌}
use Rattle.std.specs.Str.{IsCharBoundary}
use Rattle.std.proofs.lemmas.List.{append_assoc, take-append-drop, drop-drop, take-take, drop-take}
use Rattle.std.proofs.lemmas.List.{length-take-le}
use Rattle.std.proofs.lemmas.Str.{IsUtf8-take, chars-append, encodes-chars, length-le-encodes}
use Rattle.rust_tokens.specs.Texts.{Text}
use Rattle.rust_tokens.specs.Runs.{first_passes}
use Rattle.rust_trees.specs.declared.places.Place.{Place}
use Rattle.rust_trees.specs.declared.places.KnownPlace.{KnownPlace}
use Rattle.rust_trees.specs.Places.{after_char, is_lf, place_after, place_between, place_of, start}
use Rattle.rust_trees.specs.Places.{without_mark, IsKnown}
use Rattle.rust_trees.proofs.PlaceSteps.{grows}

-- The place after two texts, one after the other.
place-append : (p : Place) (a b back : Text)
    → place_after p (a ++ b) back ≡ place_after (place_after p a (b ++ back)) b back
place-append p [] b back = refl
place-append p (c ∷ a) b back =
    ap (λ t. place_after (after_char p c (first_passes is_lf t)) (a ++ b) back)
    (append_assoc a b back)
    ∙ place-append (after_char p c (first_passes is_lf (a ++ (b ++ back)))) a b back

mark-append : (c : ℕ) (a b : Text)
    → without_mark ((c ∷ a) ++ b) ≡ without_mark (c ∷ a) ++ b
mark-append c a b = elim (c == 0xFEFF) as (λ t. (if t then a ++ b else c ∷ (a ++ b))
    ≡ (if t then a else c ∷ a) ++ b) [
      | true ↦ refl
      | false ↦ refl
    ]

-- The place between two texts, from the place inside the first one, which is not its start.
between-append : (a b back : Text) → 1 ≤ length a
    → place_between (a ++ b) back ≡ place_after (place_between a (b ++ back)) b back
between-append [] b back h = absurd (omega (arith, h))
between-append (c ∷ a) b back h =
    ap (λ t. place_after start t back) (mark-append c a b)
    ∙ place-append start (without_mark (c ∷ a)) b back

-- A line and a column are at most as many as the characters before them, and one.
bounded : (p : Place) (a back : Text) → ((place_after p a back).line ≤ p.line + length a)
    × ((place_after p a back).column ≤ p.column + length a)
bounded p [] back = (omega arith, omega arith)
bounded p (c ∷ a) back =
    let q = after_char p c (first_passes is_lf (a ++ back)) in
    let g = grows p c (first_passes is_lf (a ++ back)) in
    let h = bounded q a back in
    (omega (arith, g.0, h.0), omega (arith, g.1, h.1))

short-mark : (t : Text) → length (without_mark t) ≤ length t
short-mark [] = omega arith
short-mark (c ∷ t) = elim (c == 0xFEFF) as (λ b. length (if b then t else c ∷ t) ≤ length (c ∷ t)) [
  | true ↦ omega arith
  | false ↦ omega arith
]

short-chars : (bs : List ℕ) → IsUtf8 bs → length (chars bs) ≤ length bs
short-chars bs u = subst (λ n. length (chars bs) ≤ n) (ap length (encodes-chars bs u))
    (length-le-encodes (chars bs))

-- A text that is not empty has a character.
some-char : (bs : List ℕ) → IsUtf8 bs → 1 ≤ length bs → 1 ≤ length (chars bs)
some-char bs u h =
    some (chars bs) (subst (λ n. 1 ≤ n) (sym (ap length (encodes-chars bs u))) h)
  where
    some : (t : Text) → 1 ≤ length (encode_utf8_all t) → 1 ≤ length t
    some [] h = absurd (omega (arith, h))
    some (c ∷ t) h = omega arith

-- The two parts of a text in front of an offset, and the text after the first one.
parts : (bs : List ℕ) (k n : ℕ) → k ≤ n
    → (take n bs ≡ take k bs ++ take (n - k) (drop k bs))
    × (drop k bs ≡ take (n - k) (drop k bs) ++ drop n bs)
parts bs k n h =
    let e : k + (n - k) ≡ n = omega (arith, h) in
    let front =
    sym (take-append-drop k (take n bs))
    ∙ (ap (λ t. t ++ drop k (take n bs)) (take-take k n bs h)
    ∙ ap (λ t. take k bs ++ t) (ap (λ m. drop k (take m bs)) (sym e) ∙ drop-take k (n - k) bs)) in
    let back =
    sym (take-append-drop (n - k) (drop k bs))
    ∙ ap (λ t. take (n - k) (drop k bs) ++ t)
    (drop-drop (n - k) k bs ∙ ap (λ m. drop m bs) e) in
    (front, back)

-- The place of an offset, from a place that is known before it: the texts between the two and after
-- it.
pub from-known : (bs : List ℕ) (k : KnownPlace) (n : ℕ) (middle back : List ℕ) → IsUtf8 bs
    → IsKnown bs k → k.offset ≤ n → middle ≡ take (n - k.offset) (drop k.offset bs)
    → back ≡ drop n bs → IsUtf8 middle
    → place_after k.place (chars middle) (chars back) ≡ place_of bs n
from-known bs k n middle back u known h m e v =
    let p = parts bs k.offset n h in
    let w = IsUtf8-take bs k.offset u known.boundary in
    let some = some-char (take k.offset bs) w
    (rw (length-take-le k.offset bs known.boundary.0) known.is_after) in
    let front = p.0 ∙ ap (λ t. take k.offset bs ++ t) (sym m) in
    let rest = p.1 ∙ (ap (λ t. t ++ drop n bs) (sym m) ∙ ap (λ t. middle ++ t) (sym e)) in
    sym (ap (λ t. place_between (chars t) (chars (drop n bs))) front
    ∙ (ap (λ t. place_between (chars (take k.offset bs ++ middle)) (chars t)) (sym e)
    ∙ (ap (λ t. place_between t (chars back)) (chars-append (take k.offset bs) middle w)
    ∙ (between-append (chars (take k.offset bs)) (chars middle) (chars back) some
    ∙ (ap (λ t. place_after (place_between (chars (take k.offset bs)) t) (chars middle)
    (chars back)) (sym (ap chars rest ∙ chars-append middle back v))
    ∙ ap (λ q. place_after q (chars middle) (chars back)) (sym known.place))))))

-- The place of an offset is known then.
pub to-known : (bs : List ℕ) (k : KnownPlace) → IsUtf8 bs → IsCharBoundary bs k.offset
    → 1 ≤ k.offset → k.offset ≤ length bs → k.place ≡ place_of bs k.offset → IsKnown bs k
to-known bs k u b h within e =
    let w = IsUtf8-take bs k.offset u b in
    let s = short-mark (chars (take k.offset bs)) in
    let c = short-chars (take k.offset bs) w in
    let l = length-take-le k.offset bs within in
    let n = bounded start (without_mark (chars (take k.offset bs))) (chars (drop k.offset bs)) in
    record {
      is_after = h;
      boundary = b;
      place = e;
      line = rw e (omega (arith, s, c, l, n.0));
      column = rw e (omega (arith, s, c, l, n.1));
    }
