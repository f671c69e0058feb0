-- In each world the places of a text are in order, and there are as many as characters. So a run of
-- text without newlines can move the start of the line only at its first character.
use Prim.Native.Char.{code}
use Rattle.std.proofs.Common.{◌≡◌, ℕ, suc, zero, ◌+◌, ◌-◌, ◌<◌, ◌≤◌, ◌++◌, ◌==◌, Bool, true, false}
use Rattle.std.proofs.Common.{not, List, [], ◌∷◌, length, map, get_or}
use Rattle.std.proofs.Common.{Option, Some, None, refl, ap, arith, inl, inr, ◌⊎◌}
use Rattle.std.specs.List.{list_all}
use Rattle.std.specs.Char.{len_utf8}
use Rattle.std.proofs.lemmas.Str.{len_utf8_bounds}
use Rattle.std.proofs.lemmas.Bool.{and_parts, and_from}
use Rattle.rustc_parse_format.specs.Characters.{Text, byte_length}
use Rattle.rustc_parse_format.specs.LiteralUnits.{LiteralUnit, Plain, SimpleEscape, ByteEscape}
use Rattle.rustc_parse_format.specs.LiteralUnits.{UnicodeEscape, Continuation}
use Rattle.rustc_parse_format.specs.LiteralUnits.{spelling, value, escaped_character, at_most_one}
use Rattle.rustc_parse_format.specs.Literal.{placed_characters, content_value, newline}
use Rattle.rustc_parse_format.specs.World.{World, Place, plain_places, content_places, last_stop}
use Rattle.rustc_parse_format.specs.World.{newline_places, ordinary_world}
use Rattle.rustc_parse_format.specs.World.{place_at}
use Rattle.rustc_parse_format.specs.Marks.{run_texts}
use Rattle.rustc_parse_format.specs.Lines.{texts_in}
use Rattle.rustc_parse_format.proofs.Literals.Widths.{width-cons}
use Rattle.rustc_parse_format.proofs.Literals.Contents.{some_length}
use Rattle.rustc_parse_format.proofs.Lines.LineLaws.{has_no_newline, has_no_indent, indent-no}

-- A unit has at least a byte,
some_bytes : (t : Text) → 0 < length t → 0 < byte_length t
some_bytes [] h = absurd (omega arith)
some_bytes (c ∷ t) h = let width = len_utf8_bounds c in omega (arith, width-cons c t)

pub unit_bytes : (u : LiteralUnit) → 0 < byte_length (spelling u)
unit_bytes u = some_bytes (spelling u) (some_length u)

-- and stands for one character or for none.
abbrev pub IsOneOrNone : Text → Type 0
IsOneOrNone t = (t ≡ []) ⊎ ((c : ℕ) × (t ≡ c ∷ []))

option-one : (o : Option ℕ) → IsOneOrNone (at_most_one o)
option-one None = inl refl
option-one (Some c) = inr (c, refl)

pub one_or_none : (u : LiteralUnit) → IsOneOrNone (value u)
one_or_none (Plain c) = inr (c, refl)
one_or_none (SimpleEscape l) = option-one (escaped_character l)
one_or_none (ByteEscape h l) = inr (_, refl)
one_or_none (UnicodeEscape w) = inr (_, refl)
one_or_none (Continuation w) = inl refl

-- From a byte on, each place starts no earlier than where the one before it ended, and ends after
-- it starts.
abbrev pub InOrder : ℕ → List Place → Type 0
InOrder b [] = Unit {0}
InOrder b (p ∷ ps) = (b ≤ p.0) × (p.0 < p.1) × InOrder p.1 ps

pub in_order-earlier : (a b : ℕ) (ps : List Place) → a ≤ b → InOrder b ps → InOrder a ps
in_order-earlier a b [] h o = tt
in_order-earlier a b (p ∷ ps) h (starts, ends, rest) = (omega arith, ends, rest)

-- The places of a text that are plain,
pub plain-in_order : (q : ℕ) (t : Text) → InOrder q (plain_places q t)
plain-in_order q [] = tt
plain-in_order q (c ∷ t) = let width = len_utf8_bounds c in
    (omega arith, omega arith, plain-in_order (q + len_utf8 c) t)

-- those of a content,
unit-in_order : (q e : ℕ) (v : Text) (ps : List (Place × ℕ)) → q < e → IsOneOrNone v
    → InOrder e (map (λ (x : Place × ℕ). x.0) ps) →
    InOrder q (map (λ (x : Place × ℕ). x.0) (map (λ c. ((q, e), c)) v ++ ps))
unit-in_order q e v ps h (inl z) o =
    rw z (in_order-earlier q e (map (λ (x : Place × ℕ). x.0) ps) (omega arith) o)
unit-in_order q e v ps h (inr (c, z)) o = rw z (omega arith, h, o)

pub content-in_order : (q : ℕ) (us : List LiteralUnit) → InOrder q (content_places q us)
content-in_order q [] = tt
content-in_order q (u ∷ us) =
    let bytes = unit_bytes u in
    unit-in_order q (q + byte_length (spelling u)) (value u)
    (placed_characters (q + byte_length (spelling u)) us) (omega arith) (one_or_none u)
    (content-in_order (q + byte_length (spelling u)) us)

-- and those with an appended newline stand in order.
newline-in_order : (q : ℕ) (appended : Bool) → InOrder q (newline_places q appended)
newline-in_order q true = (omega arith, omega arith, tt)
newline-in_order q false = tt

pub appended-in_order : (q : ℕ) (ps : List Place) (appended : Bool) → InOrder q ps
    → InOrder q (ps ++ newline_places (last_stop q ps) appended)
appended-in_order q [] appended o = newline-in_order q appended
appended-in_order q (p ∷ ps) appended (starts, ends, rest) =
    (starts, ends, appended-in_order p.1 ps appended rest)

pub ordinary-in_order : (us : List LiteralUnit) (appended : Bool)
    → InOrder 1 (ordinary_world us appended).places
ordinary-in_order us appended = appended-in_order 1 (content_places 1 us) appended
    (content-in_order 1 us)

-- Two places that stand in order, by index,
get-from : (b : ℕ) (ps : List Place) (d : Place) (j : ℕ) → InOrder b ps → j < length ps
    → b ≤ (get_or ps j d).0
get-from b [] d j o h = absurd (omega arith)
get-from b (p ∷ ps) d zero (starts, ends, rest) h = starts
get-from b (p ∷ ps) d (suc j) (starts, ends, rest) h =
    let later : p.1 ≤ (get_or ps j d).0 = get-from p.1 ps d j rest (omega arith) in omega arith

get-before : (b : ℕ) (ps : List Place) (d : Place) (i j : ℕ) → InOrder b ps → i < j → j < length ps
    → (get_or ps i d).1 ≤ (get_or ps j d).0
get-before b [] d i j o h k = absurd (omega arith)
get-before b (p ∷ ps) d i zero o h k = absurd (omega arith)
get-before b (p ∷ ps) d zero (suc j) (starts, ends, rest) h k =
    get-from p.1 ps d j rest (omega arith)
get-before b (p ∷ ps) d (suc i) (suc j) (starts, ends, rest) h k =
    get-before p.1 ps d i j rest (omega arith) (omega arith)

get-bytes : (b : ℕ) (ps : List Place) (d : Place) (i : ℕ) → InOrder b ps → i < length ps
    → (get_or ps i d).0 < (get_or ps i d).1
get-bytes b [] d i o h = absurd (omega arith)
get-bytes b (p ∷ ps) d zero (starts, ends, rest) h = ends
get-bytes b (p ∷ ps) d (suc i) (starts, ends, rest) h = get-bytes p.1 ps d i rest (omega arith)

pub place-before : (b : ℕ) (w : World) (k j : ℕ) → InOrder b w.places → 0 < j → j < k
    → k ≤ length w.places → (place_at w k).1 ≤ (place_at w j).0
unfolding place_at
place-before b w k j o h l n =
    get-before b w.places (w.end, w.end) (length w.places - k) (length w.places - j) o (omega arith)
    (omega arith)

pub place-bytes : (b : ℕ) (w : World) (k : ℕ) → InOrder b w.places → 0 < k → k ≤ length w.places
    → (place_at w k).0 < (place_at w k).1
unfolding place_at
place-bytes b w k o h n = get-bytes b w.places (w.end, w.end) (length w.places - k) o (omega arith)

-- no newline in a text
abbrev pub no_newline : Text → Bool
no_newline t = list_all (λ c. not (c == code "\n")) t

pub noted-no_newline : (w : World) (u r : Text) → no_newline u ≡ true
    → has_no_newline (texts_in w (run_texts u r)) ≡ true
noted-no_newline w [] r a = refl
noted-no_newline w (c ∷ u) r a =
    let h : (not (c == code "\n") ≡ true) × (no_newline u ≡ true) =
    and_parts (not (c == code "\n")) _ a in
    and_from (not (c == code "\n")) _ h.0 (noted-no_newline w u r h.1)

-- Where each character of a run starts after the start of the line, none is white space there.
pub rest_after-no_indent : (w : World) (start : ℕ) (u r : Text) →
    ((k : ℕ) → 0 < k → k ≤ length (u ++ r) → start < (place_at w k).0)
    → has_no_indent start (texts_in w (run_texts u r)) ≡ true
rest_after-no_indent w start [] r h = refl
rest_after-no_indent w start (c ∷ u) r h =
    let first : start < (place_at w (length (c ∷ (u ++ r)))).0 =
    h (length (c ∷ (u ++ r))) (omega arith) (omega arith) in
    and_from _ _ (ap not (indent-no w start c (length (c ∷ (u ++ r))) (λ white. omega arith)))
    (rest_after-no_indent w start u r (λ k p q. h k p (omega arith)))

-- There are as many places as characters.
pub length-content_places : (q : ℕ) (us : List LiteralUnit)
    → length (content_places q us) ≡ length (content_value us)
length-content_places q [] = refl
length-content_places q (u ∷ us) =
    elim (one_or_none u) [
      | inl z ↦ rw z (length-content_places (q + byte_length (spelling u)) us)
      | inr (c, z) ↦ rw z (ap suc (length-content_places (q + byte_length (spelling u)) us))
    ]

pub length-newline : (e : ℕ) (appended : Bool) → length (newline_places e appended)
    ≡ length (newline appended)
length-newline e true = refl
length-newline e false = refl
