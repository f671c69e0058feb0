-- The places of the characters of a content are in order. The text that the units before a place
-- stand for, and that of those in a byte range.
use Rattle.std.proofs.Common.{◌≡◌, ℕ, suc, zero, ◌+◌, ◌≤◌, ◌<◌, ◌++◌, ◌&&◌, ◌⊎◌, inl, inr, Bool}
use Rattle.std.proofs.Common.{true, false, if◌then◌else◌, List, [], ◌∷◌, take, get_or}
use Rattle.std.proofs.Common.{refl, sym, ap, ◌∙◌, arith}
use Rattle.std.specs.Prelude.{nat_le, ⊤}
use Rattle.std.proofs.lemmas.Bool.{le-leb, lt-leb}
use Rattle.rustc_parse_format.specs.Characters.{Text, byte_length}
use Rattle.rustc_parse_format.specs.LiteralUnits.{LiteralUnit, spelling, value}
use Rattle.rustc_parse_format.specs.Literal.{content_value}
use Rattle.rustc_parse_format.specs.World.{Place, content_places, last_stop}
use Rattle.rustc_parse_format.specs.ReadBack.{text_before, text_inside}
use Rattle.rustc_parse_format.proofs.Spans.PlaceOrder.{InOrder, content-in_order, in_order-earlier}
use Rattle.rustc_parse_format.proofs.Spans.PlaceOrder.{one_or_none, unit_bytes}

-- where a unit at a byte ends
abbrev pub past : ℕ → LiteralUnit → ℕ
past at u = at + byte_length (spelling u)

pub past-lt : (at : ℕ) (u : LiteralUnit) → at < past at u
past-lt at u = let bytes = unit_bytes u in omega arith

-- Places in order, from a byte to another.
abbrev pub IsOrdered : ℕ → List Place → ℕ → Type 0
IsOrdered lo [] e = lo ≤ e
IsOrdered lo (p ∷ ps) e = (lo ≤ p.0) × (p.0 ≤ p.1) × IsOrdered p.1 ps e

-- where the character after a of them starts, and where it ends; after all of them that is e
abbrev pub start : List Place → ℕ → ℕ → ℕ
start ps e a = (get_or ps a (e, e)).0

abbrev pub stop : List Place → ℕ → ℕ → ℕ
stop ps e a = (get_or ps a (e, e)).1

pub ordered-end : (lo : ℕ) (ps : List Place) (e : ℕ) → IsOrdered lo ps e → lo ≤ e
ordered-end lo [] e o = o
ordered-end lo (p ∷ ps) e o = omega (arith, o.0, o.1, ordered-end p.1 ps e o.2)

pub start-after : (lo : ℕ) (ps : List Place) (e a : ℕ) → IsOrdered lo ps e → lo ≤ start ps e a
start-after lo [] e a o = o
start-after lo (p ∷ ps) e zero o = o.0
start-after lo (p ∷ ps) e (suc a) o = let h : p.1 ≤ start ps e a = start-after p.1 ps e a o.2 in
    omega (arith, o.0, o.1)

pub start-stop : (lo : ℕ) (ps : List Place) (e a : ℕ) → IsOrdered lo ps e
    → start ps e a ≤ stop ps e a
start-stop lo [] e a o = omega arith
start-stop lo (p ∷ ps) e zero o = o.1
start-stop lo (p ∷ ps) e (suc a) o = start-stop p.1 ps e a o.2

pub stop-end : (lo : ℕ) (ps : List Place) (e a : ℕ) → IsOrdered lo ps e → stop ps e a ≤ e
stop-end lo [] e a o = omega arith
stop-end lo (p ∷ ps) e zero o = ordered-end p.1 ps e o.2
stop-end lo (p ∷ ps) e (suc a) o = stop-end p.1 ps e a o.2

-- a character starts before one after it does
pub start-start : (lo : ℕ) (ps : List Place) (e a b : ℕ) → a ≤ b → IsOrdered lo ps e
    → start ps e a ≤ start ps e b
start-start lo [] e a b h o = omega arith
start-start lo (p ∷ ps) e zero zero h o = omega arith
start-start lo (p ∷ ps) e zero (suc b) h o = let k : p.1
    ≤ start ps e b = start-after p.1 ps e b o.2 in omega (arith, o.1)
start-start lo (p ∷ ps) e (suc a) zero h o = absurd (omega arith)
start-start lo (p ∷ ps) e (suc a) (suc b) h o = start-start p.1 ps e a b (omega arith) o.2

-- and ends before it does
pub stop-start : (lo : ℕ) (ps : List Place) (e a b : ℕ) → a < b → IsOrdered lo ps e
    → stop ps e a ≤ start ps e b
stop-start lo [] e a b h o = omega arith
stop-start lo (p ∷ ps) e a zero h o = absurd (omega arith)
stop-start lo (p ∷ ps) e zero (suc b) h o = start-after p.1 ps e b o.2
stop-start lo (p ∷ ps) e (suc a) (suc b) h o = stop-start p.1 ps e a b (omega arith) o.2

-- The places of a content are in order, up to where the last one ends.
in_order-ordered : (lo : ℕ) (ps : List Place) → InOrder lo ps → IsOrdered lo ps (last_stop lo ps)
in_order-ordered lo [] o = omega arith
in_order-ordered lo (p ∷ ps) (starts, bytes, rest) =
    (starts, omega arith, in_order-ordered p.1 ps rest)

pub content-ordered : (lo at : ℕ) (us : List LiteralUnit) → lo ≤ at
    → IsOrdered lo (content_places at us) (last_stop lo (content_places at us))
content-ordered lo at us h =
    in_order-ordered lo (content_places at us)
    (in_order-earlier lo at (content_places at us) h (content-in_order at us))

-- nothing is in front of a text in either case of a test
nothing_either : (b : Bool) (t : Text) → (if b then [] else []) ++ t ≡ t
nothing_either true t = refl
nothing_either false t = refl

-- A unit that stands for nothing, and one in front of s that stands for a character.
before-nothing : (s at : ℕ) (u : LiteralUnit) (us : List LiteralUnit) → value u ≡ []
    → text_before s at (u ∷ us) ≡ text_before s (past at u) us
before-nothing s at u us z = rw z (nothing_either (nat_le (past at u) s)
    (text_before s (past at u) us))

before-character : (s at c : ℕ) (u : LiteralUnit) (us : List LiteralUnit) → value u ≡ c ∷ []
    → past at u ≤ s →
    text_before s at (u ∷ us) ≡ c ∷ text_before s (past at u) us
before-character s at c u us z l = rw (z, le-leb (past at u) s l) refl

-- No unit that starts at s or later ends by s.
pub before-none : (s at : ℕ) (us : List LiteralUnit) → s ≤ at → text_before s at us ≡ []
before-none s at [] h = refl
before-none s at (u ∷ us) h =
    let late : s < past at u = omega (arith, past-lt at u) in
    rw (lt-leb (past at u) s late) (before-none s (past at u) us (omega arith))

-- After the end stand all characters.
pub before-all : (lo at : ℕ) (us : List LiteralUnit) (e s : ℕ)
    → IsOrdered lo (content_places at us) e → e ≤ s → text_before s at us ≡ content_value us
before-all lo at [] e s o h = refl
before-all lo at (u ∷ us) e s o h =
    elim (one_or_none u) [
      | inl z ↦
          (let k : IsOrdered lo (content_places (past at u) us) e = rw z at o in
          before-nothing s at u us z ∙ (before-all lo (past at u) us e s k h ∙ rw z refl))
      | inr (c, z) ↦
          (let k : IsOrdered lo ((at, past at u) ∷ content_places (past at u) us) e = rw z at o in
          let l : past at u
          ≤ s = omega (arith, ordered-end (past at u) (content_places (past at u) us) e k.2) in
          before-character s at c u us z l
          ∙ (ap (λ t. c ∷ t) (before-all (past at u) (past at u) us e s k.2 h) ∙ rw z refl))
    ]

-- Either end of a place, and how many characters are in front of that end of the one after a
-- others.
abbrev pub edge : Bool → Place → ℕ
edge false p = p.0
edge true p = p.1

abbrev pub count_to : Bool → ℕ → ℕ
count_to false a = a
count_to true a = suc a

edge-after : (b : Bool) (lo : ℕ) (ps : List Place) (e a : ℕ) → IsOrdered lo ps e
    → lo ≤ edge b (get_or ps a (e, e))
edge-after false lo ps e a o = start-after lo ps e a o
edge-after true lo ps e a o = omega (arith, start-after lo ps e a o, start-stop lo ps e a o)

one_more : (b : Bool) (a c : ℕ) (t : Text) → c ∷ take (count_to b a) t
    ≡ take (count_to b (suc a)) (c ∷ t)
one_more false a c t = refl
one_more true a c t = refl

none_left : (b : Bool) (a : ℕ) → ◌≡◌ {A = Text} [] (take (count_to b a) [])
none_left false zero = refl
none_left false (suc a) = refl
none_left true a = refl

-- Before the start of a character stand those in front of it, and before its end it too.
pub before-edge : (b : Bool) (lo at : ℕ) (us : List LiteralUnit) (e a s : ℕ)
    → IsOrdered lo (content_places at us) e →
    s ≡ edge b (get_or (content_places at us) a (e, e)) → text_before s at us
    ≡ take (count_to b a) (content_value us)
before-edge b lo at [] e a s o p = none_left b a
before-edge b lo at (u ∷ us) e a s o p =
    elim (one_or_none u) [
      | inl z ↦
          (let k : IsOrdered lo (content_places (past at u) us) e = rw z at o in
          let q : s ≡ edge b (get_or (content_places (past at u) us) a (e, e)) = rw z at p in
          before-nothing s at u us z ∙ (before-edge b lo (past at u) us e a s k q ∙ rw z refl))
      | inr (c, z) ↦
          (let k : IsOrdered lo ((at, past at u) ∷ content_places (past at u) us) e = rw z at o in
          let q : s ≡ edge b (get_or ((at, past at u) ∷ content_places (past at u) us) a (e, e)) =
          rw z at p in
          at_character b s at c u us e a z k.2 q
          (λ i h. before-edge b (past at u) (past at u) us e i s k.2 h) ∙ rw z refl)
    ]
  where
    at_character : (b : Bool) (s at c : ℕ) (u : LiteralUnit) (us : List LiteralUnit) (e a : ℕ)
        → value u ≡ c ∷ [] →
        IsOrdered (past at u) (content_places (past at u) us) e →
        s ≡ edge b (get_or ((at, past at u) ∷ content_places (past at u) us) a (e, e)) →
        ((i : ℕ) → s ≡ edge b (get_or (content_places (past at u) us) i (e, e))
        → text_before s (past at u) us ≡ take (count_to b i) (content_value us)) →
        text_before s at (u ∷ us) ≡ take (count_to b a) (c ∷ content_value us)
    at_character false s at c u us e zero z o p ih = before-none s at (u ∷ us) (omega (arith, p))
    at_character true s at c u us e zero z o p ih =
        before-character s at c u us z (omega (arith, p))
        ∙ ap (λ t. c ∷ t) (before-none s (past at u) us (omega (arith, p)))
    at_character b s at c u us e (suc a) z o p ih =
        let l : past at u ≤ edge b (get_or (content_places (past at u) us) a (e, e)) =
        edge-after b (past at u) (content_places (past at u) us) e a o in
        before-character s at c u us z (omega (arith, p, l))
        ∙ (ap (λ t. c ∷ t) (ih a p) ∙ one_more b a c (content_value us))

-- A byte that lies inside no place.
abbrev pub IsApart : ℕ → List Place → Type 0
IsApart s [] = ⊤
IsApart s (p ∷ ps) = ((p.1 ≤ s) ⊎ (s ≤ p.0)) × IsApart s ps

-- A byte is apart from characters that start later, and so is the start of a character.
apart-later : (s lo : ℕ) (ps : List Place) (e : ℕ) → s ≤ lo → IsOrdered lo ps e → IsApart s ps
apart-later s lo [] e h o = tt
apart-later s lo (p ∷ ps) e h o =
    (inr (omega (arith, o.0)), apart-later s p.1 ps e (omega (arith, o.0, o.1)) o.2)

pub start-apart : (lo : ℕ) (ps : List Place) (e a : ℕ) → IsOrdered lo ps e
    → IsApart (start ps e a) ps
start-apart lo [] e a o = tt
start-apart lo (p ∷ ps) e zero o = (inr (omega arith), apart-later p.0 p.1 ps e o.1 o.2)
start-apart lo (p ∷ ps) e (suc a) o = (inl (start-after p.1 ps e a o.2), start-apart p.1 ps e a o.2)

inside-nothing : (p : Place) (at : ℕ) (u : LiteralUnit) (us : List LiteralUnit) → value u ≡ []
    → text_inside p at (u ∷ us) ≡ text_inside p (past at u) us
inside-nothing p at u us z =
    rw z (nothing_either (nat_le p.0 at && nat_le (past at u) p.1) (text_inside p (past at u) us))

-- Where s lies inside no place, the text before a later byte is that before s and then that in the
-- range.
pub before-inside : (s r at : ℕ) (us : List LiteralUnit) → s ≤ r
    → IsApart s (content_places at us) →
    text_before s at us ++ text_inside (s, r) at us ≡ text_before r at us
before-inside s r at [] h c = refl
before-inside s r at (u ∷ us) h c =
    elim (one_or_none u) [
      | inl z ↦
          (let k : IsApart s (content_places (past at u) us) = rw z at c in
          rw (
            before-nothing s at u us z,
            inside-nothing (s, r) at u us z,
            before-nothing r at u us z,
          ) (before-inside s r (past at u) us h k))
      | inr (d, z) ↦
          (let k : IsApart s ((at, past at u) ∷ content_places (past at u) us) = rw z at c in
          at_character s r at d u us h z k.0 (before-inside s r (past at u) us h k.1))
    ]
  where
    at_character : (s r at d : ℕ) (u : LiteralUnit) (us : List LiteralUnit) → s ≤ r
        → value u ≡ d ∷ [] → (past at u ≤ s) ⊎ (s ≤ at) →
        text_before s (past at u) us ++ text_inside (s, r) (past at u) us
        ≡ text_before r (past at u) us →
        text_before s at (u ∷ us) ++ text_inside (s, r) at (u ∷ us) ≡ text_before r at (u ∷ us)
    at_character s r at d u us h z (inl l) ih =
        let late : at < s = omega (arith, past-lt at u) in
        rw (z, le-leb (past at u) s l, le-leb (past at u) r (omega arith), lt-leb s at late)
        (ap (λ t. d ∷ t) ih)
    at_character s r at d u us h z (inr l) ih =
        let same : text_inside (s, r) (past at u) us ≡ text_before r (past at u) us
        = ap (λ t. t ++ text_inside (s, r) (past at u) us)
        (sym (before-none s (past at u) us (omega (arith, past-lt at u)))) ∙ ih in
        rw (before-none s at (u ∷ us) l, le-leb s at l, same) refl
