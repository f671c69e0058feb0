-- The world of a source literal, ordinary or raw, by its units: where each character is, and where
-- the text ends.
use Rattle.std.proofs.Common.{◌≡◌, ℕ, suc, zero, ◌+◌, ◌≤◌, ◌<◌, ◌++◌, inl, inr, Bool, true, false}
use Rattle.std.proofs.Common.{List, [], ◌∷◌, map, refl, sym, ap, ◌∙◌, arith}
use Rattle.std.proofs.Common.{Option, Some, None, cond}
use Rattle.std.specs.Prelude.{replicate}
use Rattle.std.specs.Char.{len_utf8}
use Rattle.std.proofs.lemmas.Bool.{cond-true}
use Rattle.rustc_parse_format.specs.Characters.{Text, byte_length}
use Rattle.rustc_parse_format.specs.LiteralUnits.{LiteralUnit, Plain, spelling}
use Rattle.rustc_parse_format.specs.Literal.{IsContent, content_value, ordinary_frame, raw_frame}
use Rattle.rustc_parse_format.specs.Literal.{raw_opening, raw_closing, newline, IsSource}
use Rattle.rustc_parse_format.specs.Source.{units_between, unappended_input, is_source}
use Rattle.rustc_parse_format.specs.World.{World, world, plain_world, plain_places, quote_offset}
use Rattle.rustc_parse_format.specs.World.{content_places, last_stop, newline_places, raw_end}
use Rattle.rustc_parse_format.specs.World.{ordinary_world, literal_world}
use Rattle.rustc_parse_format.specs.ReadBack.{source_units}
use Rattle.rustc_parse_format.proofs.Literals.Widths.{width-cons, width-append}
use Rattle.rustc_parse_format.proofs.Sources.Ends.{frame-units}
use Rattle.rustc_parse_format.proofs.Sources.Decided.{found-source, unappended-append}
use Rattle.rustc_parse_format.proofs.Spans.PlaceOrder.{one_or_none}
use Rattle.rustc_parse_format.proofs.Spans.Units.{past}

-- There is a source literal where the test says so.
has_source-world : (input : Text) (style : Option ℕ) (snippet : Text) (b : Bool)
    → (literal_world input style snippet b).has_source ≡ true
has_source-world input None snippet b = refl
has_source-world input (Some n) snippet b = refl

pub has_source-is : (input : Text) (style : Option ℕ) (snippet : Option Text) (b : Bool) →
    (world input style snippet b).has_source ≡ is_source input style snippet b
unfolding world is_source
has_source-is input style None b = refl
has_source-is input style (Some snippet) b =
    by_test (is_source input style (Some snippet) b) _ _
    (has_source-world input style snippet b) refl
  where
    by_test : (t : Bool) (v w : World) → v.has_source ≡ true → w.has_source ≡ false
        → (cond t v w).has_source ≡ t
    by_test true v w h k = h
    by_test false v w h k = k

-- a source literal with these units from a byte on
abbrev pub unit_world : ℕ → List LiteralUnit → Bool → World
unit_world q us b = record {
  has_source = true;
  places = content_places q us ++ newline_places (last_stop q (content_places q us)) b;
  end = last_stop q (content_places q us);
}

-- The places of a text in which each character stands for itself.
one_width : (q c : ℕ) → q + byte_length (c ∷ []) ≡ q + len_utf8 c
one_width q c = let n : byte_length [] ≡ 0 = refl in omega (arith, width-cons c [], n)

plain_content : (q : ℕ) (t : Text) → content_places q (map Plain t) ≡ plain_places q t
plain_content q [] = refl
plain_content q (c ∷ t) =
    rw (one_width q c) (ap (λ ps. (q, q + len_utf8 c) ∷ ps) (plain_content (q + len_utf8 c) t))

plain_value : (t : Text) → content_value (map Plain t) ≡ t
plain_value [] = refl
plain_value (c ∷ t) = ap (λ u. c ∷ u) (plain_value t)

plain_last : (q : ℕ) (t : Text) → last_stop q (plain_places q t) ≡ q + byte_length t
plain_last q [] = omega arith
plain_last q (c ∷ t) = plain_last (q + len_utf8 c) t ∙ omega (arith, width-cons c t)

plain_newline : (q : ℕ) (t : Text) (b : Bool) → plain_places q (t ++ newline b)
    ≡ plain_places q t ++ newline_places (q + byte_length t) b
plain_newline q [] true = let e : q + 0 ≡ q = omega arith in let f : q + 1 ≡ suc q = omega arith in
    rw (e, f) refl
plain_newline q [] false = refl
plain_newline q (c ∷ t) b =
    let e : (q + len_utf8 c) + byte_length t ≡ q + byte_length (c ∷ t) =
    omega (arith, width-cons c t) in
    ap (λ ps. (q, q + len_utf8 c) ∷ ps) (plain_newline (q + len_utf8 c) t b
    ∙ ap (λ k. plain_places (q + len_utf8 c) t ++ newline_places k b) e)

-- How many bytes there are in front of the text of a raw literal, and after it.
width-hashes : (n : ℕ) → byte_length (replicate n 35) ≡ n
width-hashes zero = refl
width-hashes (suc n) = width-cons 35 (replicate n 35) ∙ omega (arith, width-hashes n)

width-raw : (n : ℕ) (t : Text) → byte_length (raw_frame n t) ≡ suc (((n + 2) + byte_length t) + n)
width-raw n t =
    let hs : Text = replicate n 35 in
    let opening : byte_length (raw_opening n) ≡ n + 2 = width-cons 114 (hs ++ 34 ∷ [])
    ∙ omega (arith, width-append hs (34 ∷ []), width-hashes n) in
    let closing : byte_length (raw_closing n) ≡ suc n = width-cons 34 hs
    ∙ omega (arith, width-hashes n) in
    let whole : byte_length (raw_frame n t) ≡ byte_length (raw_opening n ++ t)
    + byte_length (raw_closing n)
    = width-append (raw_opening n ++ t) (raw_closing n) in
    omega (arith, whole, opening, closing, width-append (raw_opening n) t)

raw_end-is : (n : ℕ) (t : Text) → raw_end n (raw_frame n t) ≡ (n + 2) + byte_length t
raw_end-is n t = let w = width-raw n t in omega (arith, w)

raw_world : (n : ℕ) (t : Text) (b : Bool)
    → plain_world true (n + 2) (t ++ newline b) (raw_end n (raw_frame n t))
    ≡ unit_world (n + 2) (map Plain t) b
raw_world n t b =
    rw (
      raw_end-is n t,
      plain_newline (n + 2) t b,
      plain_content (n + 2) t,
      plain_last (n + 2) t,
    ) refl

-- The last character of a content ends inside it,
last-content : (lo at : ℕ) (t : Text) (us : List LiteralUnit) → IsContent t us
    → lo ≤ at + byte_length t →
    last_stop lo (content_places at us) ≤ at + byte_length t
last-content lo at t [] h l = l
last-content lo at t (u ∷ us) (r, w, m, e, h) l =
    let n : at + byte_length t ≡ past at u + byte_length r =
    omega (arith, ap byte_length e, width-append (spelling u) r) in
    elim (one_or_none u) [
      | inl z ↦ rw (z, n) (last-content lo (past at u) r us h (omega (arith, l, n)))
      | inr (c, z) ↦ rw (z, n) (last-content (past at u) (past at u) r us h (omega arith))
    ]

-- and after it stands at least a closing quote.
width-ordinary : (t : Text) → byte_length (ordinary_frame t) ≡ suc (suc (byte_length t))
width-ordinary t = width-cons 34 (t ++ 34 ∷ []) ∙ omega (arith, width-append t (34 ∷ []))

-- The facts of a source literal: its units, from which its world follows.
pub record Known (input : Text) (style : Option ℕ) (snippet : Text) (b : Bool) : Type 0 where
  pub units : List LiteralUnit
  pub world_is : world input style (Some snippet) b ≡ unit_world (quote_offset style) units b
  pub units_are : source_units input style snippet b ≡ units
  pub text_is : unappended_input b input ≡ content_value units
  pub whole : input ≡ content_value units ++ newline b
  pub inside : last_stop (quote_offset style) (content_places (quote_offset style) units)
      < byte_length snippet

pub world-literal : (input : Text) (style : Option ℕ) (snippet : Text) (b : Bool)
    → IsSource input style snippet b →
    world input style (Some snippet) b ≡ literal_world input style snippet b
unfolding world
world-literal input style snippet b h =
    cond-true (is_source input style (Some snippet) b) _ _ (found-source input style snippet b h)

pub known : (input : Text) (style : Option ℕ) (snippet : Text) (b : Bool)
    → IsSource input style snippet b → Known input style snippet b
known input None snippet b (t, (content, us, e, c, v), whole) =
    let same : units_between snippet ≡ us = frame-units snippet content us e c in
    record {
      units = us;
      world_is = world-literal input None snippet b (t, (content, us, e, c, v), whole)
          ∙ ap (λ vs. ordinary_world vs b) same;
      units_are = same;
      text_is = ap (unappended_input b) (sym whole) ∙ (unappended-append b t ∙ sym v);
      whole = sym whole ∙ ap (λ s. s ++ newline b) (sym v);
      inside = omega (
        arith,
        ap byte_length e,
        width-ordinary content,
        last-content 1 1 content us c (omega arith),
      );
    }
known input (Some n) snippet b (t, e, whole) =
    let text : unappended_input b input ≡ t =
    ap (unappended_input b) (sym whole) ∙ unappended-append b t in
    let last : last_stop (n + 2) (content_places (n + 2) (map Plain t)) ≡ (n + 2) + byte_length t
    = ap (last_stop (n + 2)) (plain_content (n + 2) t) ∙ plain_last (n + 2) t in
    record {
      units = map Plain t;
      world_is = world-literal input (Some n) snippet b (t, e, whole)
          ∙ (rw (e, ← whole) (raw_world n t b));
      units_are = ap (map Plain) text;
      text_is = text ∙ sym (plain_value t);
      whole = sym whole ∙ ap (λ s. s ++ newline b) (sym (plain_value t));
      inside = omega (arith, ap byte_length e, width-raw n t, last);
    }
