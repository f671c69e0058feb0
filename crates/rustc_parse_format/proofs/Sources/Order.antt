-- In the world of a source the places are in order, and each character that is left has a place. So
-- if the next character starts after an offset, all later ones do.
use Rattle.std.proofs.Common.{◌≡◌, ℕ, ◌<◌, ◌≤◌, ◌++◌, true, List, [], ◌∷◌, length, chars, Option}
use Rattle.std.proofs.Common.{Some, None, unwrap_or}
use Rattle.std.proofs.Common.{ap, arith, length-append}
use Rattle.std.specs.Prelude.{string_bytes}
use Rattle.std.proofs.lemmas.Option.{none-some}
use Rattle.std.specs.Char.{is_whitespace}
use Rattle.std.specs.declared.string.String.{String}
use Rattle.std.specs.declared.alloc.Global.{Global}
use Rattle.rustc_parse_format.specs.declared.source.anchor.Anchor.{Anchor}
use Rattle.rustc_parse_format.specs.declared.source.Source.{Source}
use Rattle.rustc_parse_format.specs.Characters.{Text, first}
use Rattle.rustc_parse_format.specs.LiteralUnits.{LiteralUnit}
use Rattle.rustc_parse_format.specs.Literal.{units, content_value, newline}
use Rattle.rustc_parse_format.specs.Source.{text_between}
use Rattle.rustc_parse_format.specs.Bytes.{IsLeft}
use Rattle.rustc_parse_format.specs.SourceViews.{IsAnchorIn, IsAnchored, IsHere, is_appended}
use Rattle.rustc_parse_format.specs.SourceViews.{seen_world}
use Rattle.rustc_parse_format.specs.SourceViews.{world_with}
use Rattle.rustc_parse_format.specs.CallStates.{IsPastIndent}
use Rattle.rustc_parse_format.specs.World.{World, place_at, content_places, newline_places}
use Rattle.rustc_parse_format.proofs.Sources.PlainPlaces.{left, length-plain_places}
use Rattle.rustc_parse_format.proofs.Spans.PlaceOrder.{InOrder, plain-in_order, ordinary-in_order}
use Rattle.rustc_parse_format.proofs.Spans.PlaceOrder.{place-bytes, place-before}
use Rattle.rustc_parse_format.proofs.Spans.PlaceOrder.{length-content_places, length-newline}

-- From some byte on the places of a world stand in order, and there are n of them or more.
pub record HasPlaces (w : World) (n : ℕ) : Type 0 where
  pub from : ℕ
  pub in_order : InOrder from w.places
  pub enough : n ≤ length w.places

plain_here : (s : Source) (rest : List ℕ) → IsLeft s.input.now rest
    → HasPlaces (world_with None s) (length (chars rest))
plain_here s rest l =
    let k = left s.input.now rest l in
    record {
      from = s.offset;
      in_order = plain-in_order s.offset (chars s.input.now);
      enough = omega (
        arith,
        length-plain_places s.offset (chars s.input.now),
        ap length k.whole,
        length-append k.pre (chars rest),
      );
    }

here-enough : (snippet : List ℕ) (w : World) (rest : Text) (at : ℕ) → IsHere snippet w rest at
    → length rest ≤ length w.places
here-enough snippet w rest at h =
    omega (
      arith,
      ap length h.rest_is,
      length-append (content_value h.units) (newline h.appended),
      ap length h.places,
      length-append h.passed (content_places at h.units ++ newline_places w.end h.appended),
      length-append (content_places at h.units) (newline_places w.end h.appended),
      length-content_places at h.units,
      length-newline w.end h.appended,
    )

kept_here : (kept : Option (String Global)) (s : Source) (rest : List ℕ) (a : Anchor)
    → IsLeft s.input.now rest → IsLeft a.rest.now rest →
    IsAnchorIn kept (world_with kept s) a → HasPlaces (world_with kept s) (length (chars rest))
kept_here None s rest a l m h = plain_here s rest l
kept_here (Some snippet) s rest a l m h =
    let k = left a.rest.now rest m in
    let us : List LiteralUnit = unwrap_or
    (units (text_between (chars (string_bytes snippet)))) [] in
    record {
      from = 1;
      in_order = ordinary-in_order us
          (is_appended (chars s.input.now) (chars (string_bytes snippet)));
      enough = omega (
        arith,
        here-enough (string_bytes snippet) (world_with (Some snippet) s)
            (chars a.rest.now) a.offset h.0,
        ap length k.whole,
        length-append k.pre (chars rest),
      );
    }

pub anchored-places : (s : Source) (rest : List ℕ) (a : Anchor) → IsAnchored s rest a
    → HasPlaces (seen_world s) (length (chars rest))
anchored-places s rest a h = kept_here s.kept_snippet s rest a h.is_left h.is_after h.is_anchor

-- If the first of the last n characters starts no earlier than a byte, all after it start later,
pub start_from : (w : World) (n byte : ℕ) → HasPlaces w n → byte ≤ (place_at w n).0 → (k : ℕ)
    → 0 < k → k < n → byte < (place_at w k).0
start_from w n byte h first k some later =
    let order : (place_at w n).1 ≤ (place_at w k).0 =
    place-before h.from w n k h.in_order some later h.enough in
    let bytes : (place_at w n).0 < (place_at w n).1 =
    place-bytes h.from w n h.in_order (omega arith) h.enough in
    omega arith

-- so after a first one that is past the indent, nothing is at the very start of the line.
pub past_indent : (w : World) (t : Text) (c byte : ℕ) → HasPlaces w (length t) → first t ≡ Some c
    → byte ≤ (place_at w (length t)).0 →
    (is_whitespace c ≡ true → byte < (place_at w (length t)).0) → IsPastIndent c byte w t
past_indent w [] c byte h e first white = absurd (none-some c e)
past_indent w (d ∷ t) c byte h e first white =
    (white, λ k some within. start_from w (length (d ∷ t)) byte h first k some (omega arith))
