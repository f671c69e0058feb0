-- Where a cursor is in its source: in a plain world by the bytes that are left, otherwise by an
-- offset in the kept snippet.
use Rattle.std.proofs.Common.{◌≡◌, ◌+◌, ◌-◌, ◌<◌, ◌^◌, drop, ℕ, true, List, [], length, chars}
use Rattle.std.proofs.Common.{ap, refl, sym, ◌∙◌, Option, Some, None, IsUtf8}
use Rattle.std.proofs.Common.{arith, string_bytes}
use Rattle.std.proofs.lemmas.Str.{chars-nil}
use Rattle.std.proofs.lemmas.List.{nil_from_length}
use Rattle.std.specs.declared.string.String.{String}
use Rattle.std.specs.declared.alloc.Global.{Global}
use Rattle.rustc_parse_format.specs.declared.source.anchor.Anchor.{Anchor}
use Rattle.rustc_parse_format.specs.declared.source.Source.{Source}
use Rattle.rustc_parse_format.specs.Characters.{after_first}
use Rattle.rustc_parse_format.proofs.Sources.Ends.{frame-units}
use Rattle.rustc_parse_format.specs.World.{Place, ordinary_end, World, place_at}
use Rattle.std.specs.Str.{is_utf8}
use Rattle.rustc_parse_format.specs.Bytes.{IsLeft}
use Rattle.rustc_parse_format.specs.SourceViews.{IsAnchor, IsAnchorIn, IsAnchored, IsKept, IsKeptIn}
use Rattle.rustc_parse_format.specs.SourceViews.{seen_world, world_with}
use Rattle.rustc_parse_format.proofs.Sources.PlainPlaces.{place_end, start_left, stop_left}

anchor_by : (o : Option (String Global)) (w : World) (a : Anchor) (snippet : String Global)
    → IsAnchorIn o w a → o ≡ Some snippet →
    IsAnchor (string_bytes snippet) w a
anchor_by o w a snippet h e = rw e at h

-- where the snippet is kept, it has the anchor
pub anchor_in : (s : Source) (rest : List ℕ) (a : Anchor) (snippet : String Global)
    → IsAnchored s rest a → s.kept_snippet ≡ Some snippet →
    IsAnchor (string_bytes snippet) (seen_world s) a
anchor_in s rest a snippet h e = anchor_by s.kept_snippet (seen_world s) a snippet h.is_anchor e

literal_in : (o : Option (String Global)) (s : Source) → s.is_literal ≡ (world_with o s).has_source
literal_in None s = refl
literal_in (Some snippet) s = refl

pub source_literal : (s : Source) → s.is_literal ≡ (seen_world s).has_source
source_literal s = literal_in s.kept_snippet s

-- in a plain world
pub plain_start : (s : Source) (rest : List ℕ) (a : Anchor) → IsAnchored s rest a
    → s.kept_snippet ≡ None
    → (length rest ≡ 0 → ⊥) →
    s.offset + (length s.input.now - length rest)
    ≡ (place_at (seen_world s) (length (chars rest))).0
plain_start s rest a h e some =
    rw e (sym (start_left s.is_literal s.offset s.end s.input.now rest h.is_left some))

pub plain_stop : (s : Source) (rest rest_after : List ℕ) (a : Anchor) → IsAnchored s rest a
    → s.kept_snippet ≡ None → IsUtf8 rest_after → (length rest ≡ 0 → ⊥) →
    chars rest_after ≡ after_first (chars rest) → s.offset + (length s.input.now - length
    rest_after)
    ≡ (place_at (seen_world s) (length (chars rest))).1
plain_stop s rest rest_after a h e u some b =
    rw e (sym (stop_left s.is_literal s.offset s.end s.input.now rest rest_after h.is_left u some
    b))

-- a place by its two ends
pub place_by : (p : Place) (from to : ℕ) → from ≡ p.0 → to ≡ p.1 → (from, to) ≡ p
place_by p from to e f = ap (λ (n : ℕ). (n, to)) e ∙ ap (λ (n : ℕ). (p.0, n)) f

-- at the end of the text
pub place_gone : (s : Source) (rest : List ℕ) (a : Anchor) → IsAnchored s rest a → length rest ≡ 0 →
    place_at (seen_world s) (length (chars rest)) ≡ (s.end, s.end)
place_gone s rest a h none =
    let nil : chars rest ≡ [] = ap chars (nil_from_length rest none) ∙ chars-nil in
    rw nil (place_end (seen_world s)) ∙ ap (λ (e : ℕ). (e, e)) (sym h.ending)

-- A text, as a rest of itself.
pub left_self : (t : List ℕ) → is_utf8 t ≡ true → IsLeft t t
left_self t u =
    let n : length t - length t ≡ 0 = omega arith in
    record { valid = u; valid_rest = u; within = omega arith; tail = ap (λ k. drop k t) n }

-- where the text of a source ends
kept_ends : (o : Option (String Global)) (s : Source) → IsKeptIn o s → s.end ≡ (world_with o s).end
kept_ends None s k = refl
kept_ends (Some snippet) s k =
    k.ending
    ∙ sym (ap ordinary_end
    (frame-units (chars (string_bytes snippet)) k.content k.units k.is_literal k.is_content))

-- at the start of an input
pub first_anchored : (s : Source) (text : List ℕ) (a : Anchor) → IsLeft s.input.now text
    → s.offset + length s.input.now < 2 ^ 64 →
    a.rest.now ≡ s.input.now → IsAnchorIn s.kept_snippet (seen_world s) a → IsKept s
    → IsAnchored s text a
first_anchored s text a left fits same h k = record {
  is_left = left;
  is_after = rw same left;
  is_anchor = h;
  fits = fits;
  ending = kept_ends s.kept_snippet s k;
}
