-- Where the first character of a kept snippet is: after the opening quote and the continuations
-- there.
use Rattle.std.proofs.Common.{◌≡◌, ◌++◌, ◌+◌, ◌≤◌, ℕ, Bool, List, [], ◌∷◌, length, chars, drop}
use Rattle.std.proofs.Common.{refl, ap, sym, subst, ◌∙◌, Some, string_bytes, IsUtf8}
use Rattle.std.proofs.Common.{IsCharBoundary}
use Rattle.std.proofs.lemmas.Str.{IsUtf8-string_bytes, IsCharBoundary-from_drop}
use Rattle.std.specs.declared.string.String.{String}
use Rattle.std.specs.declared.alloc.Global.{Global}
use Rattle.rustc_parse_format.specs.Characters.{Text}
use Rattle.rustc_parse_format.specs.LiteralUnits.{LiteralUnit}
use Rattle.rustc_parse_format.specs.Literal.{IsContent}
use Rattle.rustc_parse_format.specs.World.{World, ordinary_world, ordinary_end, content_places}
use Rattle.rustc_parse_format.specs.World.{newline_places}
use Rattle.rustc_parse_format.specs.declared.source.anchor.Anchor.{Anchor}
use Rattle.rustc_parse_format.specs.declared.source.Source.{Source}
use Rattle.rustc_parse_format.specs.Source.{units_between}
use Rattle.rustc_parse_format.specs.SourceViews.{IsAnchor, IsAnchorIn, IsHere, IsKept, IsOrdinary}
use Rattle.rustc_parse_format.specs.SourceViews.{is_appended}
use Rattle.rustc_parse_format.specs.SourceViews.{seen_world, world_with, closed_by_quote, gap}
use Rattle.rustc_parse_format.proofs.Sources.Ends.{frame-units}
use Rattle.rustc_parse_format.proofs.Sources.Steps.{IsCutAt, IsReached, cut_at, settle}

-- the world has the places of an ordinary literal
abbrev pub HasPlacesOf : List ℕ → Bool → World → Type 0
HasPlacesOf bs appended w =
    (w.places ≡ (ordinary_world (units_between (chars bs)) appended).places)
    × (w.end ≡ ordinary_end (units_between (chars bs)))

-- after the opening quote of a snippet that is kept
pub opened : (bs input : List ℕ) (appended : Bool) (end : ℕ) (w : World) → HasPlacesOf bs appended w
    → IsUtf8 bs →
    (o : IsOrdinary input (chars bs) appended end) → IsReached bs w input 1 o.units
opened bs input appended end w same u o =
    let found = frame-units (chars bs) o.content o.units o.is_literal o.is_content in
    let cut : IsCutAt bs (34 ∷ []) (closed_by_quote o.content) =
    cut_at bs (34 ∷ []) (closed_by_quote o.content) u o.is_literal in
    record {
      within = cut.within;
      is_text = cut.is_text;
      content = o.content;
      left = cut.chars_are;
      is_content = o.is_content;
      appended = appended;
      rest_is = sym o.stands_for;
      passed = [];
      places = same.0
          ∙ (ap (λ us. content_places 1 us
          ++ newline_places (ordinary_end (units_between (chars bs))) appended) found
          ∙ ap (λ e. content_places 1 o.units ++ newline_places e appended) (sym same.1));
      ending = ap ordinary_end (sym found) ∙ sym same.1;
    }

abbrev pub Closes : List ℕ → ℕ → Type 0
Closes rest n = (q : Text) (us : List LiteralUnit) → IsContent q us → chars rest ≡ closed_by_quote q
    → n ≡ gap us

pub first-here : (bs input : List ℕ) (appended : Bool) (end n : ℕ) (w : World)
    → HasPlacesOf bs appended w → IsUtf8 bs →
    IsOrdinary input (chars bs) appended end → Closes (drop 1 bs) n → IsHere bs w input (1 + n)
first-here bs input appended end n w same u o f =
    let b = opened bs input appended end w same u o in
    subst (λ k. IsHere bs w input (1 + k)) (sym (f b.content o.units b.is_content b.left))
    (settle bs w input 1 o.units b)

-- in the words of a source
pub kept-ordinary : (s : Source) (snippet : String Global) → s.kept_snippet ≡ Some snippet
    → IsKept s →
    IsOrdinary (chars s.input.now) (chars (string_bytes snippet))
    (is_appended (chars s.input.now) (chars (string_bytes snippet))) s.end
kept-ordinary s snippet e k = rw e at k

pub first-boundary : (s : Source) (snippet : String Global) → s.kept_snippet ≡ Some snippet
    → IsKept s
    → IsCharBoundary (string_bytes snippet) 1
first-boundary s snippet e k =
    let b = opened (string_bytes snippet) (chars s.input.now)
    (is_appended (chars s.input.now) (chars (string_bytes snippet))) s.end
    (world_with (Some snippet) s) (refl, refl)
    (IsUtf8-string_bytes snippet) (kept-ordinary s snippet e k) in
    IsCharBoundary-from_drop (string_bytes snippet) 1 b.within b.is_text

pub first-found : (s : Source) (snippet : String Global) (n : ℕ) → s.kept_snippet ≡ Some snippet
    → IsKept s
    → Closes (drop 1 (string_bytes snippet)) n →
    IsHere (string_bytes snippet) (world_with (Some snippet) s) (chars s.input.now) (1 + n)
first-found s snippet n e k f =
    first-here (string_bytes snippet) (chars s.input.now)
    (is_appended (chars s.input.now) (chars (string_bytes snippet))) s.end n
    (world_with (Some snippet) s) (refl, refl)
    (IsUtf8-string_bytes snippet) (kept-ordinary s snippet e k) f

pub first-inside : (s : Source) (snippet : String Global) (n : ℕ) → s.kept_snippet
    ≡ Some snippet → IsKept s
    → Closes (drop 1 (string_bytes snippet)) n →
    1 + n ≤ length (string_bytes snippet)
first-inside s snippet n e k f = (first-found s snippet n e k f).within

pub first-anchor : (s : Source) (snippet : String Global) (n : ℕ) (a : Anchor)
    → s.kept_snippet ≡ Some snippet → IsKept s →
    Closes (drop 1 (string_bytes snippet)) n →
    ((w : World) → IsHere (string_bytes snippet) w (chars s.input.now) (1 + n)
    → IsAnchor (string_bytes snippet) w a) →
    IsAnchorIn s.kept_snippet (seen_world s) a
first-anchor s snippet n a e k f look =
    rw e (look (world_with (Some snippet) s) (first-found s snippet n e k f))
