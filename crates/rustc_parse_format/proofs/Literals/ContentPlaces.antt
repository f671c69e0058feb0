-- The places of the characters of a content: those that are read, moved by the offset where the
-- content starts.
use Rattle.std.proofs.Common.{◌≡◌, ℕ, ◌+◌, ◌++◌, inl, inr, Bool, List, [], ◌∷◌, map, refl, sym, ap}
use Rattle.std.proofs.Common.{◌∙◌, arith, Option, Some, None, Result, Ok, Err, IfOk}
use Rattle.std.proofs.Common.{IfSome}
use Rattle.rustc_parse_format.specs.Characters.{Text, byte_length}
use Rattle.rustc_parse_format.specs.LiteralUnits.{LiteralUnit, spelling}
use Rattle.rustc_parse_format.specs.Literal.{IsContent, IsReadAs, IsSource, ordinary_frame}
use Rattle.rustc_parse_format.specs.Literal.{placed_characters}
use Rattle.rustc_parse_format.specs.World.{Place, world, later_place, content_places}
use Rattle.rustc_parse_format.specs.World.{newline_places}
use Rattle.rustc_parse_format.specs.World.{ordinary_end, ordinary_world}
use Rattle.rustc_parse_format.proofs.Spans.PlaceOrder.{one_or_none}
use Rattle.rustc_parse_format.proofs.Spans.Units.{past}
use Rattle.rustc_parse_format.proofs.Spans.Worlds.{world-literal}
use Rattle.rustc_parse_format.proofs.Sources.Ends.{frame-units}

-- A content that starts k bytes later has all its places k bytes later.
pub content-later : (k at : ℕ) (us : List LiteralUnit) → content_places (k + at) us
    ≡ map (later_place k) (content_places at us)
content-later k at [] = refl
content-later k at (u ∷ us) =
    let e : (k + at) + byte_length (spelling u) ≡ k + past at u = omega arith in
    elim (one_or_none u) [
      | inl z ↦ rw (z, e) (content-later k (past at u) us)
      | inr (c, z) ↦ rw (z, e)
          (ap (λ ps. (k + at, k + past at u) ∷ ps) (content-later k (past at u) us))
    ]

-- The places of an ordinary source literal, by what is read of its content.
map_places : (xs : List (Place × ℕ)) → map (later_place 1) (map (λ (x : Place × ℕ). x.0) xs)
    ≡ map (λ (x : Place × ℕ). later_place 1 x.0) xs
map_places [] = refl
map_places (x ∷ xs) = ap (λ ps. later_place 1 x.0 ∷ ps) (map_places xs)

pub content-world : (content : Text) (us : List LiteralUnit) (ps : List (Place × ℕ)) (input : Text)
    (appended : Bool) → IsContent content us →
    ps ≡ placed_characters 0 us → IsSource input None (ordinary_frame content) appended →
    (let w = world input None (Some (ordinary_frame content)) appended in
    w.places ≡ map (λ (x : Place × ℕ). later_place 1 x.0) ps ++ newline_places w.end appended)
content-world content us ps input appended h e source =
    let s = ordinary_frame content in
    let is : world input None (Some s) appended ≡ ordinary_world us appended =
    world-literal input None s appended source
    ∙ ap (λ vs. ordinary_world vs appended) (frame-units s content us refl h) in
    let same : content_places 1 us ≡ map (λ (x : Place × ℕ). later_place 1 x.0) ps =
    content-later 1 0 us
    ∙ (map_places (placed_characters 0 us)
    ∙ ap (map (λ (x : Place × ℕ). later_place 1 x.0)) (sym e)) in
    rw is (ap (λ qs. qs ++ newline_places (ordinary_end us) appended) same)

-- the same of the answer of a reader
pub in_literal : {X E : Type 0} (r : Result (Option X) E) (f : X → List (Place × ℕ))
    (content : Text) →
    IfOk r (λ o. IfSome o (λ v. IsReadAs content (f v))) →
    IfOk r (λ o. IfSome o (λ v. (input : Text) (appended : Bool)
    → IsSource input None (ordinary_frame content) appended →
    (let w = world input None (Some (ordinary_frame content)) appended in
    w.places ≡ map (λ (x : Place × ℕ). later_place 1 x.0) (f v) ++ newline_places w.end appended)))
in_literal (Ok None) f content h = tt
in_literal (Ok (Some v)) f content h =
    λ input appended source. content-world content h.0
    (f v) input appended h.1.is_content h.2 source
in_literal (Err x) f content h = tt
