-- The computed cut of a text is its only cut.
use Rattle.std.proofs.Common.{◌≡◌, ◌++◌, [], ◌∷◌, sym, ◌∙◌, ap}
use Rattle.std.specs.Char.{is_whitespace}
use Rattle.rustc_parse_format.specs.Characters.{Text, front, rest_after, after_white}
use Rattle.rustc_parse_format.specs.Types.{Mode}
use Rattle.rustc_parse_format.specs.Spelling.{run}
use Rattle.rustc_parse_format.specs.Syntax.{SpecText, spec_part, PositionText, position_part}
use Rattle.rustc_parse_format.specs.Syntax.{FieldText, field_part, IsCut, IsOnlyCut}
use Rattle.rustc_parse_format.specs.Specification.{specification}
use Rattle.rustc_parse_format.specs.Placeholder.{position, cut, Cut, cut_of}
use Rattle.rustc_parse_format.proofs.Grammar.PartLaws.{IsRow, then, last, opened, only}
use Rattle.rustc_parse_format.proofs.Grammar.PartFronts.{run-finds}
use Rattle.rustc_parse_format.proofs.Grammar.PartCounts.{position-finds}
use Rattle.rustc_parse_format.proofs.Grammar.PartSpecs.{spec-finds}

-- Each text has a cut,
pub cut-sound : (mode : Mode) (t : Text) → IsCut mode t (cut mode t).field (cut mode t).rest
unfolding cut after_white
cut-sound mode t =
    (then (position-finds.sound t) (then ((run-finds is_whitespace).sound (position t).1)
    (last ((spec-finds mode).sound (rest_after is_whitespace (position t).1))))).part

with_parts : PositionText → Text → SpecText → Text → Text → Text → Cut
with_parts p w s t u r = record {
  field = record { position = p; space = w; spec = s };
  position_at = t;
  spec_at = u;
  rest = r;
}

same_with : (p q : PositionText) (v w : Text) (s z : SpecText) (t u x y r o : Text) → p ≡ q → v ≡ w
    → s ≡ z → t ≡ u → x ≡ y → r ≡ o →
    with_parts p v s t x r ≡ with_parts q w z u y o
same_with p q v w s z t u x y r o e1 e2 e3 e4 e5 e6 = cc

-- and each cut that it has is this one.
pub cut-placed : (mode : Mode) (t : Text) (a : FieldText) (r : Text) → IsCut mode t a r
    → cut mode t ≡ cut_of mode a r
unfolding cut after_white with_parts
cut-placed mode t a r h =
    let whole : IsRow t (position_part a.position ∷ run is_whitespace a.space
    ∷ spec_part mode a.spec ∷ []) r = record { part = h } in
    let p = opened whole in
    let w = opened p.others in
    let s = only w.others in
    let pe = position-finds.complete t a.position p.seam p.first in
    let we = (run-finds is_whitespace).complete p.seam a.space w.seam w.first in
    let se = (spec-finds mode).complete w.seam a.spec r s in
    let at_space : (position t).1 ≡ p.seam = ap (λ x. x.1) pe in
    let at_spec : rest_after is_whitespace (position t).1
    ≡ w.seam = ap (rest_after is_whitespace) at_space
    ∙ ap (λ x. x.1) we in
    let spec = specification mode (rest_after is_whitespace (position t).1) in
    same_with (position t).0 a.position (front is_whitespace (position t).1) a.space spec.0 a.spec t
    ((field_part mode a).spelling ++ r)
    (rest_after is_whitespace (position t).1) ((spec_part mode a.spec).spelling ++ r) spec.1 r
    (ap (λ x. x.0) pe)
    (ap (front is_whitespace) at_space ∙ ap (λ x. x.0) we)
    (ap (λ u. (specification mode u).0) at_spec ∙ ap (λ x. x.0) se)
    h.whole
    (at_spec ∙ s.whole)
    (ap (λ u. (specification mode u).1) at_spec ∙ ap (λ x. x.1) se)

-- So there is exactly one.
pub cut-only : (mode : Mode) (t : Text) → (a : FieldText) × (r : Text) × IsOnlyCut mode t a r
cut-only mode t = (
  (cut mode t).field,
  (cut mode t).rest,
  record {
    is_cut = cut-sound mode t;
    is_only = λ b s h. (let e = sym (cut-placed mode t b s h) in
        (ap (λ x. x.field) e, ap (λ x. x.rest) e));
  },
)
