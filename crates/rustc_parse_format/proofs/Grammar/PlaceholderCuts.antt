-- A placeholder is written exactly if a brace closes the computed cut.
use Rattle.std.proofs.Common.{◌≡◌, ◌++◌, [], ◌∷◌, sym, ◌∙◌, ap, subst, codes}
use Rattle.std.specs.Char.{is_whitespace}
use Rattle.rustc_parse_format.specs.Characters.{Text, front, after_white}
use Rattle.rustc_parse_format.specs.Spelling.{IsPart, fixed_part, run}
use Rattle.rustc_parse_format.specs.Types.{Mode}
use Rattle.rustc_parse_format.specs.Syntax.{FieldText, field_part, placeholder_part}
use Rattle.rustc_parse_format.specs.Placeholder.{cut, cut_of}
use Rattle.rustc_parse_format.proofs.Grammar.PartLaws.{fixed-there, IsRow, then, last, opened, only}
use Rattle.rustc_parse_format.proofs.Grammar.PartFronts.{run-finds}
use Rattle.rustc_parse_format.proofs.Grammar.PartCuts.{cut-sound, cut-placed}

-- after an opening brace the cut of what follows has this field, and a closing brace after its
-- white space
pub record ClosesCut (mode : Mode) (t : Text) (a : FieldText) (r : Text) : Type 0 where
  pub inside : Text
  pub opens : t ≡ 123 ∷ inside
  pub closes : after_white (cut mode inside).rest ≡ 125 ∷ r
  pub field : a ≡ (cut mode inside).field

white-rest_after : (t w r : Text) → IsPart t (run is_whitespace w) r → after_white t ≡ r
unfolding after_white
white-rest_after t w r h = ap (λ x. x.1) ((run-finds is_whitespace).complete t w r h)

pub by_cut : (mode : Mode) (t : Text) (a : FieldText) (space r : Text)
    → IsPart t (placeholder_part mode a space) r → ClosesCut mode t a r
by_cut mode t a space r h =
    let whole : IsRow t (fixed_part (codes "{") ∷ field_part mode a ∷ run is_whitespace space
    ∷ fixed_part (codes "}") ∷ []) r = record { part = h } in
    let o = opened whole in
    let f = opened o.others in
    let w = opened f.others in
    let z = only w.others in
    let e : cut mode o.seam ≡ cut_of mode a f.seam = cut-placed mode o.seam a f.seam f.first in
    record {
      inside = o.seam;
      opens = o.first.whole;
      closes = ap (λ x. after_white x.rest) e
          ∙ (white-rest_after f.seam space w.seam w.first ∙ z.whole);
      field = ap (λ x. x.field) (sym e);
    }

pub from_cut : (mode : Mode) (inside r : Text) → after_white (cut mode inside).rest ≡ 125 ∷ r →
    IsPart (123 ∷ inside)
    (placeholder_part mode (cut mode inside).field (front is_whitespace (cut mode inside).rest))
    r
unfolding after_white
from_cut mode inside r closes =
    let x = cut mode inside in
    let w = front is_whitespace x.rest in
    let white : IsPart x.rest (run is_whitespace w) (codes "}" ++ r) =
    subst (IsPart x.rest (run is_whitespace w)) closes
    ((run-finds is_whitespace).sound x.rest) in
    (then (fixed-there (codes "{") inside)
    (then (cut-sound mode inside) (then white (last (fixed-there (codes "}") r))))).part
