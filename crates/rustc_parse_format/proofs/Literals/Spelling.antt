-- A content spells a text exactly if it has units that stand for the text.
use Rattle.std.proofs.Common.{◌≡◌, true, List, refl, sym, ap, ◌∙◌, Option, Some, None}
use Rattle.std.proofs.lemmas.Bool.{false≢true}
use Rattle.std.proofs.lemmas.Slice.Eq.{bytes_eq-Decides}
use Rattle.rustc_parse_format.specs.Characters.{Text}
use Rattle.rustc_parse_format.specs.LiteralUnits.{LiteralUnit}
use Rattle.rustc_parse_format.specs.Literal.{IsContent, content_value, units}
use Rattle.rustc_parse_format.specs.Source.{spells, stand_for}
use Rattle.rustc_parse_format.proofs.Literals.Contents.{units-content, units-complete}

pub spells-parts : (q t : Text) → spells q t ≡ true → (us : List LiteralUnit) × IsContent q us
    × (content_value us ≡ t)
unfolding spells
spells-parts q t e = by_units (units q) refl e
  where
    by_units : (o : Option (List LiteralUnit)) → units q ≡ o → stand_for o t ≡ true →
        (us : List LiteralUnit) × IsContent q us × (content_value us ≡ t)
    by_units None f e = absurd (false≢true e)
    by_units (Some us) f e =
        (us, units-content q us f, sym ((bytes_eq-Decides t (content_value us)).0 e))

pub spells-from : (q t : Text) (us : List LiteralUnit) → IsContent q us → content_value us ≡ t
    → spells q t ≡ true
unfolding spells
spells-from q t us h v = ap (λ o. stand_for o t) (units-complete q us h)
    ∙ (bytes_eq-Decides t (content_value us)).1 (sym v)
