-- The last of a list of lines, by its index.
use Rattle.std.proofs.Common.{◌≡◌, ℕ, suc, zero, ◌-◌, ◌==◌, ◌&&◌, Bool, List, [], ◌∷◌, length, map}
use Rattle.std.proofs.Common.{Option, Some, unwrap_or, ap, arith}
use Rattle.std.specs.List.{slice_get}
use Rattle.std.proofs.lemmas.Option.{slice_get_within}
use Rattle.std.specs.declared.ops.Range.{Range}
use Rattle.rustc_parse_format.specs.Lines.{ends_with}
use Rattle.rustc_parse_format.specs.Views.{pair}
use Rattle.rustc_parse_format.specs.World.{Place}

-- two lines start and end together
abbrev pub is_line : Place → Place → Bool
is_line line l = (l.0 == line.0) && (l.1 == line.1)

ends_with-at : (line : Place) (rs : List (Range ℕ)) (n : ℕ) (r : Range ℕ) → suc n ≡ length rs
    → slice_get rs n ≡ Some r →
    ends_with line (map pair rs) ≡ is_line line (pair r)
ends_with-at line [] n r h e = absurd (omega (arith, h))
ends_with-at line (x ∷ []) zero r h e =
    ap (λ (o : Option (Range ℕ)). is_line line (pair (unwrap_or o r))) e
ends_with-at line (x ∷ []) (suc n) r h e = absurd (omega (arith, h))
ends_with-at line (x ∷ y ∷ rs) zero r h e = absurd (omega (arith, h))
ends_with-at line (x ∷ y ∷ rs) (suc n) r h e = ends_with-at line (y ∷ rs) n r (omega (arith, h)) e

pub ends_with-found : (line : Place) (rs : List (Range ℕ)) (r : Range ℕ)
    → slice_get rs (length rs - 1) ≡ Some r →
    ends_with line (map pair rs) ≡ is_line line (pair r)
ends_with-found line rs r e =
    let within = slice_get_within rs (length rs - 1) r e in
    ends_with-at line rs (length rs - 1) r (omega (arith, within)) e
