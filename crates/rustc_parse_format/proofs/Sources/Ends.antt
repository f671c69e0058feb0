-- Where the text of a source literal ends.
use Rattle.std.proofs.Common.{◌≡◌, ◌++◌, ◌-◌, ◌+◌, ◌≤◌, ℕ, suc, List, [], ◌∷◌, refl, sym, ap, ◌∙◌}
use Rattle.std.proofs.Common.{zero, arith, Option, Some, None, MatchOption, length}
use Rattle.std.proofs.Common.{replicate}
use Rattle.std.proofs.Common.{chars, IsUtf8}
use Rattle.std.specs.Prelude.{unwrap_or}
use Rattle.std.proofs.lemmas.List.{append_cancel_right}
use Rattle.std.proofs.lemmas.Option.{none-some}
use Rattle.rustc_parse_format.specs.Characters.{Text, byte_length}
use Rattle.rustc_parse_format.specs.LiteralUnits.{LiteralUnit}
use Rattle.rustc_parse_format.specs.Literal.{IsContent, IsLiteral, units, ordinary_frame, raw_frame}
use Rattle.rustc_parse_format.specs.Literal.{raw_closing, raw_opening}
use Rattle.rustc_parse_format.specs.Source.{text_between}
use Rattle.rustc_parse_format.specs.World.{ordinary_end}
use Rattle.rustc_parse_format.specs.LiteralReading.{spelled_end}
use Rattle.rustc_parse_format.specs.Source.{units_between}
use Rattle.rustc_parse_format.specs.World.{literal_end}
use Rattle.rustc_parse_format.proofs.Literals.Contents.{units-complete, units-content}
use Rattle.rustc_parse_format.proofs.Literals.Ends.{end-parts, end-from}
use Rattle.rustc_parse_format.proofs.Literals.Widths.{width-append, width-cons, width-chars}
use Rattle.rustc_parse_format.proofs.Sources.Decided.{between-frame}

-- the units of what stands in quotes
units_between-frame : (s q : Text) (us : List LiteralUnit) → s ≡ ordinary_frame q
    → units q ≡ Some us → units_between s ≡ us
units_between-frame s q us f h = ap (λ t. unwrap_or (units t) []) (ap text_between f
    ∙ between-frame q)
    ∙ ap (λ o. unwrap_or o []) h

pub frame-units : (s q : Text) (us : List LiteralUnit) → s ≡ ordinary_frame q → IsContent q us
    → units_between s ≡ us
frame-units s q us f h = units_between-frame s q us f (units-complete q us h)

same_content : (s p q : Text) → s ≡ ordinary_frame p → s ≡ ordinary_frame q → p ≡ q
same_content s p q f g =
    let both : 34 ∷ (p ++ 34 ∷ []) ≡ 34 ∷ (q ++ 34 ∷ []) = sym f ∙ g in
    let rest_after : p ++ 34 ∷ [] ≡ q ++ 34 ∷ [] = cc in
    append_cancel_right p q (34 ∷ []) rest_after

-- the knowledge of a literal: it is none, or one whose text ends there
abbrev pub Ends : Option ℕ → Text → Text → Option ℕ → Type 0
Ends style s t o = MatchOption o (IsLiteral style s t → ⊥)
    (λ e. IsLiteral style s t × (e ≡ literal_end style s))

pub ordinary-ends : (s q t : Text) → s ≡ ordinary_frame q → (o : Option ℕ) → o ≡ spelled_end 1 1 q t
    → Ends None s t o
ordinary-ends s q t f None g =
    λ l. let same : l.0 ≡ q = same_content s l.0 q l.2 f in
    none-some _ (g ∙ end-from 1 1 q t l.1 (ap units (sym same) ∙ units-complete l.0 l.1 l.3) l.4)
ordinary-ends s q t f (Some e) g =
    let parts = end-parts 1 1 e q t (sym g) in (
      (q, parts.0, f, units-content q parts.0 parts.1, parts.2),
      parts.3 ∙ ap ordinary_end (sym (units_between-frame s q parts.0 f parts.1)),
    )

width-hashes : (n : ℕ) → byte_length (replicate n 35) ≡ n
width-hashes zero = refl
width-hashes (suc n) = omega (arith, width-cons 35 (replicate n 35), width-hashes n)

-- a raw literal has room for the quote and the hashes at its end
pub raw-room : (n : ℕ) (bs : List ℕ) (t : Text) → IsUtf8 bs → chars bs ≡ raw_frame n t
    → n + 1 ≤ length bs
raw-room n bs t u e = omega (
  arith,
  width-chars bs u,
  ap byte_length e,
  width-append (raw_opening n ++ t) (raw_closing n),
  width-cons 34 (replicate n 35),
  width-hashes n,
)

pub raw-ends : (n : ℕ) (bs : List ℕ) (t : Text) → IsUtf8 bs → chars bs ≡ raw_frame n t
    → Ends (Some n) (chars bs) t (Some (length bs - n - 1))
raw-ends n bs t u e = (e, omega (arith, width-chars bs u))
