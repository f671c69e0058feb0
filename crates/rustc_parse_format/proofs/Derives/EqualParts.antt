-- The derived `==` of the enums, of a position and of a count returns true exactly if a contract
-- sees the same of both.
use Rattle.std.proofs.Common.{◌≡◌, ◌↔◌, IsTrue, refl, ap, rules}
use Rattle.std.specs.Prelude.{chars}
use Rattle.rustc_parse_format.specs.KnownTexts.{IsTextInCount, IsTextInPosition}
use Rattle.rustc_parse_format.specs.Types.{Count, Implicit, Index, Named, Is, Name, Param, Star}
use Rattle.rustc_parse_format.specs.Views.{pair, seen_alignment, seen_sign, seen_debug_hex}
use Rattle.rustc_parse_format.specs.Views.{seen_position, seen_count}
use Rattle.rustc_parse_format.specs.declared.types.Count.{Count as DeclaredCount}
use Rattle.rustc_parse_format.specs.declared.types.Count.TheVariants.{CountIs, CountIsName}
use Rattle.rustc_parse_format.specs.declared.types.Count.TheVariants.{CountIsParam, CountIsStar}
use Rattle.rustc_parse_format.specs.declared.types.Count.TheVariants.{CountImplied}
use Rattle.rustc_parse_format.specs.declared.types.Position.{Position as DeclaredPosition}
use Rattle.rustc_parse_format.specs.declared.types.Position.TheVariants.{ArgumentImplicitlyIs}
use Rattle.rustc_parse_format.specs.declared.types.Position.TheVariants.{ArgumentIs, ArgumentNamed}
use Rattle.rustc_parse_format.specs.declared.types.Alignment.{Alignment as DeclaredAlignment}
use Rattle.rustc_parse_format.specs.declared.types.Sign.{Sign as DeclaredSign}
use Rattle.rustc_parse_format.specs.declared.types.DebugHex.{DebugHex as DeclaredDebugHex}
use Rattle.rustc_parse_format.specs.contracts.types.AlignmentPartialEq.TheImpl as alignment_eq
use Rattle.rustc_parse_format.specs.contracts.types.SignPartialEq.TheImpl as sign_eq
use Rattle.rustc_parse_format.specs.contracts.types.DebugHexPartialEq.TheImpl as debug_hex_eq
use Rattle.rustc_parse_format.specs.contracts.types.PositionPartialEq.TheImpl as position_eq
use Rattle.rustc_parse_format.specs.contracts.types.CountPartialEq.TheImpl as count_eq
use Rattle.rustc_parse_format.specs.World.{Place}
use Rattle.rustc_parse_format.proofs.Derives.Equality.{both_same, differ, number_same, range_same}
use Rattle.rustc_parse_format.proofs.Derives.Equality.{same_along, text_same}

pub alignment_same : (a b : DeclaredAlignment) → IsTrue (alignment_eq.ghosts.eq a b)
    ↔ seen_alignment a ≡ seen_alignment b
alignment_same a b = search rules

pub sign_same : (a b : DeclaredSign) → IsTrue (sign_eq.ghosts.eq a b) ↔ seen_sign a ≡ seen_sign b
sign_same a b = search rules

pub debug_hex_same : (a b : DeclaredDebugHex) → IsTrue (debug_hex_eq.ghosts.eq a b)
    ↔ seen_debug_hex a ≡ seen_debug_hex b
debug_hex_same a b = search rules

pub position_same : (a b : DeclaredPosition) → IsTextInPosition a → IsTextInPosition b
    → IsTrue (position_eq.ghosts.eq a b) ↔ seen_position a ≡ seen_position b
position_same (ArgumentImplicitlyIs n) (ArgumentImplicitlyIs m) u v =
    same_along (ap (λ z. Implicit z)) (λ (h : Implicit n ≡ Implicit m). cc) (number_same n m)
position_same (ArgumentImplicitlyIs n) (ArgumentIs m) u v = differ (λ h. cc)
position_same (ArgumentImplicitlyIs n) (ArgumentNamed x) u v = differ (λ h. cc)
position_same (ArgumentIs n) (ArgumentIs m) u v =
    same_along (ap (λ z. Index z)) (λ (h : Index n ≡ Index m). cc) (number_same n m)
position_same (ArgumentIs n) (ArgumentImplicitlyIs m) u v = differ (λ h. cc)
position_same (ArgumentIs n) (ArgumentNamed x) u v = differ (λ h. cc)
position_same (ArgumentNamed w) (ArgumentNamed x) u v =
    same_along (ap (λ z. Named z)) (λ (h : Named (chars w.now) ≡ Named (chars x.now)). cc)
    (text_same w.now x.now u v)
position_same (ArgumentNamed w) (ArgumentIs m) u v = differ (λ h. cc)
position_same (ArgumentNamed w) (ArgumentImplicitlyIs m) u v = differ (λ h. cc)

pub count_same : (a b : DeclaredCount) → IsTextInCount a → IsTextInCount b
    → IsTrue (count_eq.ghosts.eq a b) ↔ seen_count a ≡ seen_count b
count_same (CountIs n) (CountIs m) u v =
    same_along (ap (λ z. Is z)) (λ (h : Is n ≡ Is m). cc) (number_same n m)
count_same (CountIsParam n) (CountIsParam m) u v =
    same_along (ap (λ z. Param z)) (λ (h : Param n ≡ Param m). cc) (number_same n m)
count_same (CountIsStar n) (CountIsStar m) u v =
    same_along (ap (λ z. Star z)) (λ (h : Star n ≡ Star m). cc) (number_same n m)
count_same CountImplied CountImplied u v = (λ _. refl, λ _. refl)
count_same (CountIsName w p) (CountIsName x q) u v =
    same_along (λ e. λ i. Name (e.0 i) (e.1 i))
    (λ (h : ◌≡◌ {A = Count Place} (Name (chars w.now) (pair p)) (Name (chars x.now) (pair q))).
    (cc, cc))
    (both_same _ _ (text_same w.now x.now u v) (range_same p q))
count_same _ _ u v = differ (λ h. cc)
