-- The derived `==` of a specification, of a placeholder and of a piece returns true exactly if a
-- contract sees the same of both.
use Rattle.std.proofs.Common.{◌≡◌, ◌↔◌, IsTrue, ap}
use Rattle.std.specs.Prelude.{chars, option_map}
use Rattle.rustc_parse_format.specs.KnownTexts.{IsTextInArgument, IsTextInPiece, IsTextInSpec}
use Rattle.rustc_parse_format.specs.Types.{Argument, Lit, NextArgument, Piece, Spec}
use Rattle.rustc_parse_format.specs.Views.{pair, seen_piece, seen_alignment, seen_argument}
use Rattle.rustc_parse_format.specs.Views.{seen_count}
use Rattle.rustc_parse_format.specs.Views.{seen_debug_hex, seen_sign, seen_spec}
use Rattle.rustc_parse_format.specs.World.{Place}
use Rattle.rustc_parse_format.specs.declared.types.Argument.{Argument as DeclaredArgument}
use Rattle.rustc_parse_format.specs.declared.types.FormatSpec.{FormatSpec}
use Rattle.rustc_parse_format.specs.declared.types.Piece.{Piece as DeclaredPiece}
use Rattle.rustc_parse_format.specs.declared.types.Piece.TheVariants.{Lit as LitPiece}
use Rattle.rustc_parse_format.specs.declared.types.Piece.TheVariants.{NextArgument as ArgumentPiece}
use Rattle.rustc_parse_format.specs.contracts.types.ArgumentPartialEq.TheImpl as argument_eq
use Rattle.rustc_parse_format.specs.contracts.types.FormatSpecPartialEq.TheImpl as spec_eq
use Rattle.rustc_parse_format.specs.contracts.types.PiecePartialEq.TheImpl as piece_eq
use Rattle.rustc_parse_format.proofs.Derives.Equality.{both, both_same, differ, flag_same}
use Rattle.rustc_parse_format.proofs.Derives.Equality.{number_same, option_same, plain_option_same}
use Rattle.rustc_parse_format.proofs.Derives.Equality.{range_same, same_along}
use Rattle.rustc_parse_format.proofs.Derives.Equality.{text_same}
use Rattle.rustc_parse_format.proofs.Derives.EqualParts.{alignment_same, count_same, debug_hex_same}
use Rattle.rustc_parse_format.proofs.Derives.EqualParts.{position_same, sign_same}

-- from a fact about each field, in the order in which `==` compares them
spec_of_fields : (a b : FormatSpec)
    → (a.fill ≡ b.fill) × ((option_map pair a.fill_span ≡ option_map pair b.fill_span)
    × ((seen_alignment a.align ≡ seen_alignment b.align)
    × ((option_map seen_sign a.sign ≡ option_map seen_sign b.sign)
    × ((a.alternate ≡ b.alternate) × ((a.zero_pad ≡ b.zero_pad)
    × ((option_map seen_debug_hex a.debug_hex ≡ option_map seen_debug_hex b.debug_hex)
    × ((seen_count a.precision ≡ seen_count b.precision)
    × ((option_map pair a.precision_span ≡ option_map pair b.precision_span)
    × ((seen_count a.width ≡ seen_count b.width)
    × ((option_map pair a.width_span ≡ option_map pair b.width_span)
    × ((chars a.ty.now ≡ chars b.ty.now)
    × (option_map pair a.ty_span ≡ option_map pair b.ty_span))))))))))))
    → seen_spec a ≡ seen_spec b
spec_of_fields a b e = λ i. record {
  fill = e.0 i;
  fill_span = e.1.0 i;
  align = e.1.1.0 i;
  sign = e.1.1.1.0 i;
  alternate = e.1.1.1.1.0 i;
  zero_pad = e.1.1.1.1.1.0 i;
  debug_hex = e.1.1.1.1.1.1.0 i;
  precision = e.1.1.1.1.1.1.1.0 i;
  precision_span = e.1.1.1.1.1.1.1.1.0 i;
  width = e.1.1.1.1.1.1.1.1.1.0 i;
  width_span = e.1.1.1.1.1.1.1.1.1.1.0 i;
  ty = e.1.1.1.1.1.1.1.1.1.1.1.0 i;
  ty_span = e.1.1.1.1.1.1.1.1.1.1.1.1 i;
}

pub spec_same : (a b : FormatSpec) → IsTextInSpec a → IsTextInSpec b
    → IsTrue (spec_eq.ghosts.eq a b) ↔ seen_spec a ≡ seen_spec b
spec_same a b u v = same_along (spec_of_fields a b) (λ (h : seen_spec a ≡ seen_spec b).
    both (ap (λ (s : Spec Place). s.fill) h) (both (ap (λ (s : Spec Place). s.fill_span) h)
    (both (ap (λ (s : Spec Place). s.align) h) (both (ap (λ (s : Spec Place). s.sign) h)
    (both (ap (λ (s : Spec Place). s.alternate) h) (both (ap (λ (s : Spec Place). s.zero_pad) h)
    (both (ap (λ (s : Spec Place). s.debug_hex) h)
    (both (ap (λ (s : Spec Place). s.precision) h)
    (both (ap (λ (s : Spec Place). s.precision_span) h)
    (both (ap (λ (s : Spec Place). s.width) h) (both (ap (λ (s : Spec Place). s.width_span) h)
    (both (ap (λ (s : Spec Place). s.ty) h) (ap (λ (s : Spec Place). s.ty_span) h)))))))))))))
    (both_same _ _ (plain_option_same _ number_same a.fill b.fill)
    (both_same _ _ (option_same _ pair range_same a.fill_span b.fill_span)
    (both_same _ _ (alignment_same a.align b.align)
    (both_same _ _ (option_same _ seen_sign sign_same a.sign b.sign)
    (both_same _ _ (flag_same a.alternate b.alternate)
    (both_same _ _ (flag_same a.zero_pad b.zero_pad)
    (both_same _ _ (option_same _ seen_debug_hex debug_hex_same a.debug_hex b.debug_hex)
    (both_same _ _ (count_same a.precision b.precision u.precision v.precision)
    (both_same _ _ (option_same _ pair range_same a.precision_span b.precision_span)
    (both_same _ _ (count_same a.width b.width u.width v.width)
    (both_same _ _ (option_same _ pair range_same a.width_span b.width_span)
    (both_same _ _ (text_same a.ty.now b.ty.now u.ty v.ty)
    (option_same _ pair range_same a.ty_span b.ty_span)))))))))))))

pub argument_same : (a b : DeclaredArgument) → IsTextInArgument a → IsTextInArgument b
    → IsTrue (argument_eq.ghosts.eq a b) ↔ seen_argument a ≡ seen_argument b
argument_same a b u v =
    same_along (λ e. λ i. record { position = e.0 i; position_span = e.1.0 i; format = e.1.1 i })
    (λ (h : seen_argument a ≡ seen_argument b). both (ap (λ (s : Argument Place). s.position) h)
    (both (ap (λ (s : Argument Place). s.position_span) h)
    (ap (λ (s : Argument Place). s.format) h)))
    (both_same _ _ (position_same a.position b.position u.position v.position)
    (both_same _ _ (range_same a.position_span b.position_span)
    (spec_same a.format b.format u.format v.format)))

pub piece_same : (a b : DeclaredPiece) → IsTextInPiece a → IsTextInPiece b
    → IsTrue (piece_eq.ghosts.eq a b) ↔ seen_piece a ≡ seen_piece b
piece_same (LitPiece s) (LitPiece t) u v =
    same_along (ap (λ z. Lit z))
    (λ (h : ◌≡◌ {A = Piece Place} (Lit (chars s.now)) (Lit (chars t.now))). cc)
    (text_same s.now t.now u v)
piece_same (ArgumentPiece s) (ArgumentPiece t) u v =
    same_along (ap (λ z. NextArgument z))
    (λ (h : ◌≡◌ {A = Piece Place} (NextArgument (seen_argument s.value))
    (NextArgument (seen_argument t.value))). cc)
    (argument_same s.value t.value u v)
piece_same _ _ u v = differ (λ h. cc)
