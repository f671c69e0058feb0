-- A text is a literal in at most one way.
use Rattle.std.proofs.Common.{ℕ, Option, Some, None, subst}
use Rattle.rustc_parse_format.specs.Characters.{Text}
use Rattle.rustc_parse_format.specs.Literal.{IsLiteral}
use Rattle.piece_listing.proofs.OneLiteral.{literal-only}
use Rattle.format_literal.specs.Spelling.{IsWritten}

pub literal-of : (style : Option ℕ) (l t : Text) → IsWritten style l t → IsLiteral style l t
literal-of None l t h = h
literal-of (Some n) l t h = h.0

-- If a literal cannot stand in a program for the text that it stands for, it can for no other.
pub no-other : (s : Option ℕ) (l w : Text) → IsLiteral s l w → (IsWritten s l w → ⊥)
    → (style : Option ℕ) (t : Text) → IsWritten style l t → ⊥
no-other s l w f n style t h =
    let same = literal-only style s l t w (literal-of style l t h) f in
    n (subst (λ x. IsWritten x l w) same.0 (subst (λ x. IsWritten style l x) same.1 h))
