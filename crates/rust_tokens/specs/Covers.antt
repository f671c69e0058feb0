-- Tokens without gaps between them.
use Rattle.std.specs.Prelude.{◌≡◌, ◌<◌, ◌≤◌, ℕ, List, [], ◌∷◌}
use Rattle.rust_tokens.specs.declared.kinds.Token.{Token}

-- The tokens cover the bytes between two offsets: each starts where the one before ends, and none
-- is empty. A suffix stands after some byte of its token.
abbrev pub Covers : ℕ → List Token → ℕ → Type 0
Covers start [] end = start ≡ end
Covers start (x ∷ xs) end = (x.span.start ≡ start) × (start < x.suffix_start)
    × (x.suffix_start ≤ x.span.end) × Covers x.span.end xs end
