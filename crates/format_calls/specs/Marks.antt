-- Tokens by their index.
use Prim.Native.Char.{code}
use Rattle.std.specs.Prelude.{ℕ, zero, suc, Bool, true, false, ◌&&◌, ◌||◌, ◌==◌, List, Option}
use Rattle.std.specs.Prelude.{Some, None, nat_lt}
use Rattle.std.specs.Prelude.{slice_get, length, drop, if◌then◌else◌}
use Rattle.rust_tokens.specs.declared.kinds.Kind.{Kind}
use Rattle.rust_tokens.specs.declared.kinds.Kind.TheVariants.{Ident, RawIdent}
use Rattle.rust_trees.specs.Sides.{is_punct}
use Rattle.rust_trees.specs.Leaves.{Leaf}

-- There is a byte, and it is this one.
abbrev pub is_byte : ℕ → Option ℕ → Bool
is_byte m None = false
is_byte m (Some c) = c == m

-- There is a token, and it is this character of punctuation.
abbrev pub is_mark_of : ℕ → Option Leaf → Bool
is_mark_of m None = false
is_mark_of m (Some x) = is_punct x.kind && is_byte m (slice_get x.text 0)

-- The token i is this character of punctuation.
abbrev pub is_mark : ℕ → List Leaf → ℕ → Bool
is_mark m xs i = is_mark_of m (slice_get xs i)

abbrev pub is_raw : Kind → Bool
is_raw RawIdent = true
is_raw k = false

abbrev pub is_ident : Kind → Bool
is_ident Ident = true
is_ident RawIdent = true
is_ident k = false

-- The token is a word or a raw word.
abbrev pub is_word : Leaf → Bool
is_word x = is_ident x.kind

-- A word without the `r#` of a raw one.
abbrev pub word : Leaf → List ℕ
word x = if is_raw x.kind && nat_lt 2 (length x.text) then drop 2 x.text else x.text

-- The token before the token i is this character of punctuation.
abbrev pub is_after : ℕ → List Leaf → ℕ → Bool
is_after m xs zero = false
is_after m xs (suc i) = is_mark m xs i

-- The token begins a variable of a macro: it is `$`, or `#` as in `quote!`.
abbrev pub is_variable : Leaf → Bool
is_variable x = is_mark_of (code "$") (Some x) || is_mark_of (code "#") (Some x)
