-- The tokens of a file that are no white space and no comment.
use Rattle.std.specs.Prelude.{ℕ, Bool, true, false, not, List, [], ◌∷◌, ◌++◌, if◌then◌else◌}
use Rattle.std.specs.Prelude.{◌≡◌, ◌-◌, chars, encode_utf8_all, length}
use Rattle.rust_tokens.specs.declared.kinds.Kind.{Kind}
use Rattle.rust_tokens.specs.declared.kinds.Kind.TheVariants.{Whitespace, LineComment, OuterLineDoc}
use Rattle.rust_tokens.specs.declared.kinds.Kind.TheVariants.{InnerLineDoc, BlockComment}
use Rattle.rust_tokens.specs.declared.kinds.Kind.TheVariants.{OuterBlockDoc, InnerBlockDoc}
use Rattle.rust_tokens.specs.declared.kinds.Kind.TheVariants.{Shebang, ByteOrderMark}
use Rattle.rust_tokens.specs.Texts.{Text}
use Rattle.rust_tokens.specs.Tokens.{Lexeme, Reads}
use Rattle.rust_tokens.specs.Spans.{end_of}
use Rattle.rust_trees.specs.declared.sides.Side.{Side}
use Rattle.rust_trees.specs.declared.leaves.Token.{Token}
use Rattle.rust_trees.specs.Sides.{side_of}

-- A token: its text in bytes, and the byte offset where it starts.
pub record Leaf : Type 0 where
  pub kind : Kind
  pub is_ended : Bool
  pub has_suffix : Bool
  pub text : List ℕ
  pub start : ℕ

-- A token as a contract sees it.
abbrev pub leaf : Token → Leaf
leaf t = record {
  kind = t.kind;
  is_ended = t.is_ended;
  has_suffix = t.has_suffix;
  text = t.text.now;
  start = t.start;
}

-- The side of a token among pairs of delimiters.
abbrev pub side : Leaf → Side
side x = side_of x.kind x.text

-- The token is kept: it is no white space, and a comment only if it lacks its end.
abbrev pub is_leaf : Kind → Bool → Bool
is_leaf Whitespace e = false
is_leaf LineComment e = false
is_leaf OuterLineDoc e = false
is_leaf InnerLineDoc e = false
is_leaf BlockComment e = not e
is_leaf OuterBlockDoc e = not e
is_leaf InnerBlockDoc e = not e
is_leaf Shebang e = false
is_leaf ByteOrderMark e = false
is_leaf k e = true

-- The text is not empty.
abbrev pub is_some_text : Text → Bool
is_some_text [] = false
is_some_text (c ∷ t) = true

-- The token that begins at this byte offset.
abbrev pub leaf_at : ℕ → Lexeme → Leaf
leaf_at at x = record {
  kind = x.kind;
  is_ended = x.is_ended;
  has_suffix = is_some_text x.suffix;
  text = encode_utf8_all (x.body ++ x.suffix);
  start = at;
}

-- The tokens that are kept of these, of which the first begins at this byte offset.
abbrev pub leaves : ℕ → List Lexeme → List Leaf
leaves at [] = []
leaves at (x ∷ xs) = if is_leaf x.kind x.is_ended then leaf_at at x ∷ leaves (end_of at x) xs
    else leaves (end_of at x) xs

-- A file that is read, and the rest of it, both in bytes.
pub record Remainder : Type 0 where
  pub whole : List ℕ
  pub rest : List ℕ

-- These are the tokens of the rest of a file.
abbrev pub AreLeft : Remainder → List Leaf → Type 0
AreLeft u ls = (xs : List Lexeme) × Reads (chars u.rest) xs
    × (ls ≡ leaves (length u.whole - length u.rest) xs)
