-- The side of a token in a pair of delimiters. The public rule is in the Rust Reference,
-- delimiters: DELIMITERS : `{` | `}` | `[` | `]` | `(` | `)`.
use Prim.Native.Char.{code}
use Rattle.std.specs.Prelude.{ℕ, Bool, true, false, ◌==◌, List, slice_index, if◌then◌else◌}
use Rattle.rust_tokens.specs.declared.kinds.Kind.{Kind}
use Rattle.rust_tokens.specs.declared.kinds.Kind.TheVariants.{Punct}
use Rattle.rust_trees.specs.declared.sides.Delimiter.{Delimiter}
use Rattle.rust_trees.specs.declared.sides.Delimiter.TheVariants.{Parenthesis, Bracket, Brace}
use Rattle.rust_trees.specs.declared.sides.Side.{Side}
use Rattle.rust_trees.specs.declared.sides.Side.TheVariants.{Opens, Closes, Neither}

-- A delimiter is one character of punctuation.
abbrev pub is_punct : Kind → Bool
is_punct Punct = true
is_punct k = false

-- The side of a token of punctuation, by its character.
abbrev pub side_of_mark : ℕ → Side
side_of_mark c =
    if c == code "(" then Opens Parenthesis else
    (if c == code ")" then Closes Parenthesis else
    (if c == code "[" then Opens Bracket else
    (if c == code "]" then Closes Bracket else
    (if c == code "{" then Opens Brace else
    (if c == code "}" then Closes Brace else Neither)))))

-- The side of a token of this kind with this text, in bytes.
abbrev pub side_of : Kind → List ℕ → Side
side_of k t = if is_punct k then side_of_mark (slice_index t 0) else Neither

-- Two delimiters are of one kind.
abbrev pub is_same : Delimiter → Delimiter → Bool
is_same Parenthesis Parenthesis = true
is_same Bracket Bracket = true
is_same Brace Brace = true
is_same d e = false

-- A delimiter that opens a pair.
abbrev pub is_opening : Side → Bool
is_opening (Opens d) = true
is_opening (Closes d) = false
is_opening Neither = false
