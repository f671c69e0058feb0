-- Whether the arguments of a call are expressions, as far as their tokens show.
use Prim.Native.Char.{code}
use Rattle.std.specs.Prelude.{ℕ, ◌+◌, ◌-◌, ◌==◌, ◌&&◌, ◌||◌, not, Bool, true, false, List, [], ◌∷◌}
use Rattle.std.specs.Prelude.{Option, Some, None, if◌then◌else◌}
use Rattle.std.specs.List.{list_any}
use Rattle.rust_tokens.specs.declared.kinds.Kind.{Kind}
use Rattle.rust_tokens.specs.declared.kinds.Kind.TheVariants.{BinaryInt, OctalInt, DecimalInt}
use Rattle.rust_tokens.specs.declared.kinds.Kind.TheVariants.{HexadecimalInt, Float, Char, Byte}
use Rattle.rust_tokens.specs.declared.kinds.Kind.TheVariants.{Str, ByteStr, CStr, RawStr}
use Rattle.rust_tokens.specs.declared.kinds.Kind.TheVariants.{RawByteStr, RawCStr, Ident, RawIdent}
use Rattle.rust_trees.specs.Leaves.{Leaf, side}
use Rattle.rust_trees.specs.declared.sides.Delimiter.TheVariants.{Parenthesis}
use Rattle.rust_trees.specs.declared.sides.Side.{Side}
use Rattle.rust_trees.specs.declared.sides.Side.TheVariants.{Opens, Closes, Neither}
use Rattle.format_calls.specs.Marks.{is_mark_of, is_variable}
use Rattle.call_forms.specs.Keywords.{is_control, is_modifier, is_special}

abbrev pub is_literal : Kind → Bool
is_literal BinaryInt = true
is_literal OctalInt = true
is_literal DecimalInt = true
is_literal HexadecimalInt = true
is_literal Float = true
is_literal Char = true
is_literal Byte = true
is_literal Str = true
is_literal ByteStr = true
is_literal CStr = true
is_literal RawStr = true
is_literal RawByteStr = true
is_literal RawCStr = true
is_literal k = false

abbrev pub operand_of : Kind → Bool → List ℕ → Bool
operand_of RawIdent e w = true
operand_of Ident e w = not (is_control w) && (not (is_modifier w) && not (is_special w))
operand_of k e w = e && is_literal k

-- An operand: a word that is no keyword, or a literal.
abbrev pub is_operand : Leaf → Bool
is_operand x = operand_of x.kind x.is_ended x.text

abbrev pub depth_by : ℕ → Side → ℕ
depth_by d (Opens b) = d + 1
depth_by d (Closes b) = d - 1
depth_by d Neither = d

-- The number of delimiters that are open after a token.
abbrev pub depth_after : ℕ → Leaf → ℕ
depth_after d x = depth_by d (side x)

abbrev pub closes_parentheses : Side → Bool
closes_parentheses (Closes Parenthesis) = true
closes_parentheses s = false

-- An operand outside delimiters ends with this token, where so many delimiters are open before it:
-- the token is one, or closes parentheses.
abbrev pub ends_operand : ℕ → Leaf → Bool
ends_operand d x = ((d == 0) && is_operand x) || ((d == 1) && closes_parentheses (side x))

-- An operand ends with the pair of delimiters that this token closes, before which so many
-- delimiters are open.
abbrev pub ends_pair : ℕ → Option Leaf → Bool
ends_pair d None = false
ends_pair d (Some x) = (d == 0) && closes_parentheses (side x)

-- The index of the first operand outside delimiters that stands right after another one, where one
-- stands before these tokens or not, and k tokens do.
abbrev pub next_operand : Bool → ℕ → ℕ → List Leaf → Option ℕ
next_operand b d k [] = None
next_operand b d k (x ∷ xs) = if b && is_operand x then Some k else
    next_operand (ends_operand d x) (depth_after d x) (k + 1) xs

-- A variable of a macro stands among the tokens.
abbrev pub has_variable : List Leaf → Bool
has_variable xs = list_any is_variable xs

-- The index of the first operand of an argument that stands right after another one.
abbrev pub joined_operand : List Leaf → Option ℕ
joined_operand xs = if has_variable xs then None else next_operand false 0 0 xs

-- A token of a path or of the access to a field.
abbrev pub is_path : Leaf → Bool
is_path x = is_operand x || (is_mark_of (code ".") (Some x) || is_mark_of (code ":") (Some x))
