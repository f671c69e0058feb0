-- Operators of one to three characters, and arguments in which one lacks an operand.
use Prim.Native.Char.{code}
use Rattle.std.specs.Prelude.{ℕ, Bool, true, false, ◌&&◌, ◌||◌, ◌==◌, ◌+◌, ◌-◌, not}
use Rattle.std.specs.Prelude.{List, [], Option, Some, None, codes, length, nat_lt, slice_get}
use Rattle.std.specs.Prelude.{take, if◌then◌else◌}
use Rattle.std.specs.List.{list_any}
use Rattle.std.specs.Str.{bytes_eq}
use Rattle.rust_trees.specs.Leaves.{Leaf, leaf, side}
use Rattle.rust_trees.specs.Sides.{is_punct}
use Rattle.rust_trees.specs.declared.sides.Side.{Side}
use Rattle.rust_trees.specs.declared.sides.Side.TheVariants.{Opens, Closes, Neither}
use Rattle.format_calls.specs.Marks.{is_mark_of}
use Rattle.format_calls.specs.Modes.{is_joint, is_text}
use Rattle.call_forms.specs.Expressions.{is_operand}
use Rattle.call_forms.specs.Keywords.{is_special}
use Rattle.call_forms.specs.declared.operators.Operator.{Operator as DeclaredOperator}

-- A character that makes an operator with another one of its kind.
abbrev pub doubles : Leaf → Bool
doubles x = is_mark_of (code "&") (Some x) || (is_mark_of (code "|") (Some x)
    || (is_mark_of (code "<") (Some x) || (is_mark_of (code ">") (Some x)
    || (is_mark_of (code ".") (Some x) || is_mark_of (code ":") (Some x)))))

-- A character that stands between operands, or makes an operator that does with `=` after it.
abbrev pub takes_equals : Leaf → Bool
takes_equals x = is_mark_of (code "=") (Some x) || (is_mark_of (code "!") (Some x)
    || (is_mark_of (code "<") (Some x) || (is_mark_of (code ">") (Some x)
    || (is_mark_of (code "+") (Some x) || (is_mark_of (code "-") (Some x)
    || (is_mark_of (code "*") (Some x) || (is_mark_of (code "/") (Some x)
    || (is_mark_of (code "%") (Some x) || (is_mark_of (code "^") (Some x)
    || (is_mark_of (code "&") (Some x) || is_mark_of (code "|") (Some x)))))))))))

-- The two characters are an operator, or begin one.
abbrev pub is_pair : Leaf → Leaf → Bool
is_pair x y = (takes_equals x && is_mark_of (code "=") (Some y))
    || ((is_mark_of (code "=") (Some x) && is_mark_of (code ">") (Some y))
    || ((is_mark_of (code "-") (Some x) && is_mark_of (code ">") (Some y))
    || ((is_mark_of (code "<") (Some x) && is_mark_of (code "-") (Some y))
    || (doubles x && bytes_eq x.text y.text))))

-- The two tokens are an operator, or begin one.
abbrev pub is_glued : Leaf → Leaf → Bool
is_glued x y = is_joint x y && is_pair x y

-- The third character belongs to the operator that two others of this kind begin: `<<=`, `>>=`,
-- `..=`, `...`.
abbrev pub is_third : Leaf → Leaf → Bool
is_third x z = (is_mark_of (code "=") (Some z) && (is_mark_of (code "<") (Some x)
    || (is_mark_of (code ">") (Some x) || is_mark_of (code ".") (Some x))))
    || (is_mark_of (code ".") (Some x) && is_mark_of (code ".") (Some z))

-- The third token belongs to the operator that the others begin.
abbrev pub ends_operator : Leaf → Leaf → Leaf → Bool
ends_operator x y z = is_joint y z && (bytes_eq x.text y.text && is_third x z)

-- A token as rustc has it: its first character, if it is an operator, or all of it, and the other
-- characters of the operator.
pub record Operator : Type 0 where
  pub first : List ℕ
  pub second : List ℕ
  pub third : List ℕ

abbrev pub seen_operator : DeclaredOperator → Operator
seen_operator o = record {
  first = (leaf o.first).text;
  second = o.second.now;
  third = o.third.now;
}

abbrev pub third_text : Leaf → Leaf → Option Leaf → List ℕ
third_text x y None = []
third_text x y (Some z) = if ends_operator x y z then z.text else []

abbrev pub operator_by : Leaf → Option Leaf → Option Leaf → Operator
operator_by x None o = record { first = x.text; second = []; third = [] }
operator_by x (Some y) o = if is_glued x y
    then record { first = x.text; second = y.text; third = third_text x y o }
    else record { first = x.text; second = []; third = [] }

abbrev pub operator_if : Option Leaf → Option Leaf → Option Leaf → Option Operator
operator_if None o p = None
operator_if (Some x) o p = Some (operator_by x o p)

-- The token with the index i, as rustc has it.
abbrev pub operator_at : List Leaf → ℕ → Option Operator
operator_at xs i = operator_if (slice_get xs i) (slice_get xs (i + 1)) (slice_get xs (i + 2))

-- A character with which no expression begins.
abbrev pub is_infix : Leaf → Bool
is_infix x = is_mark_of (code "=") (Some x) || (is_mark_of (code ">") (Some x)
    || (is_mark_of (code "/") (Some x) || (is_mark_of (code "%") (Some x)
    || (is_mark_of (code "^") (Some x) || (is_mark_of (code ";") (Some x)
    || (is_mark_of (code "?") (Some x) || is_mark_of (code "@") (Some x)))))))

abbrev pub begins_with : Option Leaf → Option Leaf → Bool
begins_with None o = false
begins_with (Some x) None = is_punct x.kind && is_infix x
begins_with (Some x) (Some y) = is_punct x.kind
    && (is_infix x || (is_mark_of (code "=") (Some y) && is_glued x y))

-- The tokens begin with an operator that needs an operand before it.
abbrev pub lacks_left : List Leaf → Bool
lacks_left xs = begins_with (slice_get xs 0) (slice_get xs 1)

abbrev pub is_closing : Side → Bool
is_closing (Opens d) = false
is_closing (Closes d) = true
is_closing Neither = false

abbrev pub is_operand_end : Option Leaf → Bool
is_operand_end None = false
is_operand_end (Some x) = is_operand x || (is_special x.text
    || (is_closing (side x) || is_mark_of (code "?") (Some x)))

-- An operator of one character that needs an operand after it.
abbrev pub is_single : Leaf → Bool
is_single x = is_mark_of (code "=") (Some x) || (is_mark_of (code "+") (Some x)
    || (is_mark_of (code "-") (Some x) || (is_mark_of (code "*") (Some x)
    || (is_mark_of (code "/") (Some x) || (is_mark_of (code "%") (Some x)
    || (is_mark_of (code "^") (Some x) || is_mark_of (code "&") (Some x)))))))

-- A character that is such an operator alone, and twice.
abbrev pub is_either : Leaf → Bool
is_either x = is_mark_of (code "|") (Some x)
    || (is_mark_of (code "<") (Some x) || is_mark_of (code ">") (Some x))

-- Such an operator of two characters.
abbrev pub is_double : Leaf → Leaf → Bool
is_double x y = is_mark_of (code "=") (Some y)
    || ((is_mark_of (code "&") (Some y) || is_either y) && bytes_eq x.text y.text)

-- An operator with which an expression begins.
abbrev pub is_prefix : Leaf → Bool
is_prefix x = is_mark_of (code "*") (Some x) || (is_mark_of (code "&") (Some x)
    || (is_mark_of (code "-") (Some x) || is_mark_of (code "!") (Some x)))

-- The last character of an operator that needs an operand after it.
abbrev pub is_end : Leaf → Bool
is_end x = is_punct x.kind
    && (is_single x || (is_either x || is_mark_of (code "!") (Some x)))

-- The number of characters of an operator after an operand that ends with the last of three
-- tokens, or 0.
abbrev pub operator_len : Option Leaf → Option Leaf → Leaf → ℕ
operator_len o None z = 0
operator_len o (Some y) z =
    if is_glued y z then (if is_double y z && is_operand_end o then 2 else 0)
    else (if (is_single z || is_either z) && is_operand_end (Some y) then 1 else 0)

-- After a closure, a pattern or a type rustc says more, or reads the operator as another one.
abbrev pub is_unclear : Leaf → Bool
is_unclear x = is_mark_of (code "|") (Some x) || (is_mark_of (code "<") (Some x)
    || (is_text x (codes "as") || is_text x (codes "let")))

abbrev pub ends_by : List Leaf → ℕ → Bool
ends_by xs n = nat_lt 0 n && not (list_any is_unclear (take (length xs - n) xs))

abbrev pub lacks_after : List Leaf → Option Leaf → Bool
lacks_after xs None = false
lacks_after xs (Some z) = is_end z && (if length xs == 1 then is_prefix z else ends_by xs
    (operator_len (slice_get xs (length xs - 3)) (slice_get xs (length xs - 2)) z))

-- The tokens end with an operator that needs an operand after it.
abbrev pub lacks_right : List Leaf → Bool
lacks_right xs = lacks_after xs (slice_get xs (length xs - 1))

-- The tokens are no expression, since an operator lacks an operand.
abbrev pub lacks_operand : List Leaf → Bool
lacks_operand xs = lacks_left xs || lacks_right xs
