-- The commas that end an argument. Those of a list in angles and of the parameters of a closure end
-- none: `f::<A, B>()`, `<A as B<C, D>>::f()`, `x as A<B, C>`, `move |a, b| a + b`.
use Prim.Native.Char.{code}
use Rattle.std.specs.Prelude.{ℕ, Bool, true, false, not, ◌&&◌, ◌||◌, ◌==◌, ◌+◌, ◌-◌}
use Rattle.std.specs.Prelude.{List}
use Rattle.std.specs.Prelude.{Option, Some, None, nat_le, nat_lt, slice_get, length, codes}
use Rattle.std.specs.Prelude.{if◌then◌else◌}
use Rattle.std.specs.Str.{bytes_eq}
use Rattle.rust_tokens.specs.declared.kinds.Kind.{Kind}
use Rattle.rust_tokens.specs.declared.kinds.Kind.TheVariants.{Ident, Lifetime}
use Rattle.rust_trees.specs.Leaves.{Leaf, side}
use Rattle.rust_trees.specs.Sides.{is_punct}
use Rattle.rust_trees.specs.declared.sides.Side.{Side}
use Rattle.rust_trees.specs.declared.sides.Side.TheVariants.{Neither}
use Rattle.format_calls.specs.declared.modes.Mode.{Mode}
use Rattle.format_calls.specs.declared.modes.Mode.TheVariants.{Start, Within, Operator, Angles}
use Rattle.format_calls.specs.declared.modes.Mode.TheVariants.{Parameters}
use Rattle.format_calls.specs.Marks.{is_after, is_mark, is_mark_of, is_word}

-- The second token follows the first without white space and comments.
abbrev pub is_joint : Leaf → Leaf → Bool
is_joint x y = nat_le x.start y.start && (y.start - x.start) == length x.text

abbrev pub are_joint : Option Leaf → Option Leaf → Bool
are_joint None y = false
are_joint (Some x) None = false
are_joint (Some x) (Some y) = is_joint x y

-- This character of punctuation follows the token i without white space and comments.
abbrev pub is_followed : ℕ → List Leaf → ℕ → Bool
is_followed m xs i = are_joint (slice_get xs i) (slice_get xs (i + 1)) && is_mark m xs (i + 1)

-- `<` opens a list in angles where an expression or a type starts, and in a type. `<=` does not.
abbrev pub opens_list : List Leaf → ℕ → Bool
opens_list xs i = is_mark (code "<") xs i && not (is_followed (code "=") xs i)

-- The `>` of `->`.
abbrev pub is_arrow : List Leaf → ℕ → Bool
is_arrow xs i = is_mark (code ">") xs i
    && (is_after (code "-") xs i && is_followed (code ">") xs (i - 1))

-- `>` closes a list in angles, but not that of `->`.
abbrev pub closes_list : List Leaf → ℕ → Bool
closes_list xs i = is_mark (code ">") xs i && not (is_arrow xs i)

-- The first character of `||` or `<<`.
abbrev pub is_double : List Leaf → ℕ → Bool
is_double xs i = (is_mark (code "|") xs i && is_followed (code "|") xs i)
    || (is_mark (code "<") xs i && is_followed (code "<") xs i)

abbrev pub is_non_raw_ident : Kind → Bool
is_non_raw_ident Ident = true
is_non_raw_ident k = false

abbrev pub is_lifetime : Kind → Bool
is_lifetime Lifetime = true
is_lifetime k = false

-- The token is this word, not a raw one.
abbrev pub is_text : Leaf → List ℕ → Bool
is_text x w = is_non_raw_ident x.kind && bytes_eq x.text w

-- A keyword after which an expression starts, or after which a type goes on to start.
abbrev pub is_keyword : Leaf → Bool
is_keyword x = is_text x (codes "async") || (is_text x (codes "break")
    || (is_text x (codes "const") || (is_text x (codes "if") || (is_text x (codes "in")
    || (is_text x (codes "match") || (is_text x (codes "move") || (is_text x (codes "mut")
    || (is_text x (codes "return") || (is_text x (codes "static") || (is_text x (codes "while")
    || is_text x (codes "yield")))))))))))

-- A type that starts at the token still starts after it: the token is `&`, `*`, a lifetime or a
-- keyword.
abbrev pub is_prefix : Leaf → Bool
is_prefix x = is_mark_of (code "&") (Some x) || (is_mark_of (code "*") (Some x)
    || (is_lifetime x.kind || is_keyword x))

abbrev pub is_neither : Side → Bool
is_neither Neither = true
is_neither s = false

-- An expression starts after this character of punctuation: it is no delimiter and no `?`.
abbrev pub is_operator : Leaf → Bool
is_operator x = is_punct x.kind && (is_neither (side x) && not (is_mark_of (code "?") (Some x)))

-- The mode after the token x at i, at the start of an expression or of a type or not, and in a type
-- or not.
abbrev pub mode_after_leaf : List Leaf → ℕ → Option Leaf → Bool → Bool → Mode
mode_after_leaf xs i None s t = Within false
mode_after_leaf xs i (Some x) s t =
    if is_double xs i then Operator else
    (if is_text x (codes "as") || is_arrow xs i then Start true else
    (if is_mark_of (code ":") (Some x) then Start t else
    (if is_prefix x then Start (s && t) else
    (if is_operator x then Start false else Within (t && is_word x)))))

-- The number of lists in angles that are open.
abbrev pub depth_of : Mode → ℕ
depth_of (Start t) = 0
depth_of (Within t) = 0
depth_of Operator = 0
depth_of (Angles n) = n
depth_of Parameters = 0

-- The mode after the tree at the token i.
abbrev pub mode_after : List Leaf → ℕ → Mode → Mode
mode_after xs i (Start t) =
    if opens_list xs i then Angles 1 else
    (if is_mark (code "|") xs i then Parameters else mode_after_leaf xs i (slice_get xs i) true t)
mode_after xs i (Within t) =
    if t && opens_list xs i then Angles 1 else mode_after_leaf xs i (slice_get xs i) false t
mode_after xs i Operator = Start false
mode_after xs i (Angles n) =
    if is_mark (code "<") xs i then Angles (n + 1) else
    (if not (closes_list xs i) then Angles n else
    (if nat_lt 1 n then Angles (n - 1) else Within false))
mode_after xs i Parameters = if is_mark (code "|") xs i then Start false else Parameters
