-- The commas that are missing, and the tokens that rustc expects instead of what stands there.
use Prim.Native.Char.{code}
use Rattle.std.specs.Prelude.{ℕ, Bool, false, ◌&&◌, ◌||◌, ◌-◌, not, List, [], ◌∷◌}
use Rattle.std.specs.Prelude.{Option, Some, None, codes, slice_get, if◌then◌else◌}
use Rattle.std.specs.Str.{bytes_eq}
use Rattle.rust_trees.specs.Leaves.{Leaf}
use Rattle.format_calls.specs.Marks.{is_mark_of, is_word}
use Rattle.format_calls.specs.Modes.{is_text}
use Rattle.format_calls.specs.Strings.{is_string}
use Rattle.call_forms.specs.Keywords.{is_control, is_modifier}
use Rattle.call_forms.specs.declared.commas.ExpectedTokens.{ExpectedTokens}
use Rattle.call_forms.specs.declared.commas.ExpectedTokens.TheVariants.{Path, Field, Value}

-- The tokens are a string literal, which may have a suffix, and others after it.
abbrev pub has_more : List Leaf → Bool
has_more [] = false
has_more (x ∷ []) = false
has_more (x ∷ y ∷ ys) = is_string x.kind && x.is_ended

-- What rustc expects after an operand with this token in front depends on more than its last
-- tokens: on a type, a pattern or a block.
abbrev pub is_unknown : Leaf → Bool
is_unknown x = is_control x.text || (is_modifier x.text || (is_mark_of (code "|") (Some x)
    || (bytes_eq x.text (codes "and") || bytes_eq x.text (codes "or"))))

abbrev pub is_period : Option Leaf → Bool
is_period o = is_mark_of (code ".") o

abbrev pub expected_by : Option Leaf → Option Leaf → Option Leaf → ExpectedTokens
expected_by o p None = Value
expected_by o p (Some z) = if not (is_word z) then Value else
    (if not (is_period p) || is_period o then Path else
    (if is_text z (codes "await") then Value else Field))

-- What rustc expects after the operand that ends before the token n.
abbrev pub expected_at : List Leaf → ℕ → ExpectedTokens
expected_at xs n =
    expected_by (slice_get xs (n - 3)) (slice_get xs (n - 2)) (slice_get xs (n - 1))
