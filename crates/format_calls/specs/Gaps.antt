-- The tokens between the parts of a file that have calls, wherever they stand.
use Rattle.std.specs.Prelude.{◌≡◌, ℕ, false, List, [], ◌∷◌, Option, Some, None, IsFalse}
use Rattle.std.specs.Prelude.{IsTrue, chars, if◌then◌else◌, is_some, map}
use Rattle.std.specs.List.{list_all}
use Rattle.rust_tokens.specs.Fronts.{ReadsBeforeWords}
use Rattle.rust_tokens.specs.Tokens.{Lexeme}
use Rattle.rust_trees.specs.Leaves.{Leaf, leaves}
use Rattle.format_calls.specs.Rows.{Entry}
use Rattle.format_calls.specs.Parts.{Window, after_next, front_of, next_window, opens_call}

-- A token without its place.
abbrev pub unplaced : Leaf → Leaf
unplaced x = record {
  kind = x.kind;
  is_ended = x.is_ended;
  has_suffix = x.has_suffix;
  text = x.text;
  start = 0;
}

-- The window in front of the first token.
abbrev pub first_window : Window
first_window = record { is_after_dollar = false; name = None; bang = None }

-- The window after these tokens, read from a window on. None if three of them, one after the other,
-- begin a call.
abbrev pub window_after : List Entry → Window → List Leaf → Option Window
window_after es w [] = Some w
window_after es w (t ∷ ts) =
    if is_some (front_of es w t) then None else window_after es (next_window w t) ts

-- No three of these tokens, one after the other, begin a call, and w is the window after them.
abbrev pub LacksFronts : List Entry → List Leaf → Window → Type 0
LacksFronts es xs w = window_after es first_window (map unplaced xs) ≡ Some w

-- No three of these tokens begin a call, and `$` is not the last of them.
pub record IsClear (es : List Entry) (xs : List Leaf) : Type 0 where
  pub window : Window
  pub lacks : LacksFronts es xs window
  pub fixed : IsFalse (after_next (after_next window.is_after_dollar window.name) window.bang)

-- The tokens begin with those that begin a call: a word of the table, `!` and an opening delimiter.
pub record BeginsCall (es : List Entry) (xs : List Leaf) : Type 0 where
  pub name : Leaf
  pub bang : Leaf
  pub opening : Leaf
  pub more : List Leaf
  pub joins : xs ≡ name ∷ bang ∷ opening ∷ more
  pub opens : IsTrue (opens_call es name bang opening)

-- Before each word a text, in bytes, reads as these tokens, which have their ends; none of them
-- begins a call, and a call can follow them.
pub record IsGapText (es : List Entry) (bs : List ℕ) (xs : List Lexeme) : Type 0 where
  pub reads : ReadsBeforeWords (chars bs) xs
  pub are_ended : IsTrue (list_all (λ x. x.is_ended) xs)
  pub is_clear : IsClear es (leaves 0 xs)
