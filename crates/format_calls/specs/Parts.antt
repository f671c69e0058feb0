-- Parts of a file, each with the calls that begin in it.
use Prim.Native.Char.{code}
use Rattle.std.specs.Prelude.{ℕ, ◌+◌, ◌<◌, ◌≤◌, ◌↔◌, ◌++◌, ◌&&◌, Bool, false, List, [], ◌∷◌}
use Rattle.std.specs.Prelude.{length, Option, Some, None, is_some, option_map, if◌then◌else◌}
use Rattle.rust_trees.specs.Leaves.{Leaf, leaf, side}
use Rattle.rust_trees.specs.Sides.{is_opening}
use Rattle.format_calls.specs.declared.listing.Call.{Call}
use Rattle.format_calls.specs.declared.parts.Front.{Front}
use Rattle.format_calls.specs.declared.parts.Window.{Window as DeclaredWindow}
use Rattle.format_calls.specs.Rows.{Entry}
use Rattle.format_calls.specs.Calls.{IsCall, rule_of_leaf}
use Rattle.format_calls.specs.Marks.{is_mark_of}

-- These three tokens begin a call of a macro of the table, unless `$` stands before them: a word of
-- the table, `!` and an opening delimiter.
abbrev pub opens_call : List Entry → Leaf → Leaf → Leaf → Bool
opens_call es n m t = is_mark_of (code "!") (Some m)
    && (is_opening (side t) && is_some (rule_of_leaf es (Some n)))

-- The last two tokens that were read of a file, and whether `$` stands before them.
pub record Window : Type 0 where
  pub is_after_dollar : Bool
  pub name : Option Leaf
  pub bang : Option Leaf

-- These two tokens as a contract sees them.
abbrev pub seen_window : DeclaredWindow → Window
seen_window w = record {
  is_after_dollar = w.is_after_dollar;
  name = option_map leaf w.name;
  bang = option_map leaf w.bang;
}

-- The first three tokens of a call as a contract sees them.
abbrev pub seen_front : Front → List Leaf
seen_front f = leaf f.name ∷ leaf f.bang ∷ leaf f.opening ∷ []

-- The three tokens that begin a call, if the last two and this one do.
abbrev pub front_of_tokens : List Entry → Bool → Option Leaf → Option Leaf → Leaf
    → Option (List Leaf)
front_of_tokens es false (Some n) (Some m) t =
    if opens_call es n m t then Some (n ∷ m ∷ t ∷ []) else None
front_of_tokens es b n m t = None

abbrev pub front_of : List Entry → Window → Leaf → Option (List Leaf)
front_of es w t = front_of_tokens es w.is_after_dollar w.name w.bang t

-- Whether `$` stands before the tokens after the first of them.
abbrev pub after_next : Bool → Option Leaf → Bool
after_next b None = b
after_next b (Some n) = is_mark_of (code "$") (Some n)

-- The last two tokens with one more.
abbrev pub next_window : Window → Leaf → Window
next_window w t = record {
  is_after_dollar = after_next w.is_after_dollar w.name;
  name = w.bang;
  bang = Some t;
}

-- A call whose tokens stand n tokens further on.
abbrev pub moved_call : ℕ → Call → Call
moved_call n c = record { rule = c.rule; name = n + c.name; close = n + c.close }

-- Of these tokens those of the gap are the name of no call; the calls that begin in the part are
-- its own; and those after it are the calls of the rest.
pub record IsPart (es : List Entry) (gap part left : List Leaf) : Type 0 where
  pub before : (c : Call) → IsCall es (gap ++ (part ++ left)) c → length gap ≤ c.name
  pub inside : (c : Call) → c.name < length part
      → IsCall es part c ↔ IsCall es (gap ++ (part ++ left)) (moved_call (length gap) c)
  pub rest_after : (c : Call) → IsCall es left c
      ↔ IsCall es (gap ++ (part ++ left)) (moved_call (length gap + length part) c)
