-- The macros that a file defines by `macro_rules!`.
use Prim.Native.Char.{code}
use Rattle.std.specs.Prelude.{ℕ, Bool, false, ◌&&◌, ◌++◌, List, [], ◌∷◌, Option, Some, None}
use Rattle.std.specs.Prelude.{codes, if◌then◌else◌, map}
use Rattle.std.specs.Str.{bytes_eq}
use Rattle.std.specs.BTreeSet.{BTreeSet}
use denote.Ref.{Bor}
use Rattle.rust_trees.specs.Leaves.{Leaf}
use Rattle.format_calls.specs.Marks.{is_mark_of, is_word, word}
use Rattle.format_calls.specs.Modes.{is_text}
use Rattle.source_lint.specs.declared.macros.OwnMacro.{OwnMacro}

-- The word `macro_rules`.
abbrev pub is_macro_rules : Leaf → Bool
is_macro_rules x = is_text x (codes "macro_rules")

-- There are two tokens, and they are `macro_rules` and `!`.
abbrev pub begins_definition : Option Leaf → Option Leaf → Bool
begins_definition None m = false
begins_definition (Some w) None = false
begins_definition (Some w) (Some m) = is_macro_rules w && is_mark_of (code "!") (Some m)

-- The name of the macro that a token defines after these two, if it does.
abbrev pub definition : Option Leaf → Option Leaf → Leaf → List (List ℕ)
definition w m x = if begins_definition w m && is_word x then word x ∷ [] else []

-- The names of the macros that these tokens define, where two tokens stand before them.
abbrev pub names_after : Option Leaf → Option Leaf → List Leaf → List (List ℕ)
names_after w m [] = []
names_after w m (x ∷ xs) = definition w m x ++ names_after m (Some x) xs

-- The names of the macros that these tokens define.
abbrev pub macro_names : List Leaf → List (List ℕ)
macro_names xs = names_after None None xs

-- The names that a set has.
abbrev pub names_in : BTreeSet (Bor (List ℕ)) → List (List ℕ)
names_in s = map (λ k. k.now) s.keys

-- A macro of a file of which the table says how its calls are read: its name, in bytes, and
-- whether it appends a newline to its format string.
pub record Own : Type 0 where
  pub name : List ℕ
  pub appends_newline : Bool

-- Such a macro as a contract sees it.
abbrev pub own : OwnMacro → Own
own m = record { name = m.name.now; appends_newline = m.appends_newline }

-- The first of these macros that has this name appends a newline or not, or none has it.
abbrev pub newline_by : List Own → List ℕ → Option Bool
newline_by [] w = None
newline_by (m ∷ ms) w = if bytes_eq m.name w then Some m.appends_newline else newline_by ms w
