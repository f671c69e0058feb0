-- The calls of a file, and what comes from each of them.
use Rattle.std.specs.Prelude.{◌≡◌, ◌++◌, ◌↔◌, List, [], ◌∷◌, Contains, length}
use Rattle.rust_trees.specs.Leaves.{Leaf}
use Rattle.format_calls.specs.Calls.{IsCall, Rises}
use Rattle.format_calls.specs.Rows.{Entry}
use Rattle.format_calls.specs.declared.listing.Call.{Call}

-- These are the calls of macros of the table, in the order of their names.
pub record AreCalls (es : List Entry) (xs : List Leaf) (cs : List Call) : Type 0 where
  pub each : (c : Call) → Contains cs c ↔ IsCall es xs c
  pub in_order : Rises 0 cs (length xs)

-- One call after the other gives a value and some items, by P: these are the values of all, and
-- these the items.
abbrev pub Gives : {R F : Type 0} → (Call → R → List F → Type 0) → List Call → List R → List F
    → Type 0
Gives {R} {F} P [] rs fs = (rs ≡ []) × (fs ≡ [])
Gives {R} {F} P (c ∷ cs) rs fs = (r : R) × (more : List R) × (first others : List F)
    × (rs ≡ r ∷ more) × (fs ≡ first ++ others) × P c r first × Gives P cs more others

-- The same for the calls among these tokens.
pub record OfCalls {R F : Type 0} (P : List Leaf → Call → R → List F → Type 0) (es : List Entry)
    (xs : List Leaf) (rs : List R) (fs : List F) : Type 0 where
  pub calls : List Call
  pub are_calls : AreCalls es xs calls
  pub gives : Gives (P xs) calls rs fs
