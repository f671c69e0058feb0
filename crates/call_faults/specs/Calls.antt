-- The faults of a call, in the order in which rustc reports them.
use Rattle.std.specs.Prelude.{ℕ, Bool, true, false, ◌++◌, if◌then◌else◌, List, [], ◌∷◌}
use Rattle.std.specs.Prelude.{Option, Some, None}
use Rattle.std.specs.List.{list_any}
use Rattle.rustc_parse_format.specs.Faults.{Fault}
use Rattle.rustc_parse_format.specs.Types.{Piece}
use Rattle.rustc_parse_format.specs.World.{Place}
use Rattle.call_faults.specs.Arguments.{FormatArgument, list_faults, kept_after}
use Rattle.call_faults.specs.CallFaults.{CallFault, PositionalAfterNamed, RepeatedName, TextFault}
use Rattle.call_faults.specs.CallFaults.{MissingName, UnknownTrait, MissingArguments}
use Rattle.call_faults.specs.CallFaults.{UnusedArguments, RedundantArguments, NameUsedByIndex}
use Rattle.call_faults.specs.Comparison.{comparison_faults, indices}
use Rattle.call_faults.specs.Lookups.{lookups_from}

-- The fault ends the work before the string is read.
abbrev pub is_last : CallFault → Bool
is_last (PositionalAfterNamed i ns) = true
is_last (RepeatedName i f) = false
is_last (TextFault f) = false
is_last (MissingName r w) = false
is_last (UnknownTrait k t) = false
is_last (MissingArguments rs) = false
is_last (UnusedArguments is) = false
is_last (RedundantArguments is) = false
is_last (NameUsedByIndex r i) = false

-- The indices of the arguments that count among gs, unless one without a name after one with a
-- name ends the work.
abbrev pub kept_indices : List FormatArgument → List ℕ
kept_indices gs = if list_any is_last (list_faults [] 0 gs) then []
    else indices (kept_after [] 0 gs)

-- The faults of a string that has this fault or none, and these pieces, and of the arguments
-- gs.
abbrev pub string_faults : Bool → List FormatArgument → Option (Fault Place) → List (Piece Place)
    → List CallFault
string_faults captures gs (Some f) ps = TextFault f ∷ []
string_faults captures gs None ps =
    comparison_faults captures (kept_after [] 0 gs) (lookups_from 0 ps)

-- The faults of the list of arguments gs, and then of the string.
abbrev pub call_faults : Bool → List FormatArgument → Option (Fault Place) → List (Piece Place)
    → List CallFault
call_faults captures gs fault ps =
    let found = list_faults [] 0 gs in
    found ++ (if list_any is_last found then [] else string_faults captures gs fault ps)
