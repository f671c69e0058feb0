-- The faults between the placeholders of a format string and the arguments that count.
use Rattle.std.specs.Prelude.{ℕ, Bool, true, false, ◌==◌, ◌++◌, ◌&&◌, ◌||◌, not, nat_le}
use Rattle.std.specs.Prelude.{if◌then◌else◌, List, [], ◌∷◌, length, map, filter}
use Rattle.std.specs.Prelude.{Option, Some, None, is_some, is_none, option_map}
use Rattle.std.specs.Option.{option_map_or}
use Rattle.std.specs.List.{filter_map, list_any, slice_get}
use Rattle.std.specs.Str.{bytes_eq}
use Rattle.rustc_parse_format.specs.Characters.{Text}
use Rattle.placeholder_check.specs.Uses.{Use, ByIndex, ByName}
use Rattle.call_faults.specs.declared.faults.Part.{Part}
use Rattle.call_faults.specs.declared.faults.Part.TheVariants.{Position, Precision, Width}
use Rattle.call_faults.specs.declared.faults.InvalidReference.{InvalidReference}
use Rattle.call_faults.specs.declared.faults.Reference.{Reference}
use Rattle.call_faults.specs.Arguments.{FormatArgument, Entry, has_name, index_of}
use Rattle.call_faults.specs.CallFaults.{CallFault, MissingName, UnknownTrait, MissingArguments}
use Rattle.call_faults.specs.CallFaults.{UnusedArguments, RedundantArguments, NameUsedByIndex}
use Rattle.call_faults.specs.CallFaults.{PositionalAfterNamed, RepeatedName, TextFault}
use Rattle.call_faults.specs.Lookups.{Lookup, Refer, NoTrait}

-- The index of the argument that is meant by a use, if there is one. A number counts through all
-- arguments that count, those with a name too.
abbrev pub meant_index : List Entry → Use → Option ℕ
meant_index ks (ByIndex n) = option_map (λ k. k.index) (slice_get ks n)
meant_index ks (ByName w) = index_of ks w

-- The lookup means the argument of this index.
abbrev pub means : List Entry → ℕ → Lookup → Bool
means ks i (Refer r u) = option_map_or (λ j. i == j) (meant_index ks u) false
means ks i (NoTrait k t) = false

-- Traits that do not exist, and names that are neither among these nor captured. A name is reported
-- once.
abbrev pub lookup_faults : Bool → List Text → List Lookup → List CallFault
lookup_faults captures known [] = []
lookup_faults captures known (NoTrait k t ∷ ls) =
    UnknownTrait k t ∷ lookup_faults captures known ls
lookup_faults captures known (Refer r (ByIndex n) ∷ ls) = lookup_faults captures known ls
lookup_faults captures known (Refer r (ByName w) ∷ ls) =
    if captures || list_any (bytes_eq w) known then lookup_faults captures known ls
    else MissingName r w ∷ lookup_faults captures (w ∷ known) ls

-- The names of these arguments.
abbrev pub names : List Entry → List Text
names ks = filter_map (λ k. k.argument.name) ks

-- The reference by an index that is at least this count, if the lookup is one.
abbrev pub invalid_reference : ℕ → Lookup → Option InvalidReference
invalid_reference count (Refer r (ByIndex n)) = if nat_le count n
    then Some (record { reference = r; index = n }) else None
invalid_reference count (Refer r (ByName w)) = None
invalid_reference count (NoTrait k t) = None

-- The references by an index that is too large for these arguments.
abbrev pub invalid_references : List Entry → List Lookup → List InvalidReference
invalid_references ks ls = filter_map (invalid_reference (length ks)) ls

-- The arguments that no lookup means.
abbrev pub unused_arguments : List Entry → List Lookup → List Entry
unused_arguments ks ls = filter (λ k. not (list_any (means ks k.index) ls)) ks

-- The part is a position.
abbrev pub is_at_position : Part → Bool
is_at_position Position = true
is_at_position Precision = false
is_at_position Width = false

-- The position of a placeholder is this name.
abbrev pub is_position : Text → Lookup → Bool
is_position w (Refer r (ByIndex n)) = false
is_position w (Refer r (ByName v)) = is_at_position r.part && bytes_eq w v
is_position w (NoTrait k t) = false

-- The argument has no name, and is a variable which the position of a placeholder has as its name.
abbrev pub is_redundant : List Lookup → Entry → Bool
is_redundant ls k = is_none k.argument.name
    && option_map_or (λ w. list_any (is_position w) ls) k.argument.variable false

-- The indices of these arguments among all that are given.
abbrev pub indices : List Entry → List ℕ
indices ks = map (λ k. k.index) ks

-- The fault of these references by an index that is too large.
abbrev pub missing_faults : List InvalidReference → List CallFault
missing_faults [] = []
missing_faults (m ∷ ms) = MissingArguments (m ∷ ms) ∷ []

-- The fault of these arguments that no lookup means.
abbrev pub unused_faults : List ℕ → List CallFault
unused_faults [] = []
unused_faults (i ∷ is) = UnusedArguments (i ∷ is) ∷ []

-- The fault of the redundant ones among unused arguments, or else of all of them.
abbrev pub left_faults : List ℕ → List ℕ → List CallFault
left_faults [] unused = unused_faults unused
left_faults (i ∷ is) unused = RedundantArguments (i ∷ is) ∷ []

-- The fault of a reference by index to this argument, if it has a name.
abbrev pub named_use : Reference → Option Entry → Option CallFault
named_use r None = None
named_use r (Some k) = if is_some k.argument.name then Some (NameUsedByIndex r k.index) else None

-- The fault of the lookup, if it means an argument with a name by its index.
abbrev pub by_index : List Entry → Lookup → Option CallFault
by_index ks (Refer r (ByIndex n)) = named_use r (slice_get ks n)
by_index ks (Refer r (ByName w)) = None
by_index ks (NoTrait k t) = None

-- The fault is a missing name.
abbrev pub is_missing_name : CallFault → Bool
is_missing_name (PositionalAfterNamed i ns) = false
is_missing_name (RepeatedName i f) = false
is_missing_name (TextFault f) = false
is_missing_name (MissingName r w) = true
is_missing_name (UnknownTrait k t) = false
is_missing_name (MissingArguments rs) = false
is_missing_name (UnusedArguments is) = false
is_missing_name (RedundantArguments is) = false
is_missing_name (NameUsedByIndex r i) = false

-- Neither a name is missing, nor an argument, nor is one unused.
abbrev pub is_settled : List CallFault → List InvalidReference → List Entry → Bool
is_settled found lacked left =
    not (list_any is_missing_name found) && (length lacked == 0 && length left == 0)

-- The faults between the arguments ks that count and these lookups. References by index to
-- arguments with names are reported only if no name and no argument is missing or unused.
abbrev pub comparison_faults : Bool → List Entry → List Lookup → List CallFault
comparison_faults captures ks ls =
    let found = lookup_faults captures (names ks) ls in
    let lacked = invalid_references ks ls in
    let left = unused_arguments ks ls in
    found ++ missing_faults lacked
    ++ left_faults (indices (filter (is_redundant ls) left)) (indices left)
    ++ (if is_settled found lacked left then filter_map (by_index ks) ls else [])
