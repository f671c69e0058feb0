-- The ids and the titles of faults, in rustc's words, as bytes.
use Rattle.std.specs.Prelude.{ℕ, ◌++◌, ◌==◌, ◌||◌, Bool, true, false, if◌then◌else◌, List, [], ◌∷◌}
use Rattle.std.specs.Prelude.{Option, Some, None, codes, decimal, encode_utf8_all, is_some, length}
use Rattle.std.specs.Prelude.{unwrap_or}
use Rattle.std.specs.List.{list_any, slice_get}
use Rattle.rustc_parse_format.specs.Characters.{Text}
use Rattle.rustc_parse_format.specs.FaultIds.{fault_id}
use Rattle.rustc_parse_format.specs.Faults.{message}
use Rattle.rustc_parse_format.specs.Types.{Argument, Count, Implied, Index, Implicit, Is, Lit, Name}
use Rattle.rustc_parse_format.specs.Types.{Named, NextArgument, Param, Piece, Position, Star}
use Rattle.text_faults.specs.Words.{quoted_name}
use Rattle.call_faults.specs.Arguments.{FormatArgument}
use Rattle.call_faults.specs.CallFaults.{CallFault, PositionalAfterNamed, RepeatedName, TextFault}
use Rattle.call_faults.specs.CallFaults.{MissingName, UnknownTrait, MissingArguments}
use Rattle.call_faults.specs.CallFaults.{UnusedArguments, RedundantArguments, NameUsedByIndex}

-- The id of a fault. A fault of the string has its own.
unfoldable pub call_id : CallFault → List ℕ
call_id (PositionalAfterNamed i ns) = codes "positional-after-named"
call_id (RepeatedName i f) = codes "repeated-name"
call_id (TextFault f) = fault_id f
call_id (MissingName r w) = codes "missing-name"
call_id (UnknownTrait k t) = codes "unknown-trait"
call_id (MissingArguments ms) = codes "missing-argument"
call_id (UnusedArguments is) = codes "unused-argument"
call_id (RedundantArguments is) = codes "redundant-argument"
call_id (NameUsedByIndex r i) = codes "name-used-by-index"

-- The position is a number that is written.
abbrev pub is_number : Position → Bool
is_number (Implicit n) = false
is_number (Index n) = true
is_number (Named w) = false

-- The width or the precision is an argument by a number that is written.
abbrev pub is_counted : {A : Type 0} → Count A → Bool
is_counted (Is n) = false
is_counted (Name w s) = false
is_counted (Param n) = true
is_counted (Star n) = false
is_counted Implied = false

-- The piece refers to an argument by a number that is written.
abbrev pub has_number : {A : Type 0} → Piece A → Bool
has_number (Lit t) = false
has_number (NextArgument a) = is_number a.position
    || (is_counted a.format.width || is_counted a.format.precision)

-- A noun, in the plural unless there is one.
abbrev pub plural : List ℕ → ℕ → List ℕ
plural noun n = if n == 1 then noun else noun ++ codes "s"

-- How many arguments are given.
abbrev pub count_text : ℕ → List ℕ
count_text n = if n == 0 then codes "no arguments were given"
    else (if n == 1 then codes "there is 1 argument"
    else codes "there are " ++ (decimal n ++ codes " arguments"))

-- The text in front of these numbers in a list.
abbrev pub separator : List ℕ → List ℕ
separator [] = []
separator (n ∷ []) = codes " and "
separator (m ∷ n ∷ ns) = codes ", "

-- Numbers one after the other.
abbrev pub number_list : List ℕ → List ℕ
number_list [] = []
number_list (n ∷ ns) = decimal n ++ (separator ns ++ number_list ns)

-- The name of an argument, or nothing if it has none.
abbrev pub name_of : Option FormatArgument → Text
name_of None = []
name_of (Some g) = unwrap_or g.name []

-- The argument has a name.
abbrev pub is_named : Option FormatArgument → Bool
is_named None = false
is_named (Some g) = is_some g.name

-- The title of indices that are too large, these numbers, where `count` arguments are given.
abbrev pub numbers_title : List ℕ → ℕ → List ℕ
numbers_title ns count = codes "invalid reference to positional "
    ++ (plural (codes "argument") (length ns)
    ++ (codes " " ++ (number_list ns ++ (codes " (" ++ (count_text count ++ codes ")")))))

-- The title of too few arguments, where `count` are given and the placeholders take this many, one
-- after the other.
abbrev pub few_title : ℕ → ℕ → List ℕ
few_title total count = decimal total ++ (plural (codes " positional argument") total
    ++ (codes " in format string, but " ++ count_text count))

-- An argument is not used.
abbrev pub never_used : Option FormatArgument → List ℕ
never_used g = if is_named g then codes "named argument never used" else codes "argument never used"

-- The title of arguments that are not used.
abbrev pub unused_title : List FormatArgument → List ℕ → List ℕ
unused_title gs [] = codes "multiple unused formatting arguments"
unused_title gs (i ∷ []) = never_used (slice_get gs i)
unused_title gs (i ∷ j ∷ is) = codes "multiple unused formatting arguments"

-- The parts of a title that come from the call beside the fault: the arguments that are given and
-- how many of them count; the pieces; how many arguments their placeholders take one after the
-- other; and the numbers that are too large, each once and in rising order.
pub record TitleParts (A : Type 0) : Type 0 where
  pub arguments : List FormatArgument
  pub count : ℕ
  pub pieces : List (Piece A)
  pub total : ℕ
  pub numbers : List ℕ

-- The title of a fault.
unfoldable pub title : {A : Type 0} → TitleParts A → CallFault → List ℕ
title c (PositionalAfterNamed i ns) = codes "positional arguments cannot follow named arguments"
title c (RepeatedName i f) =
    codes "duplicate argument named " ++ quoted_name (name_of (slice_get c.arguments i))
title c (TextFault f) = codes "invalid format string: " ++ (message f).description
title c (MissingName r w) = codes "there is no argument named " ++ quoted_name w
title c (UnknownTrait k t) = codes "unknown format trait " ++ quoted_name t
title c (MissingArguments ms) = if list_any has_number c.pieces then numbers_title c.numbers c.count
    else few_title c.total c.count
title c (UnusedArguments is) = unused_title c.arguments is
title c (RedundantArguments is) = plural (codes "redundant argument") (length is)
title c (NameUsedByIndex r i) = codes "named argument "
    ++ (quoted_name (name_of (slice_get c.arguments i)) ++ codes " is not used by name")
