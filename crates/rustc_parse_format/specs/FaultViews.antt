-- A fault as a contract sees it.
use Rattle.std.specs.Prelude.{chars, List, [], ◌∷◌, Option, Some, None, map}
use Rattle.rustc_parse_format.specs.declared.faults.Fault.{Fault as DeclaredFault}
use Rattle.rustc_parse_format.specs.declared.faults.Fault.TheVariants.{UnmatchedBrace as LoneBrace}
use Rattle.rustc_parse_format.specs.declared.faults.Fault.TheVariants.{MissingBrace as NoBrace}
use Rattle.rustc_parse_format.specs.declared.faults.Fault.TheVariants.{FillBrace as BraceAsFill}
use Rattle.rustc_parse_format.specs.declared.faults.Fault.TheVariants.{Underscore as LoneUnderscore}
use Rattle.rustc_parse_format.specs.declared.faults.Fault.TheVariants.{TooLarge as LargeNumber}
use Rattle.rustc_parse_format.specs.declared.faults.Fault.TheVariants.{}
use Rattle.rustc_parse_format.specs.declared.faults.Fault.TheVariants.{}
use Rattle.rustc_parse_format.specs.declared.faults.Fault.TheVariants.{}
use Rattle.rustc_parse_format.specs.declared.faults.Fault.TheVariants.{}
use Rattle.rustc_parse_format.specs.declared.faults.Fault.TheVariants.{RawIdentifier as PrefixedName}
use Rattle.rustc_parse_format.specs.declared.faults.Fault.TheVariants.{Unnamed as NoName}
use Rattle.rustc_parse_format.specs.declared.faults.Fault.TheVariants.{TextAfterColon as SomeText}
use Rattle.rustc_parse_format.specs.declared.faults.Fault.TheVariants.{LateFlag as FlagAtEnd}
use Rattle.rustc_parse_format.specs.declared.faults.Fault.TheVariants.{MissingColon as NoColon}
use Rattle.rustc_parse_format.specs.declared.faults.Fault.TheVariants.{LateDebug as DebugAfter}
use Rattle.rustc_parse_format.specs.declared.faults.Fault.TheVariants.{LateAlign as AlignAfter}
use Rattle.rustc_parse_format.specs.declared.faults.Fault.TheVariants.{Grouping as Comma}
use Rattle.rustc_parse_format.specs.declared.faults.Fault.TheVariants.{DebugPrint as EqualsSign}
use Rattle.rustc_parse_format.specs.declared.faults.Fault.TheVariants.{LateSign as SignAfter}
use Rattle.rustc_parse_format.specs.declared.faults.Fault.TheVariants.{FieldAccess as NamedField}
use Rattle.rustc_parse_format.specs.declared.faults.Fault.TheVariants.{TupleIndex as NumberedField}
use Rattle.rustc_parse_format.specs.Faults.{MissingColon, LateDebug, LateAlign, Grouping}
use Rattle.rustc_parse_format.specs.Faults.{DebugPrint, LateSign, FieldAccess, TupleIndex}
use Rattle.rustc_parse_format.specs.Faults.{Fault, UnmatchedBrace, MissingBrace, FillBrace}
use Rattle.rustc_parse_format.specs.Faults.{Underscore}
use Rattle.rustc_parse_format.specs.Faults.{TooLarge, Unnamed, TextAfterColon, RawIdentifier}
use Rattle.rustc_parse_format.specs.Faults.{LateFlag}
use Rattle.rustc_parse_format.specs.Views.{pair}
use Rattle.rustc_parse_format.specs.World.{Place}

-- A fault as a contract sees it.
abbrev pub seen_fault : DeclaredFault → Fault Place
seen_fault (LoneBrace s) = UnmatchedBrace (pair s)
seen_fault (NoBrace c s o) = MissingBrace c (pair s) (pair o)
seen_fault (BraceAsFill c s f) = FillBrace c (pair s) (pair f)
seen_fault (LoneUnderscore s) = Underscore (pair s)
seen_fault (LargeNumber ds s) = TooLarge (chars ds.now) (pair s)
seen_fault (NoName s) = Unnamed (pair s)
seen_fault (SomeText s) = TextAfterColon (pair s)
seen_fault (PrefixedName s p) = RawIdentifier (pair s) (pair p)
seen_fault (FlagAtEnd c s b) = LateFlag c (pair s) (pair b)
seen_fault (NoColon s) = MissingColon (pair s)
seen_fault (DebugAfter w s) = LateDebug (chars w.now) (pair s)
seen_fault (AlignAfter c s) = LateAlign c (pair s)
seen_fault (Comma s o) = Grouping (pair s) (pair o)
seen_fault (EqualsSign s o) = DebugPrint (pair s) (pair o)
seen_fault (SignAfter s) = LateSign (pair s)
seen_fault (NamedField s) = FieldAccess (pair s)
seen_fault (NumberedField s) = TupleIndex (pair s)

-- The faults of a call: the first and the second, if there are any, and those after them.
abbrev pub seen_faults : Option DeclaredFault → Option DeclaredFault → List DeclaredFault
    → List (Fault Place)
seen_faults None second more = []
seen_faults (Some f) None more = seen_fault f ∷ []
seen_faults (Some f) (Some g) more = seen_fault f ∷ (seen_fault g ∷ map seen_fault more)
