-- The kinds of the faults of a string.
use Rattle.diagnostic.specs.declared.ids.Id.{Id}
use Rattle.diagnostic.specs.declared.ids.Id.TheVariants.{UnmatchedClosingBrace}
use Rattle.diagnostic.specs.declared.ids.Id.TheVariants.{MissingClosingBrace}
use Rattle.diagnostic.specs.declared.ids.Id.TheVariants.{ClosingBraceAsFill}
use Rattle.diagnostic.specs.declared.ids.Id.TheVariants.{UnderscoreAsName}
use Rattle.diagnostic.specs.declared.ids.Id.TheVariants.{IntegerTooLarge}
use Rattle.diagnostic.specs.declared.ids.Id.TheVariants.{UnnamedArgument}
use Rattle.diagnostic.specs.declared.ids.Id.TheVariants.{TextAfterColon as TextAfterColonId}
use Rattle.diagnostic.specs.declared.ids.Id.TheVariants.{RawIdentifier as RawIdentifierId}
use Rattle.diagnostic.specs.declared.ids.Id.TheVariants.{FlagAfterType}
use Rattle.diagnostic.specs.declared.ids.Id.TheVariants.{MissingColon as MissingColonId}
use Rattle.diagnostic.specs.declared.ids.Id.TheVariants.{DebugBeforeColon}
use Rattle.diagnostic.specs.declared.ids.Id.TheVariants.{AlignmentBeforeColon}
use Rattle.diagnostic.specs.declared.ids.Id.TheVariants.{NumericGrouping}
use Rattle.diagnostic.specs.declared.ids.Id.TheVariants.{DebugEquals}
use Rattle.diagnostic.specs.declared.ids.Id.TheVariants.{SignBeforeColon}
use Rattle.diagnostic.specs.declared.ids.Id.TheVariants.{FieldAccess as FieldAccessId}
use Rattle.diagnostic.specs.declared.ids.Id.TheVariants.{TupleIndex as TupleIndexId}
use Rattle.rustc_parse_format.specs.Faults.{Fault, UnmatchedBrace, MissingBrace, FillBrace}
use Rattle.rustc_parse_format.specs.Faults.{Underscore, TooLarge, Unnamed, TextAfterColon}
use Rattle.rustc_parse_format.specs.Faults.{RawIdentifier, LateFlag, MissingColon, LateDebug}
use Rattle.rustc_parse_format.specs.Faults.{LateAlign, Grouping, DebugPrint, LateSign}
use Rattle.rustc_parse_format.specs.Faults.{FieldAccess, TupleIndex}

-- The kind of a fault.
unfoldable pub text_id : {A : Type 0} → Fault A → Id
text_id (UnmatchedBrace s) = UnmatchedClosingBrace
text_id (MissingBrace c s o) = MissingClosingBrace
text_id (FillBrace c s o) = ClosingBraceAsFill
text_id (Underscore s) = UnderscoreAsName
text_id (TooLarge ds s) = IntegerTooLarge
text_id (Unnamed s) = UnnamedArgument
text_id (TextAfterColon s) = TextAfterColonId
text_id (RawIdentifier s p) = RawIdentifierId
text_id (LateFlag c s b) = FlagAfterType
text_id (MissingColon s) = MissingColonId
text_id (LateDebug w s) = DebugBeforeColon
text_id (LateAlign c s) = AlignmentBeforeColon
text_id (Grouping s o) = NumericGrouping
text_id (DebugPrint s o) = DebugEquals
text_id (LateSign s) = SignBeforeColon
text_id (FieldAccess s) = FieldAccessId
text_id (TupleIndex s) = TupleIndexId
