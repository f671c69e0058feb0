-- The names of the kinds of faults.
use Rattle.std.specs.Prelude.{ℕ, List, codes}
use Rattle.diagnostic.specs.declared.ids.Id.{Id}
use Rattle.diagnostic.specs.declared.ids.Id.TheVariants.{UnmatchedClosingBrace, MissingClosingBrace}
use Rattle.diagnostic.specs.declared.ids.Id.TheVariants.{ClosingBraceAsFill, UnderscoreAsName}
use Rattle.diagnostic.specs.declared.ids.Id.TheVariants.{IntegerTooLarge, UnnamedArgument}
use Rattle.diagnostic.specs.declared.ids.Id.TheVariants.{TextAfterColon, RawIdentifier}
use Rattle.diagnostic.specs.declared.ids.Id.TheVariants.{FlagAfterType, MissingColon}
use Rattle.diagnostic.specs.declared.ids.Id.TheVariants.{DebugBeforeColon, AlignmentBeforeColon}
use Rattle.diagnostic.specs.declared.ids.Id.TheVariants.{NumericGrouping, DebugEquals}
use Rattle.diagnostic.specs.declared.ids.Id.TheVariants.{SignBeforeColon, FieldAccess, TupleIndex}
use Rattle.diagnostic.specs.declared.ids.Id.TheVariants.{PositionalAfterNamed, RepeatedName}
use Rattle.diagnostic.specs.declared.ids.Id.TheVariants.{MissingName, UnknownTrait, MissingArgument}
use Rattle.diagnostic.specs.declared.ids.Id.TheVariants.{UnusedArgument, RedundantArgument}
use Rattle.diagnostic.specs.declared.ids.Id.TheVariants.{NameUsedByIndex, MissingFormatString}
use Rattle.diagnostic.specs.declared.ids.Id.TheVariants.{NoStringLiteral, MissingComma}
use Rattle.diagnostic.specs.declared.ids.Id.TheVariants.{MissingExpression, OperandOrder}
use Rattle.diagnostic.specs.declared.ids.Id.TheVariants.{RegisterName, WrongOperand, LongModifier}
use Rattle.diagnostic.specs.declared.ids.Id.TheVariants.{SpecifierInMessage, PositionalInMessage}
use Rattle.diagnostic.specs.declared.ids.Id.TheVariants.{MissingParameter}

-- The name of a kind, in kebab case.
unfoldable pub name : Id → List ℕ
name UnmatchedClosingBrace = codes "unmatched-closing-brace"
name MissingClosingBrace = codes "missing-closing-brace"
name ClosingBraceAsFill = codes "closing-brace-as-fill"
name UnderscoreAsName = codes "underscore-as-name"
name IntegerTooLarge = codes "integer-too-large"
name UnnamedArgument = codes "unnamed-argument"
name TextAfterColon = codes "text-after-colon"
name RawIdentifier = codes "raw-identifier"
name FlagAfterType = codes "flag-after-type"
name MissingColon = codes "missing-colon"
name DebugBeforeColon = codes "debug-before-colon"
name AlignmentBeforeColon = codes "alignment-before-colon"
name NumericGrouping = codes "numeric-grouping"
name DebugEquals = codes "debug-equals"
name SignBeforeColon = codes "sign-before-colon"
name FieldAccess = codes "field-access"
name TupleIndex = codes "tuple-index"
name PositionalAfterNamed = codes "positional-after-named"
name RepeatedName = codes "repeated-name"
name MissingName = codes "missing-name"
name UnknownTrait = codes "unknown-trait"
name MissingArgument = codes "missing-argument"
name UnusedArgument = codes "unused-argument"
name RedundantArgument = codes "redundant-argument"
name NameUsedByIndex = codes "name-used-by-index"
name MissingFormatString = codes "missing-format-string"
name NoStringLiteral = codes "no-string-literal"
name MissingComma = codes "missing-comma"
name MissingExpression = codes "missing-expression"
name OperandOrder = codes "operand-order"
name RegisterName = codes "register-name"
name WrongOperand = codes "wrong-operand"
name LongModifier = codes "long-modifier"
name SpecifierInMessage = codes "specifier-in-message"
name PositionalInMessage = codes "positional-in-message"
name MissingParameter = codes "missing-parameter"
