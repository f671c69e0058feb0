use Rattle.std.proofs.Common.{refl}
use Rattle.diagnostic.specs.Ids.{name}
use Rattle.diagnostic.specs.declared.ids.Id.TheVariants.{UnmatchedClosingBrace, MissingClosingBrace}
use Rattle.diagnostic.specs.declared.ids.Id.TheVariants.{ClosingBraceAsFill, UnderscoreAsName}
use Rattle.diagnostic.specs.declared.ids.Id.TheVariants.{IntegerTooLarge, UnnamedArgument}
use Rattle.diagnostic.specs.declared.ids.Id.TheVariants.{TextAfterColon, RawIdentifier}
use Rattle.diagnostic.specs.declared.ids.Id.TheVariants.{FlagAfterType, MissingColon}
use Rattle.diagnostic.specs.declared.ids.Id.TheVariants.{DebugBeforeColon, AlignmentBeforeColon}
use Rattle.diagnostic.specs.declared.ids.Id.TheVariants.{NumericGrouping, DebugEquals}
use Rattle.diagnostic.specs.declared.ids.Id.TheVariants.{SignBeforeColon, FieldAccess, TupleIndex}
use Rattle.diagnostic.specs.declared.ids.Id.TheVariants.{PositionalAfterNamed, RepeatedName}
use Rattle.diagnostic.specs.declared.ids.Id.TheVariants.{MissingName, UnknownTrait, MissingArgument}
use Rattle.diagnostic.specs.declared.ids.Id.TheVariants.{UnusedArgument, RedundantArgument}
use Rattle.diagnostic.specs.declared.ids.Id.TheVariants.{NameUsedByIndex, MissingFormatString}
use Rattle.diagnostic.specs.declared.ids.Id.TheVariants.{NoStringLiteral, MissingComma}
use Rattle.diagnostic.specs.declared.ids.Id.TheVariants.{MissingExpression, OperandOrder}
use Rattle.diagnostic.specs.declared.ids.Id.TheVariants.{RegisterName, WrongOperand, LongModifier}
use Rattle.diagnostic.specs.declared.ids.Id.TheVariants.{SpecifierInMessage, PositionalInMessage}
use Rattle.diagnostic.specs.declared.ids.Id.TheVariants.{MissingParameter}
use Rattle.fault_rules.proofs.laws.each_kind_has_a_rule.Goals as goal

pub returns : goal.returns
unfolding name
returns c UnmatchedClosingBrace = refl
returns c MissingClosingBrace = refl
returns c ClosingBraceAsFill = refl
returns c UnderscoreAsName = refl
returns c IntegerTooLarge = refl
returns c UnnamedArgument = refl
returns c TextAfterColon = refl
returns c RawIdentifier = refl
returns c FlagAfterType = refl
returns c MissingColon = refl
returns c DebugBeforeColon = refl
returns c AlignmentBeforeColon = refl
returns c NumericGrouping = refl
returns c DebugEquals = refl
returns c SignBeforeColon = refl
returns c FieldAccess = refl
returns c TupleIndex = refl
returns c PositionalAfterNamed = refl
returns c RepeatedName = refl
returns c MissingName = refl
returns c UnknownTrait = refl
returns c MissingArgument = refl
returns c UnusedArgument = refl
returns c RedundantArgument = refl
returns c NameUsedByIndex = refl
returns c MissingFormatString = refl
returns c NoStringLiteral = refl
returns c MissingComma = refl
returns c MissingExpression = refl
returns c OperandOrder = refl
returns c RegisterName = refl
returns c WrongOperand = refl
returns c LongModifier = refl
returns c SpecifierInMessage = refl
returns c PositionalInMessage = refl
returns c MissingParameter = refl
