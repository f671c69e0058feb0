use Rattle.std.proofs.Common.{refl}
use Rattle.rustc_parse_format.specs.Faults.{message, UnmatchedBrace, MissingBrace, FillBrace}
use Rattle.rustc_parse_format.specs.Faults.{Underscore, TooLarge, Unnamed, TextAfterColon}
use Rattle.rustc_parse_format.specs.Faults.{RawIdentifier, LateFlag, MissingColon, LateDebug}
use Rattle.rustc_parse_format.specs.Faults.{LateAlign, Grouping, DebugPrint, LateSign}
use Rattle.rustc_parse_format.specs.Faults.{FieldAccess, TupleIndex}
use Rattle.text_diagnostics.specs.Suggestions.{suggestions}
use Rattle.fault_rules.proofs.laws.found_by_label.Goals as goal

pub returns : goal.returns
unfolding message suggestions
returns k (UnmatchedBrace s) = refl
returns k (MissingBrace c s o) = refl
returns k (FillBrace c s o) = refl
returns k (Underscore s) = refl
returns k (TooLarge ds s) = refl
returns k (Unnamed s) = refl
returns k (TextAfterColon s) = refl
returns k (RawIdentifier s p) = refl
returns k (LateFlag c s b) = refl
returns k (MissingColon s) = refl
returns k (LateDebug w s) = refl
returns k (LateAlign c s) = refl
returns k (Grouping s o) = refl
returns k (DebugPrint s o) = refl
returns k (LateSign s) = refl
returns k (FieldAccess s) = refl
returns k (TupleIndex s) = refl
