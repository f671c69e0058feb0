use Rattle.std.proofs.Common.{refl}
use Rattle.rustc_parse_format.specs.FaultIds.{fault_id}
use Rattle.rustc_parse_format.specs.Faults.{message, UnmatchedBrace, MissingBrace, FillBrace}
use Rattle.rustc_parse_format.specs.Faults.{Underscore, TooLarge, Unnamed, TextAfterColon}
use Rattle.rustc_parse_format.specs.Faults.{RawIdentifier, LateFlag, MissingColon, LateDebug}
use Rattle.rustc_parse_format.specs.Faults.{LateAlign, Grouping, DebugPrint, LateSign}
use Rattle.rustc_parse_format.specs.Faults.{FieldAccess, TupleIndex}
use Rattle.text_diagnostics.specs.Suggestions.{suggestions}
use Rattle.fault_rules.proofs.laws.applied_by_id.Goals as goal

pub returns : goal.returns
unfolding fault_id message suggestions
returns k (UnmatchedBrace s) h = refl
returns k (MissingBrace c s o) h = refl
returns k (FillBrace c s o) h = refl
returns k (Underscore s) h = refl
returns k (TooLarge ds s) h = refl
returns k (Unnamed s) h = refl
returns k (TextAfterColon s) h = refl
returns k (RawIdentifier s p) h = refl
returns k (LateFlag c s b) h = refl
returns k (MissingColon s) h = refl
returns k (LateDebug w s) h = refl
returns k (LateAlign c s) h = refl
returns k (Grouping s o) h = refl
returns k (DebugPrint s o) h = cc
returns k (LateSign s) h = refl
returns k (FieldAccess s) h = cc
returns k (TupleIndex s) h = cc
