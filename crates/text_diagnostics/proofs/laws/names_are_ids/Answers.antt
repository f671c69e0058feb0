use Rattle.std.proofs.Common.{refl}
use Rattle.diagnostic.specs.Ids.{name}
use Rattle.rustc_parse_format.specs.FaultIds.{fault_id}
use Rattle.rustc_parse_format.specs.Faults.{UnmatchedBrace, MissingBrace, FillBrace, Underscore}
use Rattle.rustc_parse_format.specs.Faults.{TooLarge, Unnamed, TextAfterColon, RawIdentifier}
use Rattle.rustc_parse_format.specs.Faults.{LateFlag, MissingColon, LateDebug, LateAlign, Grouping}
use Rattle.rustc_parse_format.specs.Faults.{DebugPrint, LateSign, FieldAccess, TupleIndex}
use Rattle.text_diagnostics.specs.Ids.{text_id}
use Rattle.text_diagnostics.proofs.laws.names_are_ids.Goals as goal

pub returns : goal.returns
unfolding fault_id name text_id
returns k (UnmatchedBrace s) = refl
returns k (MissingBrace c s o) = refl
returns k (FillBrace c s o) = refl
returns k (Underscore s) = refl
returns k (TooLarge ds s) = refl
returns k (Unnamed s) = refl
returns k (TextAfterColon s) = refl
returns k (RawIdentifier s p) = refl
returns k (LateFlag c s b) = refl
returns k (MissingColon s) = refl
returns k (LateDebug w s) = refl
returns k (LateAlign c s) = refl
returns k (Grouping s o) = refl
returns k (DebugPrint s o) = refl
returns k (LateSign s) = refl
returns k (FieldAccess s) = refl
returns k (TupleIndex s) = refl
