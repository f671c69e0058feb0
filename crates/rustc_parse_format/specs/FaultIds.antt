-- The ids of faults, for programs and people that choose among them.
use Rattle.std.specs.Prelude.{ℕ, List, codes}
use Rattle.rustc_parse_format.specs.Faults.{Fault, UnmatchedBrace, MissingBrace, FillBrace}
use Rattle.rustc_parse_format.specs.Faults.{Underscore, TooLarge, Unnamed, TextAfterColon}
use Rattle.rustc_parse_format.specs.Faults.{RawIdentifier, LateFlag, MissingColon, LateDebug}
use Rattle.rustc_parse_format.specs.Faults.{LateAlign, Grouping, DebugPrint, LateSign}
use Rattle.rustc_parse_format.specs.Faults.{FieldAccess, TupleIndex}

-- The id of a fault, the same for all faults of its kind.
unfoldable pub fault_id : {A : Type 0} → Fault A → List ℕ
fault_id (UnmatchedBrace s) = codes "unmatched-closing-brace"
fault_id (MissingBrace c s o) = codes "missing-closing-brace"
fault_id (FillBrace c s o) = codes "closing-brace-as-fill"
fault_id (Underscore s) = codes "underscore-as-name"
fault_id (TooLarge ds s) = codes "integer-too-large"
fault_id (Unnamed s) = codes "unnamed-argument"
fault_id (TextAfterColon s) = codes "text-after-colon"
fault_id (RawIdentifier s p) = codes "raw-identifier"
fault_id (LateFlag c s b) = codes "flag-after-type"
fault_id (MissingColon s) = codes "missing-colon"
fault_id (LateDebug w s) = codes "debug-before-colon"
fault_id (LateAlign c s) = codes "alignment-before-colon"
fault_id (Grouping s o) = codes "numeric-grouping"
fault_id (DebugPrint s o) = codes "debug-equals"
fault_id (LateSign s) = codes "sign-before-colon"
fault_id (FieldAccess s) = codes "field-access"
fault_id (TupleIndex s) = codes "tuple-index"

-- The number of a fault's kind.
unfoldable pub kind : {A : Type 0} → Fault A → ℕ
kind (UnmatchedBrace s) = 0
kind (MissingBrace c s o) = 1
kind (FillBrace c s o) = 2
kind (Underscore s) = 3
kind (TooLarge ds s) = 4
kind (Unnamed s) = 5
kind (TextAfterColon s) = 6
kind (RawIdentifier s p) = 7
kind (LateFlag c s b) = 8
kind (MissingColon s) = 9
kind (LateDebug w s) = 10
kind (LateAlign c s) = 11
kind (Grouping s o) = 12
kind (DebugPrint s o) = 13
kind (LateSign s) = 14
kind (FieldAccess s) = 15
kind (TupleIndex s) = 16
