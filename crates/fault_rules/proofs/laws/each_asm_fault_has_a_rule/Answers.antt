use Rattle.std.proofs.Common.{refl}
use Rattle.rustc_parse_format.specs.FaultIds.{fault_id}
use Rattle.rustc_parse_format.specs.Faults.{UnmatchedBrace, MissingBrace, FillBrace, Underscore}
use Rattle.rustc_parse_format.specs.Faults.{TooLarge, Unnamed, TextAfterColon, RawIdentifier}
use Rattle.rustc_parse_format.specs.Faults.{LateFlag, MissingColon, LateDebug, LateAlign, Grouping}
use Rattle.rustc_parse_format.specs.Faults.{DebugPrint, LateSign, FieldAccess, TupleIndex}
use Rattle.asm_faults.specs.AsmFaults.{PositionalAfter, RepeatedName, RegisterName, WrongIndex}
use Rattle.asm_faults.specs.AsmFaults.{MissingName, LongModifier, TemplateFault, UnusedOperands}
use Rattle.asm_faults.specs.Words.{asm_id}
use Rattle.fault_rules.proofs.laws.each_asm_fault_has_a_rule.Goals as goal

pub returns : goal.returns
unfolding asm_id fault_id
returns c (TemplateFault k (UnmatchedBrace s)) = refl
returns c (TemplateFault k (MissingBrace a s o)) = refl
returns c (TemplateFault k (FillBrace a s o)) = refl
returns c (TemplateFault k (Underscore s)) = refl
returns c (TemplateFault k (TooLarge ds s)) = refl
returns c (TemplateFault k (Unnamed s)) = refl
returns c (TemplateFault k (TextAfterColon s)) = refl
returns c (TemplateFault k (RawIdentifier s p)) = refl
returns c (TemplateFault k (LateFlag a s b)) = refl
returns c (TemplateFault k (MissingColon s)) = refl
returns c (TemplateFault k (LateDebug w s)) = refl
returns c (TemplateFault k (LateAlign a s)) = refl
returns c (TemplateFault k (Grouping s o)) = refl
returns c (TemplateFault k (DebugPrint s o)) = refl
returns c (TemplateFault k (LateSign s)) = refl
returns c (TemplateFault k (FieldAccess s)) = refl
returns c (TemplateFault k (TupleIndex s)) = refl
returns c (PositionalAfter i js) = refl
returns c (RepeatedName i f) = refl
returns c (RegisterName i) = refl
returns c (WrongIndex s i n) = refl
returns c (MissingName s w) = refl
returns c (LongModifier s) = refl
returns c (UnusedOperands is) = refl
