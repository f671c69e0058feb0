use Rattle.format_tokens.proofs.LiteralMarks.{literal-marks}
use Rattle.format_tokens.proofs.SectionLaws.{section-marks}
use Rattle.format_tokens.proofs.Sectioning.{sections-faults, sections-tokens}
use Rattle.format_tokens.proofs.laws.marks.Goals as goal

pub returns-clause-tokens : goal.returns-clause-tokens
returns-clause-tokens c = sections-tokens

pub returns-clause-faults : goal.returns-clause-faults
returns-clause-faults c = sections-faults

pub returns-clause-marks : goal.returns-clause-marks
returns-clause-marks c = section-marks

pub returns-clause-literals : goal.returns-clause-literals
returns-clause-literals c = literal-marks
