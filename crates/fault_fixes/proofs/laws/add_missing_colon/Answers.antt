use Rattle.rustc_parse_format.specs.Placeholder.{position}
use Rattle.rustc_parse_format.specs.Types.{Diagnostic, Format}
use Rattle.fault_fixes.proofs.ColonLaw.{colon-loses, format-reads, diagnostic-reads}
use Rattle.fault_fixes.proofs.laws.add_missing_colon.Goals as goal

pub returns-clause-format : goal.returns-clause-format
returns-clause-format c = λ n u r e h.
    colon-loses Format n u r (format-reads n (position u).0 u (position u).1 r) e h

pub returns-clause-diagnostic : goal.returns-clause-diagnostic
returns-clause-diagnostic c = λ n u r e h.
    colon-loses Diagnostic n u r (diagnostic-reads n (position u).0 u (position u).1 r) e h
