use Rattle.file_fixes.proofs.AllFaultLaws.{alone}
use Rattle.file_fixes.proofs.all_faults.put_faults.Goals as goal

pub returns-in_default : goal.returns-in_default
returns-in_default c = alone c.args.text.now c.args.finding.now _ _ c.in_ok-put_copy.ensures

pub returns-then-is_empty : goal.returns-then-is_empty
returns-then-is_empty c = alone c.args.text.now c.args.finding.now _ _ c.in_ok-put_copy-2.ensures
