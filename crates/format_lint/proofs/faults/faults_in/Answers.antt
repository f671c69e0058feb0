use Rattle.format_lint.proofs.faults.faults_in.Goals as goal

pub returns : goal.returns
returns c = rw c.in_ok-parser.ensures at c.faults_of.ensures
