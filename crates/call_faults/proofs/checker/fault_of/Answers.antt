use Rattle.call_faults.proofs.checker.fault_of.Goals as goal

pub returns : goal.returns
returns c = rw (c.in_ok-parser.ensures.start, c.in_ok-snippet.ensures) at c.text_fault.ensures
