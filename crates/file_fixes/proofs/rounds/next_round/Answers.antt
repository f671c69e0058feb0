use Rattle.std.proofs.Common.{sym}
use Rattle.file_fixes.proofs.rounds.next_round.Goals as goal

pub returns-in-None-clause-last : goal.returns-in-None-clause-last
returns-in-None-clause-last c = rw c.in-None.is c.round_after.ensures.last

pub returns-in-Some-clause-last : goal.returns-in-Some-clause-last
returns-in-Some-clause-last c =
    rw (c.in-Some.is, sym c.as_str.ensures.value) c.round_after-in-Some.ensures.last
