use Rattle.fault_fixes.proofs.rounds.next_round.Goals as goal

pub returns-clause-none : goal.returns-clause-none
returns-clause-none c =
    rw (c.as_str-text.ensures.value, c.as_str-snippet.ensures.value) at c.in_ok-round.ensures.none
