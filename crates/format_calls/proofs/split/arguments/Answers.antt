use Rattle.format_calls.proofs.Walking.{closes-before, closes-none, opens-front}
use Rattle.format_calls.proofs.split.arguments.Goals as goal

pub arguments_between-requires : goal.arguments_between-requires
arguments_between-requires c =
    opens-front _ _ _ c.in-Some.ensures.is_partner c.if-opening-close.true

pub returns-else-opening-close-clause-none : goal.returns-else-opening-close-clause-none
returns-else-opening-close-clause-none c f =
    closes-before _ _ _ c.in-Some.ensures.each c.if-opening-close.false

pub returns-in-None-clause-none : goal.returns-in-None-clause-none
returns-in-None-clause-none c f = closes-none _ _ c.in-None.ensures.each
