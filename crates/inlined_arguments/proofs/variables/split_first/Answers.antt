use Rattle.std.proofs.lemmas.Str.{chars_past_char}
use Rattle.inlined_arguments.proofs.variables.split_first.Goals as goal

pub returns-clause-parts : goal.returns-clause-parts
returns-clause-parts c =
    rw c.as_str.ensures (rw (← c.chars-rest.ensures.rest)
    (chars_past_char _ _ _ (rw c.chars-rest.ensures.rest c.utf8.text) c.in_ok-c.ensures.steps.0))
