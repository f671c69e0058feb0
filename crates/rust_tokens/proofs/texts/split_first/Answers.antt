use Rattle.rust_tokens.proofs.SplitFirst.{split-front, split-shorter}
use Rattle.rust_tokens.proofs.texts.split_first.Goals as goal

pub returns-in-Some : goal.returns-in-Some
returns-in-Some c =
    rw (c.as_str.ensures) (rw (← c.chars-rest.ensures.rest)
    record {
      value = split-front _ _ c.in-Some.first (rw c.chars-rest.ensures.rest c.utf8.text)
          c.in-Some.ensures.steps.0;
      shorter = split-shorter _ _ c.in-Some.first c.in-Some.ensures.steps.0;
    })
