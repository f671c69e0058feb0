use Rattle.std.proofs.Common.{sym, ◌∙◌}
use Rattle.rust_tokens.proofs.Hashes.{hash_end}
use Rattle.rust_tokens.proofs.ends.after_hashes.Goals as goal

pub returns-in_default : goal.returns-in_default
returns-in_default c =
    sym (hash_end _ _ c.in_default.ensures.cases c.loop-countdown-test.true)
    ∙ c.loop-countdown.invariant
