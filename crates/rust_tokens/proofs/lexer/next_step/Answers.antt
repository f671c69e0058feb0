use Rattle.std.proofs.Common.{rules, IsUtf8, ◌&&◌, true, ap, sym, chars}
use Rattle.rust_tokens.specs.First.{after_suffix}
use Rattle.rust_tokens.proofs.Readings.{step-begins, fewer}
use Rattle.rust_tokens.proofs.lexer.next_step.Goals as goal

pub returns-in-Some-clause-begins : goal.returns-in-Some-clause-begins
returns-in-Some-clause-begins c =
    let u : IsUtf8 c.in-Some.rest.now = search rules in
    step-begins _ _ _ _ _ c.utf8.text u u c.in-Some.ensures.first
    (sym (ap (λ b. after_suffix (b && true) (chars c.in-Some.rest.now)) c.in-Some.ensures.bare))

pub returns-in-Some-clause-fewer : goal.returns-in-Some-clause-fewer
returns-in-Some-clause-fewer c =
    let x = returns-in-Some-clause-begins c in
    fewer x.0 _ _ _ _ _ x.1 x.4 x.5
