use Rattle.std.proofs.Common.{rules, IsUtf8}
use Rattle.rust_tokens.proofs.Readings.{step-begins, fewer}
use Rattle.rust_tokens.proofs.lexer.any_step.Goals as goal

pub returns-clause-begins : goal.returns-clause-begins
returns-clause-begins c =
    let v : IsUtf8 c.after_suffix-rest.result.now = search rules in
    let u : IsUtf8 c.in-Some.body.rest.now = search rules in
    step-begins _ _ _ _ _ c.utf8.text u v c.in-Some.ensures c.after_suffix-rest.ensures

pub returns-clause-fewer : goal.returns-clause-fewer
returns-clause-fewer c =
    let x = returns-clause-begins c in
    fewer x.0 _ _ _ _ _ x.1 x.4 x.5
