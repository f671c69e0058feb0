use Rattle.std.proofs.Common.{rules, IsUtf8, arith}
use Rattle.rust_tokens.proofs.Files.{marked, unmarked}
use Rattle.rust_tokens.proofs.lexer.after_mark.Goals as goal

pub returns-in-Some-clause-within : goal.returns-in-Some-clause-within
returns-in-Some-clause-within c =
    let u : IsUtf8 c.in-Some.rest.now = search rules in
    omega (arith, (marked _ _ c.utf8.text u c.in-Some.ensures).3)

pub returns-in-Some-clause-marked : goal.returns-in-Some-clause-marked
returns-in-Some-clause-marked c =
    let u : IsUtf8 c.in-Some.rest.now = search rules in
    marked _ _ c.utf8.text u c.in-Some.ensures

pub returns-in-None-clause-marked : goal.returns-in-None-clause-marked
returns-in-None-clause-marked c = unmarked _ c.in-None.ensures
