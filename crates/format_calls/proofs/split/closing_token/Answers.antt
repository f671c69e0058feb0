use Rattle.std.proofs.Common.{◌≡◌, arith, inl}
use Rattle.std.proofs.lemmas.Option.{none-some, same_Some}
use Rattle.format_calls.proofs.CallSteps.{closes-rest_after}
use Rattle.format_calls.proofs.split.closing_token.Goals as goal

pub returns-in-Some-clause-some : goal.returns-in-Some-clause-some
returns-in-Some-clause-some c = closes-rest_after c.args.source.now c.args.index c.in-Some.partner
    c.in-Some.ensures.is_partner (omega arith)

pub returns-in_default-clause-none : goal.returns-in_default-clause-none
returns-in_default-clause-none c = λ e j p.
    let n : c.in-Some.partner ≡ j =
    same_Some c.in-Some.partner j (c.in-Some.ensures.each j (inl p)) in
    let l = p.ends in
    let f = c.if-partner-index.false in absurd (omega (arith, n, l, f))

pub returns-in_default-2-clause-none : goal.returns-in_default-2-clause-none
returns-in_default-2-clause-none c = λ e j p. absurd (none-some j
    (c.in_default.ensures.each j (inl p)))
