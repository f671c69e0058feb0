use Rattle.std.proofs.Common.{◌≡◌, ap, sym, map, Some, subst, arith, ◌+◌, true, false}
use Rattle.std.specs.Prelude.{slice_get}
use Rattle.format_calls.specs.Rows.{entry}
use Rattle.format_calls.specs.Marks.{is_mark, is_after}
use Rattle.format_calls.specs.Calls.{rule_of_leaf}
use Rattle.format_calls.proofs.CallSteps.{
  closes-rest_after,
  no-partner,
  partner-rest_after,
  same-call,
}
use Rattle.format_calls.proofs.listing.call_at.Goals as goal

pub returns-in_default-partner-clause-each : goal.returns-in_default-partner-clause-each
returns-in_default-partner-clause-each c d k n =
    no-partner _ _ _ d c.in_default-partner.ensures.each k n

pub returns-then-close-name-clause-is_call : goal.returns-then-close-name-clause-is_call
returns-then-close-name-clause-is_call c = record {
  is_listed = sym (subst (λ v. Some c.in-Some.rule
      ≡ rule_of_leaf (map entry c.args.rows.now) (slice_get v c.args.name))
      c.tokens-tokens.ensures c.in-Some.ensures);
  is_macro = sym (subst (λ v. true ≡ is_mark 33 v (c.args.name + 1)) c.tokens-tokens.ensures
      c.if-not-is_mark.ensures.value);
  is_pair = closes-rest_after _ _ _ c.in-Some-partner.ensures.is_partner (omega arith);
  is_fixed = sym (subst (λ v. false ≡ is_after 36 v c.args.name) c.tokens-tokens.ensures
      c.if-is_after.ensures);
}

pub returns-then-close-name-clause-each : goal.returns-then-close-name-clause-each
returns-then-close-name-clause-each c d k n =
    ap (λ t. Some t) (same-call _ _ _ _ _ d (subst (λ v. Some c.in-Some.rule
    ≡ rule_of_leaf (map entry c.args.rows.now) (slice_get v c.args.name))
    c.tokens-tokens.ensures c.in-Some.ensures) c.in-Some-partner.ensures.each k n)

pub returns-else-close-name-clause-each : goal.returns-else-close-name-clause-each
returns-else-close-name-clause-each c d k n =
    partner-rest_after _ _ _ _ d c.in-Some-partner.ensures.each (omega arith) k n
