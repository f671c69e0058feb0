use Rattle.std.proofs.Common.{◌∙◌, ap, sym, refl, length, drop, ◌≡◌, map, rules}
use Rattle.format_calls.specs.Rows.{entry, rule_of}
use Rattle.format_calls.proofs.Places.{rule-end, rule-found, rule-later}
use Rattle.format_calls.proofs.table.rule_of.Goals as goal

pub loop-row-init : goal.loop-row-init
loop-row-init c = refl

pub returns-then-eq : goal.returns-then-eq
returns-then-eq c =
    rule-found c.args.rows.now c.loop-row.row-index _ _ _ _ (search rules)
    c.as_bytes.ensures.value c.if-eq.ensures
    c.loop-row.invariant

pub loop-row-preserved : goal.loop-row-preserved
loop-row-preserved c =
    rule-later c.args.rows.now c.loop-row.row-index _ _ _ _ (search rules)
    c.as_bytes.ensures.value c.if-eq.ensures
    c.loop-row.invariant

pub returns : goal.returns
returns c =
    let n : c.loop-row.row-index ≡ length c.args.rows.now = search rules in
    sym (c.loop-row.invariant
    ∙ (ap (λ i. rule_of (map entry (drop i c.args.rows.now)) c.args.word.now) n
    ∙ rule-end c.args.rows.now c.args.word.now))
