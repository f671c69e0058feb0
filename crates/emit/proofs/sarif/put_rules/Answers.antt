use Rattle.std.proofs.Common.{◌≡◌, ◌<◌, length, rules}
use Rattle.emit.specs.Sarif.{rule_json}
use Rattle.emit.specs.Texts.{items_of}
use Rattle.emit.proofs.Texts.{array-begins, items-end, items-step}
use Rattle.emit.proofs.sarif.put_rules.Goals as goal

pub loop-rule-init : goal.loop-rule-init
loop-rule-init c = array-begins _ _ (items_of rule_json c.args.rules.now)
    c.in_ok-push_str.ensures.bytes

pub loop-rule-preserved : goal.loop-rule-preserved
loop-rule-preserved c =
    let below : c.loop-rule.rule-index < length c.args.rules.now = search rules in
    items-step rule_json c.args.rules.now c.loop-rule.rule-index _ _ _ _ _ below
    c.in_ok-put_comma.ensures c.in_ok-put_rule.ensures c.loop-rule.invariant

pub returns : goal.returns
returns c =
    let all : c.loop-rule.rule-index ≡ length c.args.rules.now = search rules in
    items-end rule_json c.args.rules.now c.loop-rule.rule-index _ _ _ all
    c.in_ok-push_str-2.ensures.bytes c.loop-rule.invariant
