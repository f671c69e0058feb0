use Rattle.std.proofs.Common.{◌≡◌, drop, map}
use Rattle.fault_rules.specs.Rules.{is_id}
use Rattle.fault_rules.proofs.rules.find.Given as goal

-- No rule before this one has the id.
abbrev pub invariant-loop-rule : goal.invariant-loop-rule
invariant-loop-rule l = is_id l.id (map (λ r. r.id.now) l.rules)
    ≡ is_id l.id (map (λ r. r.id.now) (drop l.rule-index l.rules))
