use Rattle.std.proofs.Common.{◌≡◌, ◌++◌, drop}
use Rattle.std.specs.Prelude.{string_bytes}
use Rattle.serde_json.specs.Data.{array}
use Rattle.emit.specs.Sarif.{rule_json}
use Rattle.emit.specs.Texts.{array_text, items_of, json_text}
use Rattle.emit.proofs.sarif.put_rules.Given as goal

-- The text written, and then that of the rules left, is all.
abbrev pub invariant-loop-rule : goal.invariant-loop-rule
invariant-loop-rule l = string_bytes l.out ++ array_text l.is_later
    (items_of rule_json (drop l.rule-index l.rules))
    ≡ string_bytes l.fn.out ++ json_text (array (items_of rule_json l.rules))
