use Rattle.std.proofs.Common.{◌≡◌, ◌≤◌, ◌++◌, drop, length, map}
use Rattle.asm_faults.specs.Views.{seen_lookup, seen_template}
use Rattle.asm_faults.specs.Templates.{lookups_from, template_fault}
use Rattle.asm_faults.proofs.templates.push_templates.Given as goal

-- What is in the list, and then what is looked up for the templates that are left, is all; and the
-- first fault is one of theirs.
abbrev pub invariant-loop-index : goal.invariant-loop-index
invariant-loop-index l = record {
  lookups : map seen_lookup l.walk.lookups.items
      ++ lookups_from l.index l.walk.next (map seen_template (drop l.index l.templates))
      ≡ map seen_lookup l.fn.walk.lookups.items
      ++ lookups_from 0 l.fn.walk.next (map seen_template l.templates);
  fault : template_fault l.index (map seen_template (drop l.index l.templates))
      ≡ template_fault 0 (map seen_template l.templates);
  few : l.walk.next ≤ length l.walk.lookups.items;
}
