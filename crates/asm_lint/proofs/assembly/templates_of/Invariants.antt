use Rattle.std.proofs.Common.{◌≡◌, ◌+◌, ◌<◌, ◌^◌, ◌++◌, drop, length, map}
use Rattle.std.specs.Prelude.{string_bytes}
use Rattle.std.specs.List.{AllByRecursion}
use Rattle.rustc_parse_format.specs.World.{hashes}
use Rattle.asm_faults.specs.Views.{seen_template}
use Rattle.asm_lint.specs.Assembly.{seen_read}
use Rattle.asm_lint.proofs.assembly.templates_of.Given as goal

-- The templates so far, and then those that are left, are all.
abbrev pub invariant-loop-template : goal.invariant-loop-template
invariant-loop-template l = record {
  seen : map seen_template l.templates.items
      ++ map seen_read (drop l.template-index l.template_list)
      ≡ map seen_read l.template_list;
  left : AllByRecursion (λ t.
      hashes t.literal.style + length (string_bytes t.literal.text) + 2 < 2 ^ 64)
      (drop l.template-index l.template_list);
  short : AllByRecursion (λ t. hashes t.style + length t.text.now + 2 < 2 ^ 64) l.templates.items;
}
