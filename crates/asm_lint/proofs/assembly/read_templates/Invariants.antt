use Rattle.std.proofs.Common.{◌+◌, ◌<◌, ◌^◌, ◌++◌, List, drop, length, map}
use Rattle.std.specs.Prelude.{string_bytes}
use Rattle.std.specs.List.{AllByRecursion}
use Rattle.rustc_parse_format.specs.World.{hashes}
use Rattle.rust_trees.specs.Leaves.{leaf}
use Rattle.asm_faults.specs.Templates.{Template}
use Rattle.asm_lint.specs.Assembly.{AreTemplates, HaveNoText, seen_read}
use Rattle.asm_lint.proofs.assembly.read_templates.Given as goal

-- The templates so far, and then those that are left, are all.
abbrev pub invariant-loop-argument : goal.invariant-loop-argument
invariant-loop-argument l = record {
  lie : AllByRecursion (λ a. a.start < length l.tokens) (drop l.argument-index l.arguments);
  read : (ts : List Template)
      → AreTemplates (map leaf l.tokens) (drop l.argument-index l.arguments) ts
      → AreTemplates (map leaf l.tokens) l.arguments (map seen_read l.templates.items ++ ts);
  none : HaveNoText (map leaf l.tokens) (drop l.argument-index l.arguments)
      → HaveNoText (map leaf l.tokens) l.arguments;
  short : AllByRecursion (λ t.
      hashes t.literal.style + length (string_bytes t.literal.text) + 2 < 2 ^ 64) l.templates.items;
}
