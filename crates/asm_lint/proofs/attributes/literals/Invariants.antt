use Rattle.std.proofs.Common.{◌≡◌, ◌<◌, ◌++◌, drop, false, length, map}
use Rattle.std.specs.List.{AllByRecursion}
use Rattle.rust_trees.specs.Leaves.{leaf}
use Rattle.asm_lint.specs.Attributes.{texts_from}
use Rattle.asm_lint.proofs.attributes.literals.Given as goal

-- The literals so far, and then those of the options that are left, are all.
abbrev pub invariant-loop-option : goal.invariant-loop-option
invariant-loop-option l = record {
  lie : AllByRecursion (λ a. a.start < length l.tokens) (drop l.option-index l.options);
  all : map leaf l.literals.items ++ texts_from (map leaf l.tokens) l.has_message l.has_label
      (drop l.option-index l.options) ≡ texts_from (map leaf l.tokens) false false l.options;
}
