use Rattle.std.proofs.Common.{◌≡◌, map, drop}
use Rattle.source_lint.specs.Macros.{newline_by, own}
use Rattle.source_lint.proofs.macros.newline_by.Given as goal

abbrev pub invariant-loop-own_macro : goal.invariant-loop-own_macro
invariant-loop-own_macro l = newline_by (map own l.own_macros) l.name
    ≡ newline_by (map own (drop l.own_macro-index l.own_macros)) l.name
