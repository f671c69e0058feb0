use Rattle.std.proofs.Common.{◌≡◌, ◌≤◌, ◌+◌, ◌++◌, drop, map}
use Rattle.rust_trees.specs.Leaves.{leaf}
use Rattle.call_forms.specs.Generics.{parameters_from, start}
use Rattle.call_forms.proofs.generics.parameters.Given as goal

-- The parameters so far, and then those of the tokens that are left, are all.
abbrev pub invariant-loop-token : goal.invariant-loop-token
invariant-loop-token l = record {
  few : l.place.angles + l.place.open_delimiters ≤ l.token-index + 1;
  all : map (λ w. w.now) l.names.items
      ++ parameters_from l.place (map leaf (drop l.token-index l.token-items))
      ≡ parameters_from start (map leaf l.token-items);
}
