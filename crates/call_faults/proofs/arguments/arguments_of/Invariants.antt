use Rattle.std.proofs.Common.{◌≡◌, ◌++◌, [], map, drop}
use Rattle.std.specs.List.{list_any}
use Rattle.call_faults.specs.Arguments.{kept_after, list_faults}
use Rattle.call_faults.specs.Calls.{is_last}
use Rattle.call_faults.specs.Views.{Holds, seen_fault, seen_given, seen_entry}
use Rattle.call_faults.proofs.arguments.arguments_of.Given as goal

-- What was found, and then what is found of the arguments that are left, is all; and so it is with
-- the arguments that count.
abbrev pub invariant-loop-index : goal.invariant-loop-index
invariant-loop-index l = record {
  holds : Holds (map seen_entry l.arguments.list.items) l.arguments;
  outcome : map seen_fault l.faults.items ++ list_faults (map seen_entry l.arguments.list.items)
      l.index
      (map seen_given (drop l.index l.call_arguments))
      ≡ map seen_fault l.fn.faults.items ++ list_faults [] 0 (map seen_given l.call_arguments);
  kept : kept_after (map seen_entry l.arguments.list.items) l.index
      (map seen_given (drop l.index l.call_arguments))
      ≡ kept_after [] 0 (map seen_given l.call_arguments);
  ends : list_any is_last (list_faults (map seen_entry l.arguments.list.items) l.index
      (map seen_given (drop l.index l.call_arguments)))
      ≡ list_any is_last (list_faults [] 0 (map seen_given l.call_arguments));
}
