use Rattle.std.proofs.Common.{◌≡◌, ◌++◌, length}
use Rattle.std.specs.Prelude.{string_bytes}
use Rattle.call_faults.specs.Words.{number_list}
use Rattle.call_faults.proofs.titles.put_numbers.Given as goal

-- What is written, and then the numbers that are left, is all.
abbrev pub invariant-loop-first : goal.invariant-loop-first
invariant-loop-first l = string_bytes l.out ++ number_list l.rest
    ≡ string_bytes l.fn.out ++ number_list l.numbers

abbrev pub decreases-loop-first : goal.decreases-loop-first
decreases-loop-first l = length l.rest
