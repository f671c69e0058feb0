use Rattle.std.proofs.Common.{◌≡◌, [], length}
use Rattle.rustc_parse_format.specs.Views.{seen_mode}
use Rattle.fault_fixes.specs.Edits.{joined_edits}
use Rattle.fault_fixes.specs.SeenEdits.{with_edits}
use Rattle.fault_fixes.proofs.FixLaws.{left_edits}
use Rattle.fault_fixes.proofs.fixes.edit_all.Given as goal

-- With the edits of the calls that are left, the text becomes what it does with those of all.
abbrev pub invariant-loop-argument : goal.invariant-loop-argument
invariant-loop-argument l = record {
  none : l.parser.errors ≡ [];
  made : l.faults.items ≡ [];
  same : with_edits l.progress (left_edits (seen_mode l.mode) l.parser)
      ≡ joined_edits [] l.fn.at 0 l.fn.text (left_edits (seen_mode l.mode) l.fn.parser);
}

abbrev pub decreases-loop-argument : goal.decreases-loop-argument
decreases-loop-argument l = length l.parser.rest
