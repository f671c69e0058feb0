use Rattle.std.proofs.Common.{◌≤◌, ◌-◌, suc, IfNone, IfSome}
use Rattle.rustc_parse_format.specs.Views.{seen_mode}
use Rattle.fault_fixes.specs.Fixing.{FixedLiteral}
use Rattle.fault_fixes.specs.Rounds.{AreRounds}
use Rattle.fault_fixes.specs.SeenEdits.{seen_best, seen_fixed}
use Rattle.fault_fixes.proofs.RoundLaws.{IsBest}
use Rattle.fault_fixes.proofs.rounds.fix.Given as goal

-- The next round is reached, or there is none, and the best of those before it is known.
abbrev pub invariant-loop-rounds : goal.invariant-loop-rounds
invariant-loop-rounds l =
    let start : FixedLiteral = record { snippet = l.fn.snippet; text = l.fn.input } in
    record {
      few : l.rounds ≤ 8;
      some : IfSome l.next_literal (λ f. AreRounds (seen_mode l.mode) l.style l.appended_newline
          (suc l.rounds) start (seen_fixed f));
      none : IfNone l.next_literal ((g : FixedLiteral) → AreRounds (seen_mode l.mode) l.style
          l.appended_newline (suc l.rounds) start g → ⊥);
      best : IsBest (seen_mode l.mode) l.style l.appended_newline start l.rounds
          (seen_best l.best).literal (seen_best l.best).calls;
    }

abbrev pub decreases-loop-rounds : goal.decreases-loop-rounds
decreases-loop-rounds l = 8 - l.rounds
