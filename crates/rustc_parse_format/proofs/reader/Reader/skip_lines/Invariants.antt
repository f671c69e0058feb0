use Rattle.std.proofs.Common.{◌≡◌, length, true}
use Rattle.rustc_parse_format.specs.CallStates.{CallState, IsInOneLine, read_run}
use Rattle.rustc_parse_format.proofs.reader.Reader.skip_lines.Given as goal

abbrev pub invariant-loop-c : goal.invariant-loop-c
invariant-loop-c l = record {
  source : l.self.world.has_source ≡ true;
  run : ◌≡◌ {A = CallState} (read_run l.self) (read_run l.fn.self);
  spare : IsInOneLine l.fn.self → IsInOneLine l.self;
}

abbrev pub decreases-loop-c : goal.decreases-loop-c
decreases-loop-c l = length l.self.rest
