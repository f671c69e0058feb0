use Rattle.std.proofs.Common.{◌≡◌, ◌++◌, length}
use Rattle.std.specs.Prelude.{string_bytes}
use denote.Shadow.{shadow}
use denote.Text.{Utf8}
use Rattle.shown_text.specs.Shown.{shown}
use Rattle.shown_text.proofs.gate.put_shown.Given as goal

-- The text written, and then that of the rest, is all.
abbrev pub invariant-loop-c : goal.invariant-loop-c
invariant-loop-c l = shadow (Utf8 l.rest) × (string_bytes l.out
    ++ shown l.kind l.rest
    ≡ string_bytes l.fn.out ++ shown l.fn.kind l.fn.text)

abbrev pub decreases-loop-c : goal.decreases-loop-c
decreases-loop-c l = length l.rest
