-- Two parsers over one input in one mode, each in its own world.
use Rattle.std.specs.Prelude.{◌≡◌, map}
use Rattle.rustc_parse_format.specs.Faults.{bare_message}
use Rattle.rustc_parse_format.specs.State.{State}

-- The parsers agree: the same is left of the input, the next number is the same, and so are the
-- errors without their spans.
pub record Agree (s t : State) : Type 0 where
  pub mode : s.mode ≡ t.mode
  pub input : s.input ≡ t.input
  pub rest : s.rest ≡ t.rest
  pub next : s.next ≡ t.next
  pub errors : map bare_message s.errors ≡ map bare_message t.errors
