-- The effect of a function that reads: it reads up to a point of the input, or an allocation fails.
use Rattle.std.specs.Prelude.{◌≡◌, ℕ, List, [], Result, IsOk, OnErr, OnOk}
use Rattle.std.specs.declared.alloc.AllocError.{AllocError}
use Rattle.rustc_parse_format.specs.Characters.{Text}
use Rattle.rustc_parse_format.specs.Faults.{Fault}
use Rattle.rustc_parse_format.specs.Marks.{Span}
use Rattle.rustc_parse_format.specs.CallStates.{CallState, read_to, read_tries}

-- If the result is Ok, the state is `to`. If an allocation fails, the source is still the same and
-- nothing else is known. If the function keeps nothing, it does not allocate and the result is Ok.
pub record Reaches {A : Type 0} (old : CallState) (result : Result A AllocError)
    (new to : CallState) (KeepsNothing : Type 0) : Type 0 where
  pub state : OnOk result (new ≡ to)
  pub err : OnErr result (new.source ≡ old.source)
  pub spare : KeepsNothing → IsOk result

-- If the result is Ok, the function has read up to r, with n as the next number, these faults found
-- and the words at these suffixes tried for a count.
abbrev pub ReadsTo : {A : Type 0} → CallState → Result A AllocError → CallState → Text → ℕ
    → List (Fault Span) → List Text → Type 0
ReadsTo old result new r n fs ts =
    Reaches old result new (read_tries (read_to old r n fs) ts) (fs ≡ [])
