-- The fault of a format string that rustc shows: of the first call of its parser that finds any.
use Rattle.std.specs.Prelude.{if◌then◌else◌, List, [], ◌∷◌, Option, Some, None}
use Rattle.rustc_parse_format.specs.Call.{Call}
use Rattle.rustc_parse_format.specs.Marks.{Span}
use Rattle.rustc_parse_format.specs.Faults.{Fault, is_front}
use Rattle.rustc_parse_format.specs.State.{State, calls}
use Rattle.rustc_parse_format.specs.World.{Place, faults_in}

-- The first list, or the second one if it is empty.
abbrev pub or_else : {A : Type 0} → List A → List A → List A
or_else [] ys = ys
or_else (x ∷ xs) ys = x ∷ xs

-- The faults of the first of these calls that finds any.
abbrev pub first_faults : List Call → List (Fault Span)
first_faults [] = []
first_faults (k ∷ ks) = or_else k.faults (first_faults ks)

-- The one of these faults of a call, after f, whose error comes first in the list of a parser: the
-- last one whose error is put in front of all others, or else the first of all.
abbrev pub shown_of : {A : Type 0} → Fault A → List (Fault A) → Fault A
shown_of f [] = f
shown_of f (g ∷ gs) = shown_of (if is_front g then g else f) gs

-- The fault that is shown of these of a call, if there are any.
abbrev pub shown_fault : {A : Type 0} → List (Fault A) → Option (Fault A)
shown_fault [] = None
shown_fault (f ∷ fs) = Some (shown_of f fs)

-- The fault that is shown of all calls from this state on.
abbrev pub text_fault : State → Option (Fault Place)
text_fault s = shown_fault (faults_in s.world (first_faults (calls s)))
