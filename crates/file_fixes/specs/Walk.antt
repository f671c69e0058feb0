-- The tokens of a file that no edit touches, as one walk over the tokens and the edits finds them.
-- They are those of `Outside`: proofs/WalkLaws.antt.
use Rattle.std.specs.Prelude.{◌+◌, ◌-◌, ◌++◌, ℕ, Bool, true, List, [], ◌∷◌, drop, length, nat_le}
use Rattle.std.specs.Prelude.{if◌then◌else◌}
use Rattle.fault_fixes.specs.Edits.{Edit}
use Rattle.rust_tokens.specs.declared.kinds.Token.{Token}
use Rattle.file_fixes.specs.declared.outside.EditedPart.{EditedPart}
use Rattle.file_fixes.specs.declared.outside.PartsAhead.{PartsAhead}
use Rattle.file_fixes.specs.Outside.{moved_token}

-- The parts of a text that edits remove from it. A part has a gap before it, the bytes from the end
-- of the part before it on, or from the offset `at` on, and a width.
abbrev pub old_parts : ℕ → List Edit → List EditedPart
old_parts at [] = []
old_parts at (e ∷ es) =
    record { gap = e.span.0 - at; width = e.span.1 - e.span.0 } ∷ old_parts e.span.1 es

-- The parts of the edited text that stand in their place: with the same gaps.
abbrev pub new_parts : ℕ → List Edit → List EditedPart
new_parts at [] = []
new_parts at (e ∷ es) =
    record { gap = e.span.0 - at; width = length e.text } ∷ new_parts e.span.1 es

-- The parts that follow on a place, the end of the part before them, and how many bytes are in all
-- parts up to there.
pub record FollowingParts : Type 0 where
  pub end : ℕ
  pub width : ℕ
  pub parts : List EditedPart

-- All parts of a text.
abbrev pub from_start : List EditedPart → FollowingParts
from_start ps = record { end = 0; width = 0; parts = ps }

-- The parts from an index on.
abbrev pub seen_ahead : List EditedPart → PartsAhead → FollowingParts
seen_ahead ps a = record { end = a.end; width = a.width; parts = drop a.index ps }

-- These parts from the first one on that ends after the offset `at`.
abbrev pub place_after : ℕ → ℕ → ℕ → List EditedPart → FollowingParts
place_after at end width [] = record { end = end; width = width; parts = [] }
place_after at end width (p ∷ ps) = if nat_le (end + p.gap + p.width) at
    then place_after at (end + p.gap + p.width) (width + p.width) ps
    else record { end = end; width = width; parts = p ∷ ps }

-- No part starts before the offset `at`.
abbrev pub is_before : ℕ → ℕ → List EditedPart → Bool
is_before at end [] = true
is_before at end (p ∷ ps) = nat_le at (end + p.gap)

-- Of the tokens of a text those that no part touches, at the places that they have in the text
-- without the parts.
abbrev pub walk : FollowingParts → List Token → List Token
walk a [] = []
walk a (t ∷ ts) = let b = place_after t.span.start a.end a.width a.parts in
    (if is_before t.span.end b.end b.parts then moved_token b.width t ∷ [] else []) ++ walk b ts
