-- The lookups of rustc for the placeholders of a format string, in its order.
use Rattle.std.specs.Prelude.{ℕ, suc, Bool, true, false, ◌==◌, ◌&&◌, ◌++◌, List, [], ◌∷◌, map}
use Rattle.std.specs.Prelude.{codes}
use Rattle.std.specs.Prelude.{if◌then◌else◌}
use Rattle.std.specs.List.{list_any}
use Rattle.rustc_parse_format.specs.Characters.{Text, is_nil}
use Rattle.rustc_parse_format.specs.Types.{Argument, Piece, Lit, NextArgument}
use Rattle.placeholder_check.specs.Uses.{Use, count_uses, position_use}
use Rattle.call_faults.specs.declared.faults.Part.{Part}
use Rattle.call_faults.specs.declared.faults.Part.TheVariants.{Position, Precision, Width}
use Rattle.call_faults.specs.declared.faults.Reference.{Reference}

-- The types of format specifications that name a trait: none, for `Display`, and those in the
-- documentation of `std::fmt`. The flag `x` or `X` in front of `?` is no part of the type.
abbrev pub is_known : Text → Bool
is_known [] = true
is_known (c ∷ t) = list_any (λ d. c == d) (codes "?oxXpbeE") && is_nil t

-- A lookup: an argument, or the trait of this type, which does not exist, for the
-- placeholder of this index.
pub data Lookup : Type 0 where
  Refer : Reference → Use → Lookup
  NoTrait : ℕ → Text → Lookup

-- References from this part of the placeholder k.
abbrev pub refer : ℕ → Part → List Use → List Lookup
refer k p us = map (Refer (record { piece = k; part = p })) us

-- The lookups for the placeholder k: its position, its trait if that does not exist, its
-- precision and its width.
abbrev pub argument_lookups : {A : Type 0} → ℕ → Argument A → List Lookup
argument_lookups k a =
    refer k Position (position_use a.position ∷ [])
    ++ (if is_known a.format.ty then [] else NoTrait k a.format.ty ∷ [])
    ++ refer k Precision (count_uses a.format.precision)
    ++ refer k Width (count_uses a.format.width)

-- The lookups for the piece k. Text has nothing to look up.
abbrev pub piece_lookups : {A : Type 0} → ℕ → Piece A → List Lookup
piece_lookups k (Lit t) = []
piece_lookups k (NextArgument a) = argument_lookups k a

-- The lookups for these pieces, the first of which has the index k.
abbrev pub lookups_from : {A : Type 0} → ℕ → List (Piece A) → List Lookup
lookups_from k [] = []
lookups_from k (p ∷ ps) = piece_lookups k p ++ lookups_from (suc k) ps
