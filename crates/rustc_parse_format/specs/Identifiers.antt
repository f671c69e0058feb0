-- Whether an argument is a name and nothing else. Recovery after a dot depends on it.
use Rattle.std.specs.Prelude.{◌≡◌, Bool, true, false, not, ◌&&◌, is_none}
use Rattle.rustc_parse_format.specs.Characters.{Text, is_nil}
use Rattle.rustc_parse_format.specs.Types.{Named, is_named, Alignment, Left, Right, Center, Unknown}
use Rattle.rustc_parse_format.specs.Types.{Count, Is, Name, Param, Star, Implied}
use Rattle.rustc_parse_format.specs.Types.{Spec, Argument, default_spec}

pub record IsIdentifier {A : Type 0} (a : Argument A) : Type 0 where
  pub name : Text
  -- The position is the name.
  pub position : a.position ≡ Named name
  -- Each part of the specification is absent.
  pub format : a.format ≡ default_spec

-- The alignment is absent.
abbrev pub is_unknown : Alignment → Bool
is_unknown Left = false
is_unknown Right = false
is_unknown Center = false
is_unknown Unknown = true

-- The count is absent.
abbrev pub is_implied : {A : Type 0} → Count A → Bool
is_implied (Is n) = false
is_implied (Name w s) = false
is_implied (Param n) = false
is_implied (Star n) = false
is_implied Implied = true

-- Each part of the specification is absent, and so is each span.
unfoldable pub is_default : {A : Type 0} → Spec A → Bool
is_default s =
    is_none s.fill && is_none s.fill_span && is_unknown s.align && is_none s.sign && not s.alternate
    && not s.zero_pad && is_none s.debug_hex
    && is_implied s.width && is_none s.width_span && is_implied s.precision
    && is_none s.precision_span && is_nil s.ty && is_none s.ty_span

-- The argument is a name and nothing else, computed. It is so exactly if `IsIdentifier` holds.
abbrev pub is_identifier : {A : Type 0} → Argument A → Bool
is_identifier a = is_named a.position && is_default a.format
