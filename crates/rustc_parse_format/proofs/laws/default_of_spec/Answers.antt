use Rattle.std.proofs.Common.{◌≡◌, ◌∙◌, [], None, ap, false, rules}
use Rattle.std.proofs.lemmas.Str.{chars-nil}
use Rattle.std.specs.Prelude.{chars, option_map}
use Rattle.rustc_parse_format.specs.Types.{Implied, Unknown, default_spec}
use Rattle.rustc_parse_format.specs.Views.{pair, seen_alignment, seen_count, seen_debug_hex}
use Rattle.rustc_parse_format.specs.Views.{seen_sign, seen_spec}
use Rattle.rustc_parse_format.specs.World.{Place}
use Rattle.rustc_parse_format.specs.declared.types.FormatSpec.{FormatSpec}
use Rattle.rustc_parse_format.specs.contracts.types.FormatSpecDefault.TheImpl as spec_default
use Rattle.rustc_parse_format.proofs.laws.default_of_spec.Goals as goal

default_fill : (b : FormatSpec) → spec_default.ghosts.is_default b → b.fill ≡ None
default_fill b h = search rules

default_fill_span : (b : FormatSpec) → spec_default.ghosts.is_default b
    → option_map pair b.fill_span ≡ None
default_fill_span b h = search rules

default_align : (b : FormatSpec) → spec_default.ghosts.is_default b
    → seen_alignment b.align ≡ Unknown
default_align b h = search rules

default_sign : (b : FormatSpec) → spec_default.ghosts.is_default b
    → option_map seen_sign b.sign ≡ None
default_sign b h = search rules

default_alternate : (b : FormatSpec) → spec_default.ghosts.is_default b → b.alternate ≡ false
default_alternate b h = search rules

default_zero_pad : (b : FormatSpec) → spec_default.ghosts.is_default b → b.zero_pad ≡ false
default_zero_pad b h = search rules

default_debug_hex : (b : FormatSpec) → spec_default.ghosts.is_default b
    → option_map seen_debug_hex b.debug_hex ≡ None
default_debug_hex b h = search rules

default_precision : (b : FormatSpec) → spec_default.ghosts.is_default b
    → seen_count b.precision ≡ Implied
default_precision b h = search rules

default_precision_span : (b : FormatSpec) → spec_default.ghosts.is_default b
    → option_map pair b.precision_span ≡ None
default_precision_span b h = search rules

default_width : (b : FormatSpec) → spec_default.ghosts.is_default b → seen_count b.width ≡ Implied
default_width b h = search rules

default_width_span : (b : FormatSpec) → spec_default.ghosts.is_default b
    → option_map pair b.width_span ≡ None
default_width_span b h = search rules

default_ty : (b : FormatSpec) → spec_default.ghosts.is_default b → b.ty.now ≡ []
default_ty b h = search rules

default_ty_span : (b : FormatSpec) → spec_default.ghosts.is_default b
    → option_map pair b.ty_span ≡ None
default_ty_span b h = search rules

default_is : (b : FormatSpec) → spec_default.ghosts.is_default b
    → seen_spec b ≡ default_spec {A = Place}
default_is b h = λ i. record {
  fill = default_fill b h i;
  fill_span = default_fill_span b h i;
  align = default_align b h i;
  sign = default_sign b h i;
  alternate = default_alternate b h i;
  zero_pad = default_zero_pad b h i;
  debug_hex = default_debug_hex b h i;
  precision = default_precision b h i;
  precision_span = default_precision_span b h i;
  width = default_width b h i;
  width_span = default_width_span b h i;
  ty = (ap chars (default_ty b h) ∙ chars-nil) i;
  ty_span = default_ty_span b h i;
}

pub returns : goal.returns
returns c = default_is c.default.result c.default.ensures
