-- The derived `clone` returns a copy that a contract sees as equal, and never fails.
use Rattle.std.proofs.Common.{◌≡◌, rules}
use Rattle.rustc_parse_format.proofs.Derives.Equality.{both}
use Rattle.std.specs.Prelude.{IsOkAnd, MatchResult, Result, Ok, Err}
use Rattle.rustc_parse_format.specs.declared.types.Argument.{Argument}
use Rattle.rustc_parse_format.specs.declared.types.FormatSpec.{FormatSpec}
use Rattle.rustc_parse_format.specs.contracts.types.ArgumentClone.TheImpl as argument_clone
use Rattle.rustc_parse_format.specs.contracts.types.FormatSpecClone.TheImpl as spec_clone

-- The result is Ok, and equal to its source, if an allocation failure is ruled out.
pub clone_report : {A E N : Type 0} (C : A → Type 0) (a : A) → ((x : A) → C x → x ≡ a)
    → (r : Result A E) → MatchResult r C (λ _. ¬ N) → N → IsOkAnd r (λ x. x ≡ a)
clone_report C a f (Ok x) h n = f x h
clone_report C a f (Err e) h n = absurd (h n)

-- A specification.
clone_fill : (a b : FormatSpec) → spec_clone.ghosts.is_clone a b → b.fill ≡ a.fill
clone_fill a b h = search rules

clone_fill_span : (a b : FormatSpec) → spec_clone.ghosts.is_clone a b → b.fill_span ≡ a.fill_span
clone_fill_span a b h = search rules

clone_align : (a b : FormatSpec) → spec_clone.ghosts.is_clone a b → b.align ≡ a.align
clone_align a b h = search rules

clone_sign : (a b : FormatSpec) → spec_clone.ghosts.is_clone a b → b.sign ≡ a.sign
clone_sign a b h = search rules

clone_alternate : (a b : FormatSpec) → spec_clone.ghosts.is_clone a b → b.alternate ≡ a.alternate
clone_alternate a b h = search rules

clone_zero_pad : (a b : FormatSpec) → spec_clone.ghosts.is_clone a b → b.zero_pad ≡ a.zero_pad
clone_zero_pad a b h = search rules

clone_debug_hex : (a b : FormatSpec) → spec_clone.ghosts.is_clone a b → b.debug_hex ≡ a.debug_hex
clone_debug_hex a b h = search rules

clone_precision : (a b : FormatSpec) → spec_clone.ghosts.is_clone a b → b.precision ≡ a.precision
clone_precision a b h = search rules

clone_precision_span : (a b : FormatSpec) → spec_clone.ghosts.is_clone a b
    → b.precision_span ≡ a.precision_span
clone_precision_span a b h = search rules

clone_width : (a b : FormatSpec) → spec_clone.ghosts.is_clone a b → b.width ≡ a.width
clone_width a b h = search rules

clone_width_span : (a b : FormatSpec) → spec_clone.ghosts.is_clone a b → b.width_span ≡ a.width_span
clone_width_span a b h = search rules

clone_ty : (a b : FormatSpec) → spec_clone.ghosts.is_clone a b → b.ty ≡ a.ty
clone_ty a b h = search rules

clone_ty_span : (a b : FormatSpec) → spec_clone.ghosts.is_clone a b → b.ty_span ≡ a.ty_span
clone_ty_span a b h = search rules

pub spec_clone_is : (a b : FormatSpec) → spec_clone.ghosts.is_clone a b → b ≡ a
spec_clone_is a b h = λ i. record {
  fill = clone_fill a b h i;
  fill_span = clone_fill_span a b h i;
  align = clone_align a b h i;
  sign = clone_sign a b h i;
  alternate = clone_alternate a b h i;
  zero_pad = clone_zero_pad a b h i;
  debug_hex = clone_debug_hex a b h i;
  precision = clone_precision a b h i;
  precision_span = clone_precision_span a b h i;
  width = clone_width a b h i;
  width_span = clone_width_span a b h i;
  ty = clone_ty a b h i;
  ty_span = clone_ty_span a b h i;
}

pub spec_clone_made : (a : FormatSpec) → spec_clone.ghosts.is_infallible a
spec_clone_made a =
    both (search rules) (both (search rules) (both (search rules) (both (search rules)
    (both (search rules) (both (search rules) (both (search rules) (both (search rules)
    (both (search rules) (both (search rules) (both (search rules) (both (search rules)
    (search rules))))))))))))

-- A placeholder.
clone_position : (a b : Argument) → argument_clone.ghosts.is_clone a b → b.position ≡ a.position
clone_position a b h = search rules

clone_position_span : (a b : Argument) → argument_clone.ghosts.is_clone a b
    → b.position_span ≡ a.position_span
clone_position_span a b h = search rules

pub argument_clone_is : (a b : Argument) → argument_clone.ghosts.is_clone a b → b ≡ a
argument_clone_is a b h = λ i. record {
  position = clone_position a b h i;
  position_span = clone_position_span a b h i;
  format = spec_clone_is a.format b.format h.1.1 i;
}

pub argument_clone_made : (a : Argument) → argument_clone.ghosts.is_infallible a
argument_clone_made a = (search rules, (search rules, spec_clone_made a.format))
