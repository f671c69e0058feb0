-- The specifications in the buffer, by their numbers.
use Rattle.std.proofs.Common.{◌≡◌, ℕ, zero, suc, ◌+◌, ◌<◌, ◌≤◌, Bool, true, false, ◌&&◌, not, List}
use Rattle.std.proofs.Common.{[], ◌∷◌, Option, Some, None, length, take, map}
use Rattle.std.proofs.Common.{set, get_or, refl, sym, ap, ◌∙◌, arith, add-one, is_none, length-set}
use Rattle.std.proofs.lemmas.List.{get_or-map, get_or-take, get_or-set_same, take-map}
use Rattle.rustc_parse_format.specs.Types.{Spec, Alignment, Left, Right, Center, Unknown, Count, Is}
use Rattle.rustc_parse_format.specs.Types.{Name, Param, Star, Implied, default_spec}
use Rattle.rustc_parse_format.specs.Characters.{Text, is_nil}
use Rattle.flat_reading.specs.declared.records.Spec.{Spec as SpecRecord}
use Rattle.flat_reading.specs.Meaning.{no_spec, spec_at, spec_meant}
use Rattle.flat_reading.specs.Events.{is_default, is_implied, is_unknown}

pub both : {a b : Bool} → (a && b) ≡ true → (a ≡ true) × (b ≡ true)
both {a = true} {b = true} e = (refl, refl)
both {a = true} {b = false} e = cc
both {a = false} {b = b} e = cc

none : {A : Type 0} (o : Option A) → is_none o ≡ true → o ≡ None
none None e = refl
none (Some x) e = cc

unset : (b : Bool) → not b ≡ true → b ≡ false
unset true e = cc
unset false e = refl

unknown : (a : Alignment) → is_unknown a ≡ true → a ≡ Unknown
unknown Left e = cc
unknown Right e = cc
unknown Center e = cc
unknown Unknown e = refl

implied : {A : Type 0} (k : Count A) → is_implied k ≡ true → k ≡ Implied
implied (Is n) e = cc
implied (Name w s) e = cc
implied (Param n) e = cc
implied (Star n) e = cc
implied Implied e = refl

no_text : (t : Text) → is_nil t ≡ true → t ≡ []
no_text [] e = refl
no_text (c ∷ t) e = cc

pub default_is : {A : Type 0} (s : Spec A) → is_default s ≡ true → default_spec ≡ s
default_is {A = A} s e =
    let parts = both e in
    let rest = both parts.1 in
    let f1 = both parts.0 in let f2 = both f1.1 in let f3 = both f2.1 in let f4 = both f3.1 in
    let f5 = both f4.1 in let f6 = both f5.1 in
    let c1 = both rest.0 in let c2 = both c1.1 in let c3 = both c2.1 in
    let t = both rest.1 in
    let same : ◌≡◌ {A = Spec A} default_spec (record {
      fill = s.fill;
      fill_span = s.fill_span;
      align = s.align;
      sign = s.sign;
      alternate = s.alternate;
      zero_pad = s.zero_pad;
      debug_hex = s.debug_hex;
      width = s.width;
      width_span = s.width_span;
      precision = s.precision;
      precision_span = s.precision_span;
      ty = s.ty;
      ty_span = s.ty_span;
    }) = rw (
      none s.fill f1.0,
      none s.fill_span f2.0,
      unknown s.align f3.0,
      none s.sign f4.0,
      unset s.alternate f5.0,
      unset s.zero_pad f6.0,
      none s.debug_hex f6.1,
      implied s.width c1.0,
      none s.width_span c2.0,
      implied s.precision c3.0,
      none s.precision_span c3.1,
      no_text s.ty t.0,
      none s.ty_span t.1,
    ) refl in
    same

pub spec_at-default : (input : List ℕ) (specs : List SpecRecord)
    → spec_at input specs 0 ≡ default_spec
unfolding spec_at
spec_at-default input specs = refl

pub spec_at-put : (input : List ℕ) (specs : List SpecRecord) (n : ℕ) (r : SpecRecord)
    → n < length specs → spec_at input (set specs n r) (n + 1)
    ≡ spec_meant input r
unfolding spec_at
spec_at-put input specs n r h =
    let long : n < length (set specs n r) = omega (arith, length-set specs n r) in
    rw add-one (get_or-map (spec_meant input) (set specs n r) n r no_spec long
    ∙ ap (spec_meant input) (get_or-set_same specs n r r h))

-- Those in front of a number stay.
pub spec_at-front : (input : List ℕ) (xs ys : List SpecRecord) (k n : ℕ) → n ≤ k
    → take k xs ≡ take k ys → spec_at input xs n ≡ spec_at input ys n
unfolding spec_at
spec_at-front input xs ys k zero h e = refl
spec_at-front input xs ys k (suc n) h e =
    sym (get_or-take k (map (spec_meant input) xs) n no_spec (omega arith))
    ∙ ap (λ l. get_or l n no_spec) (take-map (spec_meant input) k xs ∙ ap (map (spec_meant input)) e
    ∙ sym (take-map (spec_meant input) k ys))
    ∙ get_or-take k (map (spec_meant input) ys) n no_spec (omega arith)
