-- The test for an argument that is a name and nothing else is true exactly of such arguments. Of an
-- optional span it only uses whether there is one.
use Rattle.std.proofs.Common.{◌≡◌, ◌↔◌, IsTrue, [], ◌∷◌, Bool, true, false, ◌&&◌, not, Option, Some}
use Rattle.std.proofs.Common.{None, refl, sym, ap}
use Rattle.std.specs.Prelude.{is_none, option_map}
use Rattle.std.proofs.lemmas.Bool.{and_parts, false≢true}
use Rattle.rustc_parse_format.specs.Characters.{Text, is_nil}
use Rattle.rustc_parse_format.specs.Types.{is_named, Position, Implicit, Index, Named, Alignment}
use Rattle.rustc_parse_format.specs.Types.{Left, Right}
use Rattle.rustc_parse_format.specs.Types.{Center, Unknown, Count, Is, Name, Param, Star, Implied}
use Rattle.rustc_parse_format.specs.Types.{Spec, Argument, default_spec, map_count, map_spec}
use Rattle.rustc_parse_format.specs.Types.{map_argument}
use Rattle.rustc_parse_format.specs.Identifiers.{IsIdentifier, is_unknown, is_implied, is_default}
use Rattle.rustc_parse_format.specs.Identifiers.{is_identifier}

none-is : {A : Type 0} (o : Option A) → is_none o ≡ true → o ≡ None
none-is None e = refl
none-is (Some x) e = absurd (false≢true e)

no-is : (b : Bool) → not b ≡ true → b ≡ false
no-is true e = absurd (false≢true e)
no-is false e = refl

unknown-is : (a : Alignment) → is_unknown a ≡ true → a ≡ Unknown
unknown-is Left e = absurd (false≢true e)
unknown-is Right e = absurd (false≢true e)
unknown-is Center e = absurd (false≢true e)
unknown-is Unknown e = refl

implied-is : {A : Type 0} (k : Count A) → is_implied k ≡ true → k ≡ Implied
implied-is (Is n) e = absurd (false≢true e)
implied-is (Name w s) e = absurd (false≢true e)
implied-is (Param n) e = absurd (false≢true e)
implied-is (Star n) e = absurd (false≢true e)
implied-is Implied e = refl

nil-is : (t : Text) → is_nil t ≡ true → t ≡ []
nil-is [] e = refl
nil-is (c ∷ t) e = absurd (false≢true e)

named-is : (p : Position) → is_named p ≡ true → (w : Text) × (p ≡ Named w)
named-is (Implicit n) e = absurd (false≢true e)
named-is (Index n) e = absurd (false≢true e)
named-is (Named w) e = (w, refl)

default-is : {A : Type 0} (s : Spec A) → is_default s ≡ true → s ≡ default_spec
unfolding is_default
default-is {A = A} s e =
    let ty_span = and_parts _ (is_none s.ty_span) e in
    let ty = and_parts _ (is_nil s.ty) ty_span.0 in
    let precision_span = and_parts _ (is_none s.precision_span) ty.0 in
    let precision = and_parts _ (is_implied s.precision) precision_span.0 in
    let width_span = and_parts _ (is_none s.width_span) precision.0 in
    let width = and_parts _ (is_implied s.width) width_span.0 in
    let debug_hex = and_parts _ (is_none s.debug_hex) width.0 in
    let zero_pad = and_parts _ (not s.zero_pad) debug_hex.0 in
    let alternate = and_parts _ (not s.alternate) zero_pad.0 in
    let sign = and_parts _ (is_none s.sign) alternate.0 in
    let align = and_parts _ (is_unknown s.align) sign.0 in
    let fill = and_parts (is_none s.fill) (is_none s.fill_span) align.0 in
    λ i. record {
      fill = none-is s.fill fill.0 i;
      fill_span = none-is s.fill_span fill.1 i;
      align = unknown-is s.align align.1 i;
      sign = none-is s.sign sign.1 i;
      alternate = no-is s.alternate alternate.1 i;
      zero_pad = no-is s.zero_pad zero_pad.1 i;
      debug_hex = none-is s.debug_hex debug_hex.1 i;
      width = implied-is s.width width.1 i;
      width_span = none-is s.width_span width_span.1 i;
      precision = implied-is s.precision precision.1 i;
      precision_span = none-is s.precision_span precision_span.1 i;
      ty = nil-is s.ty ty.1 i;
      ty_span = none-is s.ty_span ty_span.1 i;
    }

pub identifier-is : {A : Type 0} (a : Argument A) → is_identifier a ≡ true → IsIdentifier a
identifier-is a e =
    let both = and_parts (is_named a.position) (is_default a.format) e in
    let name = named-is a.position both.0 in
    record { name = name.0; position = name.1; format = default-is a.format both.1 }

pub is-identifier : {A : Type 0} (a : Argument A) → IsIdentifier a → is_identifier a ≡ true
unfolding is_default
is-identifier a h = rw (h.position, h.format) refl

-- a test that decides it is this one
pub identifier_decided : {A : Type 0} (b : Bool) (a : Argument A) → IsTrue b ↔ IsIdentifier a
    → b ≡ is_identifier a
identifier_decided true a h = sym (is-identifier a (h.0 refl))
identifier_decided false a h = either (is_identifier a) (λ e. h.1 (identifier-is a e))
  where
    either : (b : Bool) → (b ≡ true → IsTrue false) → false ≡ b
    either true f = f refl
    either false f = refl

none-map : {A B : Type 0} (f : A → B) (o : Option A) → is_none (option_map f o) ≡ is_none o
none-map f None = refl
none-map f (Some x) = refl

implied-map : {A B : Type 0} (f : A → B) (k : Count A) → is_implied (map_count f k) ≡ is_implied k
implied-map f (Is n) = refl
implied-map f (Name w s) = refl
implied-map f (Param n) = refl
implied-map f (Star n) = refl
implied-map f Implied = refl

default-map : {A B : Type 0} (f : A → B) (s : Spec A) → is_default (map_spec f s) ≡ is_default s
unfolding is_default
default-map f s =
    rw (
      none-map f s.fill_span,
      none-map f s.width_span,
      none-map f s.precision_span,
      none-map f s.ty_span,
      implied-map f s.width,
      implied-map f s.precision,
    ) refl

pub identifier-map : {A B : Type 0} (f : A → B) (a : Argument A)
    → is_identifier (map_argument f a) ≡ is_identifier a
identifier-map f a = ap (λ b. is_named a.position && b) (default-map f a.format)
