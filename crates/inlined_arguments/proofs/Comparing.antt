-- Comparisons of texts, of specifications and of pieces.
use Rattle.std.proofs.Common.{◌≡◌, ◌↔◌, ◌∙◌, ℕ, Bool, IsTrue, IsUtf8, List, Some, ap, bytes_eq}
use Rattle.std.proofs.Common.{chars}
use Rattle.std.proofs.Common.{encode_utf8_all, map, option_map, refl, slice_get, sym}
use Rattle.std.proofs.lemmas.Slice.Eq.{bytes_eq-Decides}
use Rattle.std.proofs.lemmas.Bool.Decides.{Decides-at}
use Rattle.std.proofs.lemmas.Option.{same_Some, slice_get-map}
use Rattle.std.proofs.lemmas.Str.{encodes-chars}
use Rattle.rustc_parse_format.specs.Types.{Spec}
use Rattle.rustc_parse_format.specs.World.{Place}
use Rattle.inlined_arguments.specs.Meaning.{flags}

-- Specifications with the same parts.
pub same_flags : (s t : Spec Place) → s.fill ≡ t.fill → s.align ≡ t.align → s.sign ≡ t.sign
    → s.alternate ≡ t.alternate → s.zero_pad ≡ t.zero_pad → s.debug_hex ≡ t.debug_hex
    → s.ty ≡ t.ty → flags s ≡ flags t
same_flags s t a b c d e f g = rw (a, b, c, d, e, f, g) refl

-- Texts are the same exactly if their bytes are.
pub same-text : (b : Bool) (xs ys : List ℕ) → IsUtf8 xs → IsUtf8 ys → b ≡ bytes_eq xs ys
    → IsTrue b ↔ (chars xs ≡ chars ys)
same-text b xs ys u v e = let d = Decides-at b (bytes_eq xs ys) e (bytes_eq-Decides xs ys) in (
  λ t. ap chars (d.0 t),
  λ h. d.1 (sym (encodes-chars xs u) ∙ ap encode_utf8_all h ∙ encodes-chars ys v),
)

-- What is made of two lists is the same at each index.
pub same-at : {A X Y : Type 0} (see : A → X) (f g : X → Y) (xs ys : List A) (i : ℕ) (x y : A)
    → map f (map see xs) ≡ map g (map see ys) → slice_get xs i ≡ Some x → slice_get ys i ≡ Some y
    → f (see x) ≡ g (see y)
same-at {A} {X} {Y} see f g xs ys i x y same e h =
    same_Some (f (see x)) (g (see y)) (sym (there f xs x e) ∙ ap (λ v. slice_get v i) same
    ∙ there g ys y h)
  where
    there : (k : X → Y) (zs : List A) (z : A) → slice_get zs i ≡ Some z
        → slice_get (map k (map see zs)) i ≡ Some (k (see z))
    there k zs z q = slice_get-map k (map see zs) i
        ∙ ap (option_map k) (slice_get-map see zs i ∙ ap (option_map see) q)
