-- Edits of a literal as edits of its token.
use Rattle.std.proofs.Common.{◌≡◌, ◌<◌, ◌+◌, ◌++◌, ◌∙◌, ℕ, List, [], ◌∷◌, ap, get_or, length, map}
use Rattle.std.proofs.Common.{refl, subst, sym, take}
use Rattle.std.proofs.lemmas.List.{map-append, take_more}
use Rattle.inlined_arguments.specs.Edits.{Edit}
use Rattle.file_inlines.specs.CallInlines.{AreInToken, IsOffsetIn}

-- An edit more.
in-token-push : (crs : List ℕ) (es fs : List Edit) (e f : Edit) → AreInToken crs es fs
    → IsOffsetIn crs e.span.0 f.span.0 → IsOffsetIn crs e.span.1 f.span.1 → f.text ≡ e.text
    → AreInToken crs (es ++ e ∷ []) (fs ++ f ∷ [])
in-token-push crs [] fs e f h a b t = (f, [], ap (λ v. v ++ f ∷ []) h, a, b, t, refl)
in-token-push crs (x ∷ es) fs e f h a b t = (
  h.0,
  h.1 ++ f ∷ [],
  ap (λ v. v ++ f ∷ []) h.2,
  h.3,
  h.4,
  h.5,
  in-token-push crs es h.1 e f h.6 a b t,
)

-- The next one of a list.
pub in-token-more : {A : Type 0} (crs : List ℕ) (see : A → Edit) (xs : List A) (i : ℕ) (x : A)
    (fs : List Edit) (f : Edit) → i < length xs → x ≡ get_or xs i x
    → AreInToken crs (map see (take i xs)) fs → IsOffsetIn crs (see x).span.0 f.span.0
    → IsOffsetIn crs (see x).span.1 f.span.1 → f.text ≡ (see x).text
    → AreInToken crs (map see (take (i + 1) xs)) (fs ++ f ∷ [])
in-token-more crs see xs i x fs f l e h a b t =
    subst (λ (v : List Edit). AreInToken crs v (fs ++ f ∷ []))
    (sym (ap (map see) (take_more xs i x l ∙ ap (λ v. take i xs ++ v ∷ []) (sym e))
    ∙ map-append see (take i xs) (x ∷ [])))
    (in-token-push crs (map see (take i xs)) fs (see x) f h a b t)
