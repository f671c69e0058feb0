-- Texts whose lines end with LF, one character after the other.
use Rattle.std.proofs.Common.{◌≡◌, ◌++◌, ℕ, List, true, false, [], ◌∷◌, Some, IsUtf8, ap, chars}
use Rattle.std.proofs.Common.{◌∙◌, refl, subst, sym}
use Rattle.std.specs.Prelude.{◌==◌, ◌&&◌, if◌then◌else◌}
use Rattle.std.specs.Str.{NoCharPasses, NonePass}
use Rattle.std.proofs.lemmas.List.{append_assoc}
use Rattle.std.proofs.lemmas.Str.{chars_from_encodes}
use Rattle.rust_tokens.specs.Runs.{first_passes}
use Rattle.rust_tokens.specs.Texts.{Text, split_first}
use Rattle.rust_trees.specs.Places.{is_lf}
use Rattle.rust_trees.proofs.PlaceSteps.{split-some}
use Rattle.asm_lint.specs.Literals.{without_crs}

-- The character c is kept, where more follows it.
pub cr-kept : (done now all t : Text) (c : ℕ) (more : Text) → now ≡ done ++ c ∷ []
    → Some (c, more) ≡ split_first t → (c == 13 && first_passes is_lf more) ≡ false
    → done ++ without_crs t ≡ all → now ++ without_crs more ≡ all
cr-kept done now all t c more e f b h =
    ap (λ v. v ++ without_crs more) e
    ∙ (append_assoc done (c ∷ []) (without_crs more)
    ∙ (ap (λ v. done ++ v) (sym (ap (λ v. without_crs v) (split-some t more c f)
    ∙ ap (λ v. if v then without_crs more else c ∷ without_crs more) b)) ∙ h))

-- It is dropped.
pub cr-dropped : (done all t : Text) (c : ℕ) (more : Text) → Some (c, more) ≡ split_first t
    → (c == 13 && first_passes is_lf more) ≡ true → done ++ without_crs t ≡ all
    → done ++ without_crs more ≡ all
cr-dropped done all t c more f b h =
    ap (λ v. done ++ v) (sym (ap (λ v. without_crs v) (split-some t more c f)
    ∙ ap (λ v. if v then without_crs more else c ∷ without_crs more) b)) ∙ h

-- A text without CR stays as it is.
all-kept : (t : Text) → NonePass (λ c. c == 13) t → t ≡ without_crs t
all-kept [] n = refl
all-kept (c ∷ t) n =
    ap (λ u. c ∷ u) (all-kept t n.1)
    ∙ ap (λ b. if b && first_passes is_lf t then without_crs t else c ∷ without_crs t) (sym n.0)

pub no-cr : (bs : List ℕ) → IsUtf8 bs → NoCharPasses (λ c. c == 13) bs
    → chars bs ≡ without_crs (chars bs)
no-cr bs u h = subst (λ t. t ≡ without_crs t) (chars_from_encodes h.0 bs u h.1)
    (all-kept h.0 h.2)
