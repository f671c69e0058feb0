-- Steps over a character.
use Rattle.std.proofs.Common.{◌≡◌, ◌+◌, ◌≤◌, ◌++◌, ℕ, Bool, [], ◌∷◌, Some, None}
use Rattle.std.proofs.Common.{refl, ap, sym, ◌∙◌, arith}
use Rattle.std.specs.Prelude.{◌==◌, ◌&&◌}
use Rattle.std.proofs.lemmas.Option.{none-some, some_pair_parts}
use Rattle.std.proofs.lemmas.Bool.{cond_both}
use Rattle.rust_tokens.specs.Texts.{Text, split_first}
use Rattle.rust_tokens.specs.Runs.{first_passes}
use Rattle.rust_trees.specs.declared.places.Place.{Place}
use Rattle.rust_trees.specs.Places.{after_char, is_lf, place_after}

pub split-some : (t m : Text) (c : ℕ) → Some (c, m) ≡ split_first t → t ≡ c ∷ m
split-some [] m c h = absurd (none-some (c, m) (sym h))
split-some (d ∷ t) m c h =
    let p = some_pair_parts c d m t h in
    rw (p.0, p.1) refl

pub split-none : (t : Text) → None ≡ split_first t → t ≡ []
split-none [] h = refl
split-none (d ∷ t) h = absurd (none-some (d, t) h)

-- A line and a column grow by at most one, or a column starts again.
pub grows : (p : Place) (c : ℕ) (b : Bool) → ((after_char p c b).line ≤ p.line + 1)
    × ((after_char p c b).column ≤ p.column + 1)
grows p c b = cond_both {A = Place} (is_lf c) _ _
    (λ q. (q.line ≤ p.line + 1) × (q.column ≤ p.column + 1))
    (λ e. (omega arith, omega arith))
    (λ e. cond_both {A = Place} (c == 13 && b) _ _
    (λ q. (q.line ≤ p.line + 1) × (q.column ≤ p.column + 1))
    (λ f. (omega arith, omega arith)) (λ f. (omega arith, omega arith)))

-- One step of the loop.
pub reached-more : (p q : Place) (rest more back : Text) (c : ℕ) (b : Bool) (o : Place)
    → o ≡ place_after p rest back → rest ≡ c ∷ more → b ≡ first_passes is_lf (more ++ back)
    → q ≡ after_char p c b → o ≡ place_after q more back
reached-more p q rest more back c b o h e f g =
    h ∙ (ap (λ t. place_after p t back) e
    ∙ (ap (λ t. place_after (after_char p c t) more back) (sym f)
    ∙ ap (λ t. place_after t more back) (sym g)))
