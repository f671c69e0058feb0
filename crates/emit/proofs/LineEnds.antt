-- Lines with a CR at their end, and without one.
use Rattle.std.proofs.Common.{◌≡◌, ◌≢◌, ◌++◌, ◌∷◌, ◌==◌, [], List, ℕ, ap, refl}
use Rattle.std.proofs.lemmas.Bool.{cond_both, eqb-true}
use Rattle.emit.specs.Json.{without_cr}

-- The CR at the end is left out.
pub with-cr : (l : List ℕ) → without_cr (l ++ (13 ∷ [])) ≡ l
unfolding without_cr
with-cr [] = refl
with-cr (b ∷ []) = refl
with-cr (b ∷ c ∷ l) = ap (λ t. b ∷ t) (with-cr (c ∷ l))

-- A line that has none there stays.
pub with-none : (l : List ℕ) → ((front : List ℕ) → l ≢ front ++ (13 ∷ [])) → without_cr l ≡ l
unfolding without_cr
with-none [] h = refl
with-none (b ∷ []) h = cond_both (b == 13) [] (b ∷ []) (λ k. k ≡ b ∷ [])
    (λ yes. absurd (h [] (ap (λ t. t ∷ []) (eqb-true b 13 yes)))) (λ no. refl)
with-none (b ∷ c ∷ l) h = ap (λ t. b ∷ t)
    (with-none (c ∷ l) (λ front e. h (b ∷ front) (ap (λ t. b ∷ t) e)))
