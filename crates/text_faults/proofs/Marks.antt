-- One mark more of a list of marks.
use Rattle.std.proofs.Common.{◌≡◌, ℕ, suc, zero, ◌<◌, ◌==◌, ◌||◌, Bool, true, false, List, [], ◌∷◌}
use Rattle.std.proofs.Common.{length, get_or, set, refl, sym, ap, ◌∙◌, arith, ne_eqb}
use Rattle.std.proofs.lemmas.Bool.Decides.{Decides-eqb, Decides-like, same_from_decides}

or-true : (b : Bool) → (b || true) ≡ true
or-true true = refl
or-true false = refl

pub or-none : (b c : Bool) → c ≡ false → (b || c) ≡ b
or-none true c e = refl
or-none false c e = e

same-suc : (i n : ℕ) → (i == n) ≡ (suc i == suc n)
same-suc i n = same_from_decides {P = i ≡ n} (i == n) (suc i == suc n) (Decides-eqb i n)
    (Decides-like (suc i == suc n) (λ e. omega arith) (λ e. ap suc e) (Decides-eqb (suc i) (suc n)))

pub set-marks : (xs : List Bool) (n i : ℕ) → n < length xs
    → get_or (set xs n true) i false ≡ (get_or xs i false || (i == n))
set-marks [] n i h = absurd (omega arith)
set-marks (x ∷ xs) zero zero h = sym (or-true x)
set-marks (x ∷ xs) zero (suc i) h = sym (or-none (get_or xs i false) (suc i == 0) (ne_eqb (suc i) 0
    (λ e. absurd (omega arith))))
set-marks (x ∷ xs) (suc n) zero h = sym (or-none x (0 == suc n) (ne_eqb 0 (suc n) (λ e. absurd
    (omega arith))))
set-marks (x ∷ xs) (suc n) (suc i) h = set-marks xs n i (omega arith)
    ∙ ap (λ b. get_or xs i false || b) (same-suc i n)

pub set-length : (xs : List Bool) (n : ℕ) → length (set xs n true) ≡ length xs
set-length [] n = refl
set-length (x ∷ xs) zero = refl
set-length (x ∷ xs) (suc n) = ap suc (set-length xs n)
