-- Lemmas on rows of spaces.
use Rattle.std.proofs.Common.{◌≡◌, ℕ, ◌+◌, ◌-◌, ◌≤◌, zero, suc, List, ◌∷◌, ◌++◌, take, refl, ap}
use Rattle.std.proofs.Common.{◌∙◌, append_assoc, arith, length}
use Rattle.std.specs.Prelude.{encode_utf8, slice_range, IsCharBoundary}
use Rattle.std.proofs.Math.Utf8.{encode}
use Rattle.std.specs.Str.{IsAscii}
use Rattle.std.proofs.lemmas.Str.{IsCharBoundary-from_ascii}
use Rattle.std.proofs.lemmas.Str.Ascii.{IsAscii-cons, IsAscii-nil}
use Rattle.drawn_lines.specs.Glyphs.{run}

-- two runs are one
pub run-run : (m n c : ℕ) → run m c ++ run n c ≡ run (m + n) c
run-run zero n c = let a : 0 + n ≡ n = omega arith in rw a refl
run-run (suc m) n c =
    let a : suc m + n ≡ suc (m + n) = omega arith in
    rw a (append_assoc (encode_utf8 c) (run m c) (run n c)
    ∙ ap (λ x. encode_utf8 c ++ x) (run-run m n c))

take-run : (n m : ℕ) → n ≤ m → take n (run m 32) ≡ run n 32
unfolding encode
take-run zero m l = refl
take-run (suc n) zero l = absurd (omega (arith, l))
take-run (suc n) (suc m) l = ap (λ x. 32 ∷ x) (take-run n m (omega (arith, l)))

-- the first spaces of a run, and those that are left
pub run-rest : (n k : ℕ) → k ≤ n → run k 32 ++ run (n - k) 32 ≡ run n 32
run-rest n k l = let a : k + (n - k) ≡ n = omega arith in
    run-run k (n - k) 32 ∙ ap (λ i. run i 32) a

-- a row of spaces may be cut anywhere
ascii-run : (n : ℕ) → IsAscii (run n 32)
unfolding encode
ascii-run zero = IsAscii-nil
ascii-run (suc n) = IsAscii-cons 32 (run n 32) (omega arith) (ascii-run n)

length-run : (n : ℕ) → length (run n 32) ≡ n
unfolding encode
length-run zero = refl
length-run (suc n) = ap suc (length-run n)

pub cut-spaces : (s : List ℕ) (m n : ℕ) → s ≡ run m 32 → n ≤ m → IsCharBoundary s n
cut-spaces s m n e l =
    rw e (IsCharBoundary-from_ascii (run m 32) n (ascii-run m) (omega (arith, length-run m, l)))

pub front-spaces : (s : List ℕ) (m n : ℕ) → s ≡ run m 32 → n ≤ m → slice_range s 0 n ≡ run n 32
front-spaces s m n e l =
    let a : n - 0 ≡ n = omega arith in
    rw (e, a) (take-run n m l)
