-- A list of arguments is cut at its commas.
use Rattle.std.proofs.Common.{◌≡◌, ℕ, suc, ◌+◌, ◌<◌, Bool, true, false, cond, not, ◌==◌, List, []}
use Rattle.std.proofs.Common.{◌∷◌, length, take, drop, refl, ap, ◌∙◌, arith}
use Rattle.std.specs.Prelude.{Option, None, Some, MatchOption}
use Rattle.std.specs.List.{position_or_len}
use Rattle.std.specs.Str.Pattern.{FindsChar, SplitsAtFirstByte}
use denote.Ref.{Bor}
use Rattle.piece_listing.specs.GivenArguments.{cut, parts}

abbrev is_comma : ℕ → Bool
is_comma b = b == 44

-- how many bytes are in front of the first comma, or in all
abbrev free : List ℕ → ℕ
free bs = position_or_len is_comma bs

-- a text without a comma is cut nowhere
cut-none : (bs : List ℕ) → free bs ≡ length bs → cut bs ≡ (bs, [])
unfolding cut
cut-none [] h = refl
cut-none (b ∷ bs) h = by_test (is_comma b) h (cut-none bs)
  where
    by_test : (t : Bool) → cond (not t) (1 + free bs) 0 ≡ length (b ∷ bs)
        → (free bs ≡ length bs → cut bs ≡ (bs, []))
        → ◌≡◌ {A = List ℕ × List (List ℕ)}
        (cond t ([], (cut bs).0 ∷ (cut bs).1) (b ∷ (cut bs).0, (cut bs).1)) (b ∷ bs, [])
    by_test true e rest = absurd (omega arith)
    by_test false e rest = let none = rest (omega arith) in rw none refl

-- the first so many bytes, and the rest after one more, which is cut further
abbrev cut_at : List ℕ → ℕ → List ℕ × List (List ℕ)
cut_at bs n = (take n bs, (cut (drop (n + 1) bs)).0 ∷ (cut (drop (n + 1) bs)).1)

-- another is cut at its first one, and the rest after that is cut further
cut-first : (bs : List ℕ) → free bs < length bs → cut bs ≡ cut_at bs (free bs)
unfolding cut
cut-first [] h = absurd (omega arith)
cut-first (b ∷ bs) h = by_test (is_comma b) h (cut-first bs)
  where
    by_test : (t : Bool) → cond (not t) (1 + free bs) 0 < length (b ∷ bs)
        → (free bs < length bs → cut bs ≡ cut_at bs (free bs))
        → ◌≡◌ {A = List ℕ × List (List ℕ)}
        (cond t ([], (cut bs).0 ∷ (cut bs).1) (b ∷ (cut bs).0, (cut bs).1))
        (cut_at (b ∷ bs) (cond (not t) (1 + free bs) 0))
    by_test true e rest = refl
    by_test false e rest =
        let n = free bs in
        let here : suc n ≡ 1 + n = omega arith in
        let past : suc (n + 1) ≡ 1 + n + 1 = omega arith in
        ap (λ (x : List ℕ × List (List ℕ)). (b ∷ x.0, x.1)) (rest (omega arith))
        ∙ (λ i. (
          take (here i) (b ∷ bs),
          (cut (drop (past i) (b ∷ bs))).0
              ∷ (cut (drop (past i) (b ∷ bs))).1,
        ))

-- so what `split_once` gives are the first part and the others
pub parts-split : (s : List ℕ) (r : Option (Bor (List ℕ) × Bor (List ℕ)))
    → SplitsAtFirstByte (FindsChar 44) (Some 44) s r
    → MatchOption r (parts s ≡ s ∷ []) (λ x. parts s ≡ x.0.now ∷ parts x.1.now)
parts-split s None h = let none = cut-none s (h (omega arith) (λ w o f. f)) in rw none refl
parts-split s (Some x) h =
    let found = h (omega arith) (λ w o f. f) in
    rw (cut-first s found.2, found.0, found.1) refl
