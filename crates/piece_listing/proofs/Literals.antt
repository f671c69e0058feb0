-- The parts of string literals, by their characters.
use Rattle.std.proofs.Common.{◌≡◌, ◌<◌, ◌+◌, ◌-◌, ℕ, suc, zero, ◌++◌, [], ◌∷◌, Option, Some, None}
use Rattle.std.proofs.Common.{refl, sym, ap, ◌∙◌, append_assoc, arith, replicate, get_or}
use Rattle.std.proofs.lemmas.List.{append_cancel_right, replicate_more, replicate-append-replicate}
use Rattle.rustc_parse_format.specs.Characters.{Text}
use Rattle.rustc_parse_format.specs.Literal.{IsLiteral, IsOrdinaryLiteral, raw_frame}

-- where more hashes are wanted, one stands at the end of what is in front of some
pub replicate-last : (m n : ℕ) (r s t : Text) → m < n → r ++ replicate m 35 ≡ s
    → t ++ replicate n 35 ≡ s → (t ++ replicate (n - m - 1) 35) ++ 35 ∷ [] ≡ r
replicate-last m n r s t h e f =
    let split : n - m - 1 + 1 + m ≡ n = omega arith in
    let hashes : replicate (n - m - 1 + 1) 35 ++ replicate m 35 ≡ replicate n 35 =
    replicate-append-replicate (n - m - 1 + 1) m 35 ∙ ap (λ k. replicate k 35) split in
    append_assoc t (replicate (n - m - 1) 35) (35 ∷ [])
    ∙ ap (λ x. t ++ x) (replicate_more (n - m - 1) 35)
    ∙ append_cancel_right (t ++ replicate (n - m - 1 + 1) 35) r (replicate m 35)
    (append_assoc t (replicate (n - m - 1 + 1) 35) (replicate m 35) ∙ ap (λ x. t ++ x) hashes ∙ f
    ∙ sym e)

-- a raw literal, cut where its text begins and where it ends
pub raw_frame-parts : (n : ℕ) (t : Text) → raw_frame n t ≡ 114
    ∷ (replicate n 35 ++ 34 ∷ ((t ++ 34 ∷ []) ++ replicate n 35))
raw_frame-parts n t =
    ap (λ x. 114 ∷ x) (append_assoc (replicate n 35 ++ 34 ∷ []) t (34 ∷ replicate n 35)
    ∙ append_assoc (replicate n 35) (34 ∷ []) (t ++ 34 ∷ replicate n 35)
    ∙ ap (λ x. replicate n 35 ++ 34 ∷ x) (sym (append_assoc t (34 ∷ []) (replicate n 35))))

-- the hashes up to a quote are as many as there are up to anything that is no hash
pub same_hashes : (n m : ℕ) (s t : Text) → replicate n 35 ++ 34 ∷ t ≡ replicate m 35 ++ s
    → ((u : Text) → s ≡ 35 ∷ u → ⊥) → (n ≡ m) × (34 ∷ t ≡ s)
same_hashes zero zero s t e h = (refl, e)
same_hashes zero (suc m) s t e h = absurd (let no : ◌≡◌ {A = ℕ} 34 35 = ap (λ x. get_or x 0 0) e in
    omega (arith, no))
same_hashes (suc n) zero s t e h = absurd (h (replicate n 35 ++ 34 ∷ t) (sym e))
same_hashes (suc n) (suc m) s t e h =
    let rest : replicate n 35 ++ 34 ∷ t ≡ replicate m 35 ++ s = cc in
    let same = same_hashes n m s t rest h in (ap suc same.0, same.1)

pub raw_frame-opened : (n m : ℕ) (l r s t : Text) → l ≡ raw_frame n t → l ≡ 114 ∷ r
    → r ≡ replicate m 35 ++ s → ((u : Text) → s ≡ 35 ∷ u → ⊥)
    → 34 ∷ ((t ++ 34 ∷ []) ++ replicate m 35) ≡ s
raw_frame-opened n m l r s t e f g h =
    let whole : 114 ∷ (replicate n 35 ++ 34 ∷ ((t ++ 34 ∷ []) ++ replicate n 35))
    ≡ 114 ∷ r = sym (raw_frame-parts n t) ∙ sym e ∙ f in
    let rest : replicate n 35 ++ 34 ∷ ((t ++ 34 ∷ []) ++ replicate n 35) ≡ r = cc in
    let same = same_hashes n m s ((t ++ 34 ∷ []) ++ replicate n 35) (rest ∙ g) h in
    ap (λ k. 34 ∷ ((t ++ 34 ∷ []) ++ replicate k 35)) (sym same.0) ∙ same.1

pub raw_frame-rest : (n m : ℕ) (l r s o t : Text) → l ≡ raw_frame n t → l ≡ 114 ∷ r
    → r ≡ replicate m 35 ++ s → ((u : Text) → s ≡ 35 ∷ u → ⊥) → s ≡ 34 ∷ o
    → (t ++ 34 ∷ []) ++ replicate m 35 ≡ o
raw_frame-rest n m l r s o t e f g h i =
    let whole : 34 ∷ ((t ++ 34 ∷ []) ++ replicate m 35) ≡ 34
    ∷ o = raw_frame-opened n m l r s t e f g h ∙ i in cc

pub raw_frame-text : (n m : ℕ) (l r s o k t : Text) → l ≡ raw_frame n t → l ≡ 114 ∷ r
    → r ≡ replicate m 35 ++ s → ((u : Text) → s ≡ 35 ∷ u → ⊥) → s ≡ 34 ∷ o
    → k ++ replicate m 35 ≡ o → t ++ 34 ∷ [] ≡ k
raw_frame-text n m l r s o k t e f g h i j =
    append_cancel_right (t ++ 34 ∷ []) k (replicate m 35) (raw_frame-rest n m l r s o t e f g h i
    ∙ sym j)

-- a text that is neither raw nor ordinary is no literal
pub no_literal : (l : Text) → ((n : ℕ) (t : Text) → l ≡ raw_frame n t → ⊥)
    → ((t : Text) → IsOrdinaryLiteral l t → ⊥)
    → (style : Option ℕ) (t : Text) → IsLiteral style l t → ⊥
no_literal l raw ordinary None t h = ordinary t h
no_literal l raw ordinary (Some n) t h = raw n t h
