-- A front of a text reads as the same tokens before any word.
use Rattle.std.proofs.Common.{◌≡◌, ℕ, true, false, ◌&&◌, ◌++◌, List, [], ◌∷◌, ◌⊎◌, inl, inr}
use Rattle.std.proofs.Common.{refl, ap, sym, ◌∙◌, append_assoc, subst}
use Rattle.std.specs.Prelude.{IsTrue}
use Rattle.std.specs.List.{list_all}
use Rattle.std.proofs.lemmas.Bool.{and_parts}
use Rattle.std.proofs.lemmas.List.{append_cancel_right}
use Rattle.rust_tokens.specs.Texts.{Text}
use Rattle.rust_tokens.specs.Runs.{is_id_start}
use Rattle.rust_tokens.specs.Tokens.{Begins, IsSuffix, Lexeme, ReadsTo, Stands, is_literal}
use Rattle.rust_tokens.specs.Fronts.{EndsWithBarrier, ReadsBeforeWords, is_barrier, is_inner}
use Rattle.rust_tokens.proofs.Basics.{not_false}
use Rattle.rust_tokens.proofs.FarFronts.{far, far-suffix, near, near-suffix}

-- The text of tokens.
abbrev pub joined : List Lexeme → Text
joined [] = []
joined (x ∷ xs) = x.body ++ (x.suffix ++ joined xs)

pub reads-join : (whole : Text) (xs : List Lexeme) (r : Text) → ReadsTo whole xs r
    → whole ≡ joined xs ++ r
reads-join whole [] r h = h
reads-join whole (x ∷ xs) r h =
    h.1.joins ∙ (ap (λ t. x.body ++ (x.suffix ++ t)) (reads-join h.0 xs r h.2)
    ∙ (ap (λ t. x.body ++ t) (sym (append_assoc x.suffix (joined xs) r))
    ∙ sym (append_assoc x.body (x.suffix ++ joined xs) r)))

abbrev tail : Text → Text
tail [] = []
tail (c ∷ t) = t

-- The text is empty, or its last character is a barrier.
abbrev Barred : Text → Type 0
Barred v = (v ≡ []) ⊎ EndsWithBarrier v

empty-rest : (p v : Text) → p ++ v ≡ [] → v ≡ []
empty-rest [] v e = e
empty-rest (x ∷ p) v e = no-cons e
  where
    no-cons : {A : Type 0} → x ∷ (p ++ v) ≡ [] → A
    no-cons e = absurd cc

last-rest : (p v u : Text) (d : ℕ) → IsTrue (is_barrier d) → p ++ v ≡ u ++ d ∷ [] → Barred v
last-rest [] v u d b e = inr (u, d, b, e)
last-rest (x ∷ p) v [] d b e = inl (empty-rest p v (ap (λ t. tail t) e))
last-rest (x ∷ p) v (y ∷ u) d b e = last-rest p v u d b (ap (λ t. tail t) e)

barred-rest : (p v w : Text) → w ≡ p ++ v → Barred w → Barred v
barred-rest p v w e (inl f) = inl (empty-rest p v (sym e ∙ f))
barred-rest p v w e (inr y) = last-rest p v y.0 y.1 y.2 (sym e ∙ y.3)

stands-on : (x : Lexeme) (v : Text) (c e : ℕ) (t u : Text) → is_id_start c ≡ true
    → is_id_start e ≡ true → Barred v → Stands x.kind true x.body (x.suffix ++ (v ++ c ∷ t))
    → IsSuffix (is_literal x.kind && true) x.suffix (v ++ c ∷ t)
    → Stands x.kind true x.body (x.suffix ++ (v ++ e ∷ u))
    × IsSuffix (is_literal x.kind && true) x.suffix (v ++ e ∷ u)
stands-on x v c e t u h g (inl n) s f =
    let k : IsSuffix (is_literal x.kind && true) x.suffix (c ∷ t) =
    subst (λ w. IsSuffix (is_literal x.kind && true) x.suffix (w ++ c ∷ t)) n f in
    subst (λ w. Stands x.kind true x.body (x.suffix ++ (w ++ e ∷ u))
    × IsSuffix (is_literal x.kind && true) x.suffix (w ++ e ∷ u)) (sym n) (
      near x.kind x.body x.suffix c e t u h g k
          (subst (λ w. Stands x.kind true x.body (x.suffix ++ (w ++ c ∷ t))) n s),
      near-suffix (is_literal x.kind && true) x.suffix c e t u h k,
    )
stands-on x v c e t u h g (inr (w, d, b, i)) s f =
    let n : is_inner d ≡ false = not_false (is_inner d) b in
    let to : (r : Text) → v ++ r ≡ w ++ d ∷ r =
    λ r. ap (λ y. y ++ r) i ∙ append_assoc w (d ∷ []) r in
    let all : (r : Text) → x.suffix ++ (v ++ r) ≡ (x.suffix ++ w) ++ d ∷ r =
    λ r. ap (λ y. x.suffix ++ y) (to r) ∙ sym (append_assoc x.suffix w (d ∷ r)) in (
      subst (λ y. Stands x.kind true x.body y) (sym (all (e ∷ u)))
          (far x.kind x.body (x.suffix ++ w) d (c ∷ t) (e ∷ u) n
          (subst (λ y. Stands x.kind true x.body y) (all (c ∷ t)) s)),
      subst (λ y. IsSuffix (is_literal x.kind && true) x.suffix y) (sym (to (e ∷ u)))
          (far-suffix (is_literal x.kind && true) x.suffix w d (c ∷ t) (e ∷ u)
          (subst (λ y. IsSuffix (is_literal x.kind && true) x.suffix y) (to (c ∷ t)) f)),
    )

begins-on : (x : Lexeme) (v : Text) (c e : ℕ) (t u whole : Text) → is_id_start c ≡ true
    → is_id_start e ≡ true → Barred v → x.is_ended ≡ true → Begins x whole (v ++ c ∷ t)
    → Begins x (x.body ++ (x.suffix ++ (v ++ e ∷ u))) (v ++ e ∷ u)
begins-on x v c e t u whole h g b n f =
    let y = stands-on x v c e t u h g b
    (subst (λ q. Stands x.kind q x.body (x.suffix ++ (v ++ c ∷ t))) n f.stands)
    (subst (λ q. IsSuffix (is_literal x.kind && q) x.suffix (v ++ c ∷ t)) n f.suffixed) in
    record {
      joins = refl;
      stands = subst (λ q. Stands x.kind q x.body (x.suffix ++ (v ++ e ∷ u))) (sym n) y.0;
      suffixed = subst (λ q. IsSuffix (is_literal x.kind && q) x.suffix (v ++ e ∷ u)) (sym n) y.1;
    }

-- The front of these tokens before another word.
reads-on : (xs : List Lexeme) (whole : Text) (c e : ℕ) (t u : Text) → is_id_start c ≡ true
    → is_id_start e ≡ true → Barred (joined xs) → IsTrue (list_all (λ x. x.is_ended) xs)
    → ReadsTo whole xs (c ∷ t) → ReadsTo (joined xs ++ e ∷ u) xs (e ∷ u)
reads-on [] whole c e t u h g b n r = refl
reads-on (x ∷ xs) whole c e t u h g b n r =
    let l = and_parts x.is_ended (list_all (λ x. x.is_ended) xs) n in
    let v : Text = joined xs in
    let j = reads-join r.0 xs (c ∷ t) r.2 in
    let i : Barred v = barred-rest (x.body ++ x.suffix) v (x.body ++ (x.suffix ++ v))
    (sym (append_assoc x.body x.suffix v)) b in
    let a : (x.body ++ (x.suffix ++ v)) ++ e ∷ u ≡ x.body ++ (x.suffix ++ (v ++ e ∷ u)) =
    append_assoc x.body (x.suffix ++ v) (e ∷ u)
    ∙ ap (λ y. x.body ++ y) (append_assoc x.suffix v (e ∷ u)) in (
      v ++ e ∷ u,
      subst (λ y. Begins x y (v ++ e ∷ u)) (sym a)
          (begins-on x v c e t u whole h g i l.0 (subst (λ y. Begins x whole y) j r.1)),
      reads-on xs r.0 c e t u h g i l.1 r.2,
    )

pub before-words : (u t : Text) (c : ℕ) (xs : List Lexeme) → EndsWithBarrier u
    → IsTrue (is_id_start c) → IsTrue (list_all (λ x. x.is_ended) xs)
    → ReadsTo (u ++ c ∷ t) xs (c ∷ t) → ReadsBeforeWords u xs
before-words u t c xs b h n r = λ e v g.
    let f : u ≡ joined xs =
    append_cancel_right u (joined xs) (c ∷ t) (reads-join (u ++ c ∷ t) xs (c ∷ t) r) in
    subst (λ y. ReadsTo (y ++ e ∷ v) xs (e ∷ v)) (sym f)
    (reads-on xs (u ++ c ∷ t) c e t v h g (inr (subst (λ y. EndsWithBarrier y) f b)) n r)
