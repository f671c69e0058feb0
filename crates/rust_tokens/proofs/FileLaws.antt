-- Each file reads as tokens, and in one way.
use Rattle.std.proofs.Common.{◌≡◌, ℕ, zero, suc, ◌<◌, ◌≤◌, Bool, true, false, ◌&&◌, ◌++◌, List, []}
use Rattle.std.proofs.Common.{◌∷◌}
use Rattle.std.proofs.Common.{refl, ap, sym, ◌∙◌, inl, inr, subst, length, arith}
use Rattle.std.specs.Prelude.{IsTrue, codes, ◌==◌}
use Rattle.std.specs.List.{list_all}
use Rattle.std.proofs.lemmas.Bool.{false≢true, and_from, eqb-true}
use Rattle.std.proofs.lemmas.List.{append_cancel_right}
use Rattle.rust_tokens.specs.Texts.{Text}
use Rattle.rust_tokens.specs.Runs.{first_passes, rest_after, is_in_line}
use Rattle.rust_tokens.specs.Tokens.{is_literal, Lexeme, Begins, ReadsTo, Reads}
use Rattle.rust_tokens.specs.Files.{is_gap, is_bracket, is_mark, OpensAttribute, mark, shebang}
use Rattle.rust_tokens.specs.Files.{IsMarked, IsShebanged, ReadsFile}
use Rattle.rust_tokens.specs.First.{Body, first_body, after_suffix}
use Rattle.rust_tokens.proofs.Basics.{not_false, no_pass, front, front-rest_after, all-front}
use Rattle.rust_tokens.proofs.Basics.{stops-rest_after}
use Rattle.rust_tokens.proofs.Classes.{rest_after-append}
use Rattle.rust_tokens.proofs.Files.{gaps-once}
use Rattle.rust_tokens.proofs.NotEmpty.{less-left}
use Rattle.rust_tokens.proofs.Readings.{not-at-end, reads-once, reads-some}
use Rattle.rust_tokens.proofs.Suffixes.{begins-once, begins-lexeme}

abbrev tail : Text → Text
tail [] = []
tail (c ∷ t) = t

marked-once : (whole t u : Text) (xs ys : List Lexeme) → IsMarked whole xs t → IsMarked whole ys u
    → (xs ≡ ys) × (t ≡ u)
marked-once whole t u xs ys (inl f) (inl g) =
    (f.0 ∙ sym g.0, ap (λ v. tail v) (sym f.1 ∙ g.1))
marked-once whole t u xs ys (inl f) (inr g) =
    absurd (false≢true (sym (not_false _ g.2) ∙ ap (λ v. first_passes is_mark v) (sym g.1 ∙ f.1)))
marked-once whole t u xs ys (inr f) (inl g) =
    absurd (false≢true (sym (not_false _ f.2) ∙ ap (λ v. first_passes is_mark v) (sym f.1 ∙ g.1)))
marked-once whole t u xs ys (inr f) (inr g) = (f.0 ∙ sym g.0, sym f.1 ∙ g.1)

shebanged-once : (whole t u : Text) (xs ys : List Lexeme) → IsShebanged whole xs t
    → IsShebanged whole ys u → (xs ≡ ys) × (t ≡ u)
shebanged-once whole t u xs ys (inl f) (inl g) =
    let lines : f.0 ++ t ≡ g.0 ++ u = ap (λ v. tail (tail v)) (sym f.2 ∙ g.2) in
    let rests : t ≡ u = sym (rest_after-append is_in_line f.0 t f.3 (not_false _ f.4))
    ∙ (ap (λ v. rest_after is_in_line v) lines
    ∙ rest_after-append is_in_line g.0 u g.3 (not_false _ g.4)) in
    let same : f.0 ≡ g.0 = append_cancel_right f.0 g.0 u
    (ap (λ v. f.0 ++ v) (sym rests) ∙ lines) in
    (f.1 ∙ (ap (λ v. shebang v ∷ []) same ∙ sym g.1), rests)
shebanged-once whole t u xs ys (inl f) (inr g) = absurd (f.5 (g.2 (f.0 ++ t) f.2))
shebanged-once whole t u xs ys (inr f) (inl g) = absurd (g.5 (f.2 (g.0 ++ u) g.2))
shebanged-once whole t u xs ys (inr f) (inr g) = (f.0 ∙ sym g.0, sym f.1 ∙ g.1)

pub file-once : (whole : Text) (xs ys : List Lexeme) → ReadsFile whole xs → ReadsFile whole ys
    → xs ≡ ys
file-once whole xs ys f g =
    let m = marked-once whole f.3 g.3 f.0 g.0 f.5 g.5 in
    let s = shebanged-once g.3 f.4 g.4 f.1 g.1 (subst (λ v. IsShebanged v f.1 f.4) m.1 f.6) g.6 in
    let r = reads-once g.4 f.2 g.2 (subst (λ v. Reads v f.2) s.1 f.7) g.7 in
    f.8 ∙ (rw (m.0, s.0, r) (sym g.8))

-- All gaps at the start of a text.
abbrev Gaps : Text → Type 0
Gaps t = (xs : List Lexeme) × (r : Text) × ReadsTo t xs r
    × IsTrue (list_all (λ x. is_gap x.kind) xs)
    × ((x : Lexeme) (m : Text) → Begins x r m → is_gap x.kind ≡ false)

gaps-within : (n : ℕ) (t : Text) → length t ≤ n → Gaps t
gaps-within n [] h = ([], [], refl, refl, λ x m b. absurd (not-at-end x [] m refl b))
gaps-within zero (c ∷ t) h =
    let no : ⊥ = omega (arith, h) in
    absurd no
gaps-within (suc n) (c ∷ t) h =
    by_gap (λ l. gaps-within n (after_suffix (is_literal (first_body c t).0 && (first_body c t).1)
    (first_body c t).2) l) (is_gap y.kind) refl
  where
    o : Body
    o = first_body c t

    x : (b s : Text) × Begins (record { kind = o.0; is_ended = o.1; body = b; suffix = s }) (c ∷ t)
        (after_suffix (is_literal o.0 && o.1) o.2)
        × (o.2 ≡ s ++ after_suffix (is_literal o.0 && o.1) o.2)
    x = begins-lexeme o.0 o.1 (c ∷ t) o.2 refl

    y : Lexeme
    y = record { kind = o.0; is_ended = o.1; body = x.0; suffix = x.1 }

    r : Text
    r = after_suffix (is_literal o.0 && o.1) o.2

    less : length r < length (c ∷ t)
    less = less-left y (c ∷ t) r x.2

    by_gap : (length r ≤ n → Gaps r) → (b : Bool) → is_gap y.kind ≡ b → Gaps (c ∷ t)
    by_gap f true e =
        let more = f (omega (arith, h, less)) in
        (y ∷ more.0, more.1, (r, x.2, more.2), and_from _ _ e more.3, more.4)
    by_gap f false e = (
      [],
      c ∷ t,
      refl,
      refl,
      λ z m b. ap (λ l. is_gap l.kind) (begins-once z y (c ∷ t) m r b x.2).0 ∙ e,
    )

-- A text is or is not the rest of an attribute.
by-attribute : (C : Type 0) (t : Text) → (OpensAttribute t → C) → ((OpensAttribute t → ⊥) → C) → C
by-attribute C t if_so if_not = by_bracket (first_passes is_bracket g.1) refl
  where
    g : Gaps t
    g = gaps-within (length t) t (omega arith)

    by_bracket : (b : Bool) → first_passes is_bracket g.1 ≡ b → C
    by_bracket true e = if_so (g.0, g.1, g.2, g.3, e)
    by_bracket false e = if_not (λ a.
        let same = gaps-once t g.1 a.1 g.0 a.0 g.2 a.2 g.3 a.3 g.4 a.4 in
        false≢true (sym e ∙ (ap (λ u. first_passes is_bracket u) same ∙ a.4)))

marked-some : (whole : Text) → (xs : List Lexeme) × (t : Text) × IsMarked whole xs t
marked-some [] = ([], [], inr (refl, refl, refl))
marked-some (c ∷ t) = by_test (c == 0xFEFF) refl
  where
    by_test : (b : Bool) → (c == 0xFEFF) ≡ b → (xs : List Lexeme) × (u : Text)
        × IsMarked (c ∷ t) xs u
    by_test true e = (mark ∷ [], t, inl (refl, ap (λ d. d ∷ t) (eqb-true c 0xFEFF e)))
    by_test false e = ([], c ∷ t, inr (refl, refl, no_pass _ e))

unshebanged : (t : Text) → ((u : Text) → t ≡ codes "#!" ++ u → OpensAttribute u)
    → (xs : List Lexeme) × (u : Text) × IsShebanged t xs u
unshebanged t f = ([], t, inr (refl, refl, f))

abbrev head : Text → ℕ
head [] = 0
head (c ∷ t) = c

shebanged-some : (t : Text) → (xs : List Lexeme) × (u : Text) × IsShebanged t xs u
shebanged-some [] = unshebanged [] (λ u e. absurd (no_nil u e))
  where
    no_nil : (u : Text) → [] ≡ 35 ∷ 33 ∷ u → ⊥
    no_nil u e = cc
shebanged-some (c ∷ []) = unshebanged (c ∷ []) (λ u e. absurd (no_nil u (ap (λ v. tail v) e)))
  where
    no_nil : (u : Text) → [] ≡ 33 ∷ u → ⊥
    no_nil u e = cc
shebanged-some (c ∷ d ∷ t) = by_tests (c == 35) (d == 33) refl refl
  where
    by_tests : (a b : Bool) → (c == 35) ≡ a → (d == 33) ≡ b
        → (xs : List Lexeme) × (u : Text) × IsShebanged (c ∷ d ∷ t) xs u
    by_tests false b e f = unshebanged (c ∷ d ∷ t) (λ u j.
        absurd (false≢true (sym e ∙ ap (λ v. head v == 35) j)))
    by_tests true false e f = unshebanged (c ∷ d ∷ t) (λ u j.
        absurd (false≢true (sym f ∙ ap (λ v. head (tail v) == 33) j)))
    by_tests true true e f =
        let w : c ∷ d ∷ t ≡ 35 ∷ 33 ∷ t = two (eqb-true c 35 e) (eqb-true d 33 f) in
        by-attribute ((xs : List Lexeme) × (u : Text) × IsShebanged (c ∷ d ∷ t) xs u) t
        (λ y. unshebanged (c ∷ d ∷ t) (λ u j. subst (λ v. OpensAttribute v)
        (ap (λ v. tail (tail v)) j) y))
        (λ n. (
          shebang (front is_in_line t) ∷ [],
          rest_after is_in_line t,
          inl (
            front is_in_line t,
            refl,
            w ∙ ap (λ v. 35 ∷ 33 ∷ v) (front-rest_after is_in_line t),
            all-front is_in_line t,
            stops-rest_after is_in_line t,
            λ a. n (subst (λ v. OpensAttribute v) (sym (front-rest_after is_in_line t)) a),
          ),
        ))
      where
        two : c ≡ 35 → d ≡ 33 → c ∷ d ∷ t ≡ 35 ∷ 33 ∷ t
        two e f = rw (e, f) refl

pub file-some : (whole : Text) → (xs : List Lexeme) × ReadsFile whole xs
file-some whole =
    let m = marked-some whole in
    let s = shebanged-some m.1 in
    let r = reads-some s.1 in
    (m.0 ++ (s.0 ++ r.0), (m.0, s.0, r.0, m.1, s.1, m.2, s.2, r.1, refl))
