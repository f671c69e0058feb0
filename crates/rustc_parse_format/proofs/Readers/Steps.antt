-- The number of characters given back stays bounded, as `IsPaid` says, if the cursor reads forward
-- and if it gives a word back.
use Rattle.std.proofs.Common.{◌≡◌, ℕ, ◌+◌, ◌≤◌, Bool, true, false, cond, [], ◌∷◌, length, refl, ap}
use Rattle.std.proofs.Common.{◌∙◌, arith}
use Rattle.std.specs.Prelude.{◌||◌}
use Rattle.std.specs.Char.{is_ascii_digit}
use Rattle.unicode_ident.proofs.Computing.{unicode_ident}
use Rattle.std.proofs.lemmas.Bool.{eqb-true}
use Rattle.rustc_parse_format.specs.Characters.{Text, is_id_start, is_id_continue, rest_after}
use Rattle.rustc_parse_format.specs.Characters.{after_digits, after_first, after_word}
use Rattle.rustc_parse_format.specs.Characters.{begins_with}
use Rattle.rustc_parse_format.specs.Rewinds.{is_word_part, after_part}
use Rattle.rustc_parse_format.specs.CallStates.{IsCounted, StepCounts}

pub rest_after-le : (p : ℕ → Bool) (t : Text) → length (rest_after p t) ≤ length t
rest_after-le p [] = omega arith
rest_after-le p (c ∷ t) =
    elim (p c) as (λ b. length (cond b (rest_after p t) (c ∷ t)) ≤ length (c ∷ t)) [
      | true ↦ omega (arith, rest_after-le p t)
      | false ↦ omega arith
    ]

pub part_le : (t : Text) → after_part t ≤ length t
part_le t = rest_after-le is_word_part t

part_after_first : (c : ℕ) (t : Text) → after_part t ≤ after_part (c ∷ t)
part_after_first c t =
    elim (is_word_part c) as (λ b. after_part t
    ≤ length (cond b (rest_after is_word_part t) (c ∷ t))) [
      | true ↦ omega arith
      | false ↦ omega (arith, part_le t)
    ]

or_true : (b : Bool) → (b || true) ≡ true
or_true true = refl
or_true false = refl

-- characters that go on with a word are a part of it
part_after : (t : Text) → after_part t ≤ length (rest_after is_id_continue t)
part_after [] = omega arith
part_after (c ∷ t) =
    elim (is_id_continue c) as (λ b. is_id_continue c ≡ b → after_part (c ∷ t)
    ≤ length (cond b (rest_after is_id_continue t) (c ∷ t))) [
      | true ↦ λ e. rw (e, or_true (is_id_start c)) (part_after t)
      | false ↦ λ e. part_le (c ∷ t)
    ] refl

pub part_after_word : (t : Text) → after_part t ≤ length (after_word t)
unfolding after_word
part_after_word [] = omega arith
part_after_word (c ∷ t) =
    elim (is_id_start c) as (λ b. is_id_start c ≡ b → after_part (c ∷ t)
    ≤ length (cond b (rest_after is_id_continue t) (c ∷ t))) [
      | true ↦ λ e. rw e (part_after t)
      | false ↦ λ e. part_le (c ∷ t)
    ] refl

-- At a character that is no part of a word, the cursor never stood further on.
not_part : (c : ℕ) (t : Text) → is_word_part c ≡ false → begins_with c t ≡ true
    → length t ≤ after_part t
not_part c [] n h = omega arith
not_part c (d ∷ t) n h =
    let same : d ≡ c = eqb-true d c h in
    let no : is_word_part d ≡ false = ap is_word_part same ∙ n in
    rw no (omega arith)

pub at_dot : (t : Text) → begins_with 46 t ≡ true → length t ≤ after_part t
unfolding unicode_ident
at_dot t h = not_part 46 t refl h

pub at_colon : (t : Text) → begins_with 58 t ≡ true → length t ≤ after_part t
unfolding unicode_ident
at_colon t h = not_part 58 t refl h

pub after_first-part : (t : Text) → after_part (after_first t) ≤ after_part t
after_first-part [] = omega arith
after_first-part (c ∷ t) = part_after_first c t

-- a front less
pub rest_after-part : (p : ℕ → Bool) (t : Text) → after_part (rest_after p t) ≤ after_part t
rest_after-part p [] = omega arith
rest_after-part p (c ∷ t) =
    elim (p c) as (λ b. after_part (cond b (rest_after p t) (c ∷ t)) ≤ after_part (c ∷ t)) [
      | true ↦ omega (arith, rest_after-part p t, part_after_first c t)
      | false ↦ omega arith
    ]

pub after_word-part : (t : Text) → after_part (after_word t) ≤ after_part t
unfolding after_word
after_word-part [] = omega arith
after_word-part (c ∷ t) =
    elim (is_id_start c) as (λ b. after_part (cond b (rest_after is_id_continue t) (c ∷ t))
    ≤ after_part (c ∷ t)) [
      | true ↦ omega (arith, rest_after-part is_id_continue t, part_after_first c t)
      | false ↦ omega arith
    ]

pub after_digits-part : (t : Text) → after_part (after_digits t) ≤ after_part t
unfolding after_digits
after_digits-part t = rest_after-part is_ascii_digit t

-- forward from t to u
pub counted_on : (n t u : Text) (p q : StepCounts)
    → q.pass_count + length u ≡ p.pass_count + length t
    → q.left_count ≡ p.left_count → after_part u ≤ after_part t → IsCounted n t p → IsCounted n u q
counted_on n t u p q made left le h = record {
  made = omega (arith, h.made, made);
  paid = record {
    count = omega (arith, h.paid.count, made, left);
    word = omega (arith, h.paid.word, le, left);
  };
}

-- and back, over a word
pub counted_back : (n u t : Text) (p : StepCounts) → length t ≤ p.left_count → length u ≤ length t
    → after_part t ≤ length u
    → IsCounted n u p → IsCounted n t (record { pass_count = p.pass_count; left_count = length u })
counted_back n u t p far earlier word h = record {
  made = omega (arith, h.made, earlier);
  paid = record { count = omega (arith, h.made, h.paid.count, far, earlier); word = word };
}

-- where nothing was passed
pub counted_first : (n : Text) → IsCounted n n (record { pass_count = 0; left_count = length n })
counted_first n = record {
  made = omega arith;
  paid = record { count = omega arith; word = part_le n };
}
