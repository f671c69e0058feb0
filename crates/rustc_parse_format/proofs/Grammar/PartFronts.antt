-- Runs, integers and words: the longest prefix of a text is one, and the only one.
use Rattle.std.proofs.Common.{◌≡◌, ◌≤◌, ◌<◌, ◌⊎◌, inl, inr, ◌++◌, ℕ, Bool, true, false, not, cond}
use Rattle.std.proofs.Common.{[], ◌∷◌, refl, sym, ◌∙◌, ap, arith}
use Rattle.std.specs.Prelude.{◌&&◌, ◌==◌, nat_le}
use Rattle.std.specs.Char.{is_ascii_digit, is_ascii_alphabetic}
use Rattle.std.proofs.lemmas.Bool.{cond-true, cond-false, and_parts, and_from, not-true}
use Rattle.std.proofs.lemmas.Bool.{not_from_false, false≢true, leb-true, eqb-true}
use Rattle.std.proofs.lemmas.Bool.{false_from_ne_true}
use Rattle.std.proofs.lemmas.Bool.{or_cases}
use Rattle.unicode_ident.proofs.IdentLemmas.{is_xid_start-ascii}
use Rattle.unicode_ident.specs.Ident.{is_xid_start}
use Rattle.rustc_parse_format.specs.Characters.{
  Text,
  is_id_start,
  is_id_continue,
  front,
  rest_after,
}
use Rattle.rustc_parse_format.specs.Characters.{word, after_word, digits, after_digits}
use Rattle.rustc_parse_format.specs.Characters.{first_passes}
use Rattle.rustc_parse_format.specs.Spelling.{IsPart, run, some_run, integer, identifier}
use Rattle.rustc_parse_format.specs.Spelling.{optional_identifier}
use Rattle.rustc_parse_format.proofs.Grammar.Fronts.{front-rest_after, list_all-front}
use Rattle.rustc_parse_format.proofs.Grammar.Fronts.{first_passes-rest_after, front-append}
use Rattle.rustc_parse_format.proofs.Grammar.Fronts.{rest_after-append}
use Rattle.rustc_parse_format.proofs.Grammar.PartLaws.{Finds}

-- each with the rest
abbrev pub run_at : (ℕ → Bool) → Text → Text × Text
run_at p t = (front p t, rest_after p t)

abbrev pub word_at : Text → Text × Text
word_at t = (word t, after_word t)

pub run-finds : (p : ℕ → Bool) → Finds (run p) (run_at p)
run-finds p = record {
  sound = λ t. record {
    whole = front-rest_after p t;
    formed = list_all-front p t;
    ends = not_from_false _ (first_passes-rest_after p t);
  };
  complete = λ t u r h.
      (let ends : first_passes p r ≡ false = not-true _ h.ends in
      ap (λ s. (front p s, rest_after p s)) h.whole
      ∙ (ap (λ s. (s, rest_after p (u ++ r))) (front-append p u r h.formed ends)
      ∙ ap (λ s. (u, s)) (rest_after-append p u r h.formed ends)));
}

-- a run at the front that is not empty
pub some_run-sound : (p : ℕ → Bool) (c : ℕ) (t : Text) → p c ≡ true
    → IsPart (c ∷ t) (some_run p (front p (c ∷ t))) (rest_after p (c ∷ t))
some_run-sound p c t d = record {
  whole = front-rest_after p (c ∷ t);
  formed = and_from _ _ (ap (first_passes p) (cond-true (p c) (c ∷ front p t) [] d) ∙ d)
      (list_all-front p (c ∷ t));
  ends = not_from_false _ (first_passes-rest_after p (c ∷ t));
}

pub record RunAt (p : ℕ → Bool) (t u r : Text) : Type 0 where
  pub begins : first_passes p t ≡ true
  pub read : front p t ≡ u
  pub rest_after : rest_after p t ≡ r

pub some_run-complete : (p : ℕ → Bool) (t u r : Text) → IsPart t (some_run p u) r → RunAt p t u r
some_run-complete p t [] r h = absurd (false≢true h.formed)
some_run-complete p t (c ∷ u) r h =
    let all = and_parts _ _ h.formed in
    let ends = not-true _ h.ends in
    record {
      begins = ap (first_passes p) h.whole ∙ all.0;
      read = ap (front p) h.whole ∙ front-append p (c ∷ u) r all.1 ends;
      rest_after = ap (rest_after p) h.whole ∙ rest_after-append p (c ∷ u) r all.1 ends;
    }

-- an integer at the front
pub integer-sound : (c : ℕ) (t : Text) → is_ascii_digit c ≡ true
    → IsPart (c ∷ t) (integer (digits (c ∷ t))) (after_digits (c ∷ t))
unfolding digits after_digits
integer-sound c t d = some_run-sound is_ascii_digit c t d

pub record IntegerAt (t ds r : Text) : Type 0 where
  pub digit : first_passes is_ascii_digit t ≡ true
  pub read : digits t ≡ ds
  pub rest_after : after_digits t ≡ r

pub integer-complete : (t ds r : Text) → IsPart t (integer ds) r → IntegerAt t ds r
unfolding digits after_digits
integer-complete t ds r h = let k = some_run-complete is_ascii_digit t ds r h in
    record { digit = k.begins; read = k.read; rest_after = k.rest_after }

-- a word at the front, and none
word-start : (c : ℕ) (t : Text) → is_id_start c ≡ true → word (c ∷ t) ≡ c ∷ front is_id_continue t
unfolding word
word-start c t i = cond-true (is_id_start c) _ _ i

after_word-start : (c : ℕ) (t : Text) → is_id_start c ≡ true
    → after_word (c ∷ t) ≡ rest_after is_id_continue t
unfolding after_word
after_word-start c t i = cond-true (is_id_start c) _ _ i

word-none : (t : Text) → first_passes is_id_start t ≡ false → word t ≡ []
unfolding word
word-none [] e = refl
word-none (c ∷ t) e = cond-false (is_id_start c) _ _ e

pub after_word-none : (t : Text) → first_passes is_id_start t ≡ false → after_word t ≡ t
unfolding after_word
after_word-none [] e = refl
after_word-none (c ∷ t) e = cond-false (is_id_start c) _ _ e

pub identifier-sound : (c : ℕ) (t : Text) → is_id_start c ≡ true
    → IsPart (c ∷ t) (identifier (word (c ∷ t))) (after_word (c ∷ t))
identifier-sound c t i = record {
  whole = ap (λ u. c ∷ u) (front-rest_after is_id_continue t)
      ∙ (ap (λ u. u ++ rest_after is_id_continue t) (sym (word-start c t i))
      ∙ ap (λ u. word (c ∷ t) ++ u) (sym (after_word-start c t i)));
  formed = ap (λ w. (identifier w).is_formed) (word-start c t i)
      ∙ and_from _ _ i (list_all-front is_id_continue t);
  ends = ap (λ r. not (first_passes is_id_continue r)) (after_word-start c t i)
      ∙ not_from_false _ (first_passes-rest_after is_id_continue t);
}

pub record WordAt (t w r : Text) : Type 0 where
  pub first_passes : first_passes is_id_start t ≡ true
  pub read : word t ≡ w
  pub rest_after : after_word t ≡ r

pub identifier-complete : (t w r : Text) → IsPart t (identifier w) r → WordAt t w r
identifier-complete t [] r h = absurd (false≢true h.formed)
identifier-complete t (c ∷ w) r h =
    let i : is_id_start c ≡ true = (and_parts _ _ h.formed).0 in
    let all = (and_parts _ _ h.formed).1 in
    let ends = not-true _ h.ends in
    record {
      first_passes = ap (first_passes is_id_start) h.whole ∙ i;
      read = ap word h.whole
          ∙ (word-start c (w ++ r) i ∙ ap (λ u. c ∷ u) (front-append is_id_continue w r all ends));
      rest_after = ap after_word h.whole
          ∙ (after_word-start c (w ++ r) i ∙ rest_after-append is_id_continue w r all ends);
    }

optional-sound : (t : Text) → IsPart t (optional_identifier (word t)) (after_word t)
unfolding word after_word
optional-sound [] = record { whole = refl; formed = refl; ends = refl }
optional-sound (c ∷ t) =
    elim (is_id_start c) as (λ b. is_id_start c ≡ b
    → IsPart (c ∷ t) (optional_identifier (cond b (c ∷ front is_id_continue t) []))
    (cond b (rest_after is_id_continue t) (c ∷ t))) [
      | true ↦ λ i. record {
        whole = ap (λ u. c ∷ u) (front-rest_after is_id_continue t);
        formed = and_from _ _ i (list_all-front is_id_continue t);
        ends = not_from_false _ (first_passes-rest_after is_id_continue t);
      }
      | false ↦ λ i. record { whole = refl; formed = refl; ends = not_from_false _ i }
    ] refl

optional-complete : (t w r : Text) → IsPart t (optional_identifier w) r → word_at t ≡ (w, r)
optional-complete t [] r h =
    let e : first_passes is_id_start t ≡ false = ap (first_passes is_id_start) h.whole
    ∙ not-true _ h.ends in
    ap (λ u. (u, after_word t)) (word-none t e)
    ∙ ap (λ u. ([], u)) (after_word-none t e ∙ h.whole)
optional-complete t (c ∷ w) r h = let k = identifier-complete t (c ∷ w) r h in
    ap (λ u. (u, after_word t)) k.read ∙ ap (λ u. (c ∷ w, u)) k.rest_after

pub optional_identifier-finds : Finds optional_identifier word_at
optional_identifier-finds = record { sound = optional-sound; complete = optional-complete }

no_letter : (lo hi c : ℕ) → c < lo → (nat_le lo c && nat_le c hi) ≡ true → ⊥
no_letter lo hi c small e = let k = leb-true lo c (and_parts _ _ e).0 in omega (arith, k, small)

-- a digit begins no word
pub start-no_digit : (c : ℕ) → is_id_start c ≡ true → is_ascii_digit c ≡ false
start-no_digit c i = false_from_ne_true (is_ascii_digit c)
    (λ d. by_range (leb-true c 57 (and_parts _ _ d).1) (or_cases _ _ i))
  where
    by_letter : c ≤ 57 → (is_ascii_alphabetic c) ≡ true → ⊥
    by_letter small e = elim (or_cases _ _ e) [
      | inl k ↦ no_letter 65 90 c (omega (arith, small)) k
      | inr k ↦ no_letter 97 122 c (omega (arith, small)) k
    ]

    by_range : c ≤ 57 → ((c == 95) ≡ true) ⊎ (is_xid_start c ≡ true) → ⊥
    by_range small (inl e) = let k = eqb-true c 95 e in omega (arith, k, small)
    by_range small (inr e) = by_letter small (sym (is_xid_start-ascii c (omega (arith, small))) ∙ e)
