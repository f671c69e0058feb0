-- The parts of a token, and those of all tokens of a literal.
use Rattle.std.proofs.Common.{◌≡◌, ◌≢◌, ℕ, suc, zero, ◌++◌, ◌-◌, ◌≤◌, ◌<◌, ◌==◌, Bool, true, false}
use Rattle.std.proofs.Common.{List, [], ◌∷◌, length, refl, sym, ap, ◌∙◌, arith}
use Rattle.std.proofs.Common.{append_assoc, Some, None}
use Rattle.rustc_parse_format.specs.Characters.{Text, after_first, byte_length}
use Rattle.rustc_parse_format.proofs.Literals.Meanings.{meaning-shorter}
use Rattle.format_tokens.specs.declared.kinds.Kind.{Kind}
use Rattle.format_tokens.specs.declared.kinds.Kind.TheVariants.{EscapeSequence}
use Rattle.format_tokens.specs.Escapes.{Placed, escape_at, is_apart, parts}
use Rattle.format_tokens.specs.Escapes.{parts_within, run}

-- An escape is shorter than the text that it begins.
pub escape-shorter : (t v r : Text) → escape_at t ≡ Some (v, r) → length r < length t
escape-shorter [] v r e = absurd (cc e)
escape-shorter (c ∷ t) v r e = by_sign (c == 92) refl
  where
    by_sign : (b : Bool) → (c == 92) ≡ b → length r < length (c ∷ t)
    by_sign true q = meaning-shorter (c ∷ t) v r (rw q at e)
    by_sign false q = let none = rw q at e in absurd (cc none)

-- A character that begins no escape is part of the token.
pub record Passes (n : ℕ) (k : Kind) (from e : ℕ) (t r : Text) : Type 0 where
  pub fewer : ℕ
  pub enough : length r ≤ fewer
  pub same : parts_within n k from e t ≡ parts_within fewer k from e r

pub pass-character : (n : ℕ) (k : Kind) (from e : ℕ) (t : Text) → t ≢ [] → length t ≤ n
    → escape_at t ≡ None → Passes n k from e t (after_first t)
pass-character n k from e [] some h none = absurd (some refl)
pass-character zero k from e (c ∷ t) some h none = absurd (omega arith)
pass-character (suc n) k from e (c ∷ t) some h none =
    record { fewer = n; enough = omega (arith, h); same = rw (none, parts_within) refl }

pub pass-escape : (n : ℕ) (k : Kind) (from e : ℕ) (t v r : Text) → length t ≤ n
    → escape_at t ≡ Some (v, r) → is_apart k v ≡ false → Passes n k from e t r
pass-escape n k from e [] v r h some apart = absurd (cc some)
pass-escape zero k from e (c ∷ t) v r h some apart = absurd (omega arith)
pass-escape (suc n) k from e (c ∷ t) v r h some apart = record {
  fewer = n;
  enough = omega (arith, h, escape-shorter (c ∷ t) v r some);
  same = rw (some, apart, parts_within) refl;
}

-- An escape that is a token of its own comes after the part before it.
pub record Cuts (n : ℕ) (k : Kind) (from e : ℕ) (t r : Text) : Type 0 where
  pub fewer : ℕ
  pub enough : length r ≤ fewer
  pub same : parts_within n k from e t ≡ run k from (e - byte_length t)
      ++ (EscapeSequence, (e - byte_length t, e - byte_length r))
      ∷ parts_within fewer k (e - byte_length r) e r

pub cut-escape : (n : ℕ) (k : Kind) (from e : ℕ) (t v r : Text) → length t ≤ n
    → escape_at t ≡ Some (v, r) → is_apart k v ≡ true → Cuts n k from e t r
cut-escape n k from e [] v r h some apart = absurd (cc some)
cut-escape zero k from e (c ∷ t) v r h some apart = absurd (omega arith)
cut-escape (suc n) k from e (c ∷ t) v r h some apart = record {
  fewer = n;
  enough = omega (arith, h, escape-shorter (c ∷ t) v r some);
  same = rw (some, apart, parts_within) refl;
}

-- At the end the last part is left.
pub parts-end : (n : ℕ) (k : Kind) (from e : ℕ) → parts_within n k from e [] ≡ run k from e
parts-end zero k from e = refl
parts-end (suc n) k from e = refl

-- The parts that are added so far, and then those of the rest, are all.
pub record IsCutSoFar (x : Placed) (text : Text) (old new : List Placed) (from : ℕ) (rest : Text) :
    Type 0 where
  pub turns : ℕ
  pub enough : length rest ≤ turns
  pub so_far : new ++ parts_within turns x.0 from x.1.1 rest ≡ old ++ parts x text

pub so_far-start : (x : Placed) (text : Text) (old : List Placed)
    → IsCutSoFar x text old old x.1.0 text
unfolding parts
so_far-start x text old = record { turns = length text; enough = omega arith; so_far = refl }

pub so_far-pass : (x : Placed) (text : Text) (old new : List Placed) (from : ℕ) (t r : Text)
    → (h : IsCutSoFar x text old new from t) → Passes h.turns x.0 from x.1.1 t r
    → IsCutSoFar x text old new from r
so_far-pass x text old new from t r h p = record {
  turns = p.fewer;
  enough = p.enough;
  so_far = ap (λ l. new ++ l) (sym p.same) ∙ h.so_far;
}

pub so_far-cut : (x : Placed) (text : Text) (old new one two : List Placed) (from : ℕ) (t r : Text)
    → (h : IsCutSoFar x text old new from t) → Cuts h.turns x.0 from x.1.1 t r
    → one ≡ new ++ run x.0 from (x.1.1 - byte_length t)
    → two ≡ one ++ (EscapeSequence, (x.1.1 - byte_length t, x.1.1 - byte_length r)) ∷ []
    → IsCutSoFar x text old two (x.1.1 - byte_length r) r
so_far-cut x text old new one two from t r h p e f = record {
  turns = p.fewer;
  enough = p.enough;
  so_far =
      let escape : Placed = (EscapeSequence, (x.1.1 - byte_length t, x.1.1 - byte_length r)) in
      let others = parts_within p.fewer x.0 (x.1.1 - byte_length r) x.1.1 r in
      ap (λ l. l ++ others) f ∙ (append_assoc one (escape ∷ []) others
      ∙ (ap (λ l. l ++ escape ∷ others) e
      ∙ (append_assoc new (run x.0 from (x.1.1 - byte_length t)) (escape ∷ others)
      ∙ (ap (λ l. new ++ l) (sym p.same) ∙ h.so_far))));
}

pub so_far-end : (x : Placed) (text : Text) (old new all : List Placed) (from : ℕ)
    → IsCutSoFar x text old new from [] → all ≡ new ++ run x.0 from x.1.1
    → all ≡ old ++ parts x text
so_far-end x text old new all from h e =
    e ∙ (ap (λ l. new ++ l) (sym (parts-end h.turns x.0 from x.1.1)) ∙ h.so_far)

pub after_first-shorter : (t : Text) → t ≢ [] → length (after_first t) < length t
after_first-shorter [] some = absurd (some refl)
after_first-shorter (c ∷ t) some = omega arith
