-- The tokens of escapes are the escapes of the source.
use Rattle.std.proofs.Common.{◌≡◌, ℕ, suc, zero, ◌++◌, ◌-◌, Bool, true, false, List, [], ◌∷◌, ◌∙◌}
use Rattle.std.proofs.Common.{length, map, refl, ap, cond, nat_lt, Option, Some, None}
use Rattle.std.specs.Prelude.{filter}
use Rattle.rustc_parse_format.specs.Characters.{Text, byte_length}
use Rattle.format_tokens.specs.declared.kinds.Kind.{Kind}
use Rattle.format_tokens.specs.declared.kinds.Kind.TheVariants.{EscapeSequence}
use Rattle.format_tokens.specs.Escapes.{Placed, escape_at, is_apart, parts, parts_within, run}
use Rattle.format_tokens.specs.Sequences.{apart_escapes, escapes_of, escapes_within}
use Rattle.format_tokens.specs.Sequences.{is_sequence}
use Rattle.format_tokens.specs.Sequences.{sequence, sequences}

-- No escape is in a run of another kind.
run-none : (k : Kind) (a b : ℕ) (xs : List Placed) → is_sequence k ≡ false
    → sequences (run k a b ++ xs) ≡ sequences xs
run-none k a b xs h = by_test (nat_lt a b)
  where
    by_test : (l : Bool) → sequences (cond l ((k, (a, b)) ∷ []) [] ++ xs) ≡ sequences xs
    by_test true = rw h refl
    by_test false = refl

run-empty : (k : Kind) (a b : ℕ) → is_sequence k ≡ false → sequences (run k a b) ≡ []
run-empty k a b h = by_test (nat_lt a b)
  where
    by_test : (l : Bool) → sequences (cond l ((k, (a, b)) ∷ []) []) ≡ []
    by_test true = rw h refl
    by_test false = refl

within-sequences : (n : ℕ) (k : Kind) (from e : ℕ) (t : Text) → is_sequence k ≡ false
    → sequences (parts_within n k from e t)
    ≡ map (sequence e) (filter (λ s. is_apart k s.value) (escapes_within n t))
unfolding is_sequence
within-sequences zero k from e t h = run-empty k from e h
within-sequences (suc n) k from e [] h = run-empty k from e h
within-sequences (suc n) k from e (c ∷ t) h =
    by_escape (escape_at (c ∷ t)) refl (λ f u. within-sequences n k f e u h)
  where
    by_kind : (x : Text × Text) → escape_at (c ∷ t) ≡ Some x → (b : Bool)
        → is_apart k x.0 ≡ b
        → ((f : ℕ) (u : Text) → sequences (parts_within n k f e u)
        ≡ map (sequence e) (filter (λ s. is_apart k s.value) (escapes_within n u)))
        → sequences (parts_within (suc n) k from e (c ∷ t))
        ≡ map (sequence e) (filter (λ s. is_apart k s.value) (escapes_within (suc n) (c ∷ t)))
    by_kind x q true p on =
        rw (q, p, parts_within, escapes_within) (run-none k from (e - byte_length (c ∷ t)) _ h
        ∙ ap (λ xs. (EscapeSequence, (e - byte_length (c ∷ t), e - byte_length x.1)) ∷ xs)
        (on (e - byte_length x.1) x.1))
    by_kind x q false p on = rw (q, p, parts_within, escapes_within) (on from x.1)

    by_escape : (o : Option (Text × Text)) → escape_at (c ∷ t) ≡ o
        → ((f : ℕ) (u : Text) → sequences (parts_within n k f e u)
        ≡ map (sequence e) (filter (λ s. is_apart k s.value) (escapes_within n u)))
        → sequences (parts_within (suc n) k from e (c ∷ t))
        ≡ map (sequence e) (filter (λ s. is_apart k s.value) (escapes_within (suc n) (c ∷ t)))
    by_escape None q on = rw (q, parts_within, escapes_within) (on from t)
    by_escape (Some x) q on = by_kind x q (is_apart k x.0) refl on

pub part-sequences : (x : Placed) (t : Text) → is_sequence x.0 ≡ false
    → sequences (parts x t) ≡ map (sequence x.1.1) (apart_escapes x.0 t)
unfolding parts escapes_of
part-sequences x t h = within-sequences (length t) x.0 x.1.0 x.1.1 t h
