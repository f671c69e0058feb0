-- The characters that a call reads in place of a closing brace.
use Rattle.std.proofs.Common.{◌≡◌, ℕ, suc, ◌++◌, ◌-◌, Bool, true, false, List, [], ◌∷◌}
use Rattle.std.proofs.Common.{length, chars, take, refl, sym, ap, ◌∙◌, arith, append_assoc}
use Rattle.std.proofs.Common.{append-nil}
use denote.Ref.{Bor}
use Rattle.std.proofs.Common.{Option, Some, None}
use Rattle.std.specs.Prelude.{MatchOption, is_some}
use Rattle.std.specs.Char.{len_utf8}
use Rattle.std.specs.Int.{from_bool}
use Rattle.std.proofs.lemmas.Bool.{eqb-true, false≢true, false_from_ne_true}
use Rattle.std.proofs.lemmas.List.Sums.{sum_by-append}
use Rattle.rustc_parse_format.specs.Characters.{Text, byte_length}
use Rattle.format_tokens.specs.declared.kinds.Kind.TheVariants.{CloseBrace, Unexpected}
use Rattle.format_tokens.specs.declared.kinds.Label.{Label as Sized}
use Rattle.format_tokens.specs.Labels.{Adds}
use Rattle.format_tokens.specs.Tokens.{Label}
use Rattle.format_tokens.specs.Walk.{is_closed, skipped_tokens}
use Rattle.format_tokens.proofs.Taking.{Takes, then, width-nil}

-- The contract of `skipped`.
abbrev pub Skips : ℕ → List ℕ → List Sized → List Sized → List ℕ → Type 0
Skips n t x y left = (u r : Text) → chars t ≡ u ++ r → n ≡ byte_length u
    → Adds (skipped_tokens u) r x y left

pub closed-last : (v : Text) → is_closed (v ++ 125 ∷ []) ≡ true
closed-last [] = refl
closed-last (c ∷ []) = refl
closed-last (c ∷ d ∷ v) = closed-last (d ∷ v)

pub closed-shape : (u : Text) → is_closed u ≡ true → u ≡ take (length u - 1) u ++ 125 ∷ []
closed-shape [] h = absurd (false≢true h)
closed-shape (c ∷ []) h = ap (λ d. d ∷ []) (eqb-true c 125 h)
closed-shape (c ∷ d ∷ u) h =
    let e : suc (length (d ∷ u) - 1) ≡ length (c ∷ d ∷ u) - 1 = omega arith in
    ap (λ t. c ∷ t) (closed-shape (d ∷ u) h)
    ∙ ap (λ n. take n (c ∷ d ∷ u) ++ 125 ∷ []) e

-- A text that has no part before a closing brace at its end is not closed.
pub open-text : (u : Text) → ((t : List ℕ) → t ++ 125 ∷ [] ≡ u → ⊥) → is_closed u ≡ false
open-text u h = false_from_ne_true _ (λ e. h _ (sym (closed-shape u e)))

-- The answer of a search for that part.
pub closed-found : (u : Text) (text : List ℕ) (r : Option (Bor (List ℕ))) (b : Bool)
    → chars text ≡ u
    → MatchOption r ((t : List ℕ) → t ++ 125 ∷ [] ≡ chars text → ⊥)
    (λ t. chars t.now ++ 125 ∷ [] ≡ chars text)
    → b ≡ is_some r → b ≡ is_closed u
closed-found u text None b e h some =
    some ∙ sym (open-text u (λ t k. h t (k ∙ sym e)))
closed-found u text (Some t) b e h some =
    some ∙ sym (ap is_closed (sym (h ∙ e)) ∙ closed-last (chars t.now))

-- Nothing is taken after a token.
also_none : {a : List Label} {s r : Text} {x y z : List Sized} {t u : List ℕ} → Adds a s x y t
    → Adds [] r y z u → Adds a r x z u
also_none h k = record { adds = k.adds ∙ (append-nil _ ∙ h.adds); leaves = k.leaves }

pub skips : (t s left : List ℕ) (x y z : List Sized) (n a b : ℕ)
    → ((u r : Text) → chars t ≡ u ++ r → n ≡ byte_length u → b ≡ from_bool (is_closed u))
    → a ≡ n - b → Takes Unexpected a t x y s → Takes CloseBrace b s y z left → Skips n t x z left
skips t s left x y z n a b closed e skip close u r h w = by_end (is_closed u) refl
  where
    by_end : (v : Bool) → is_closed u ≡ v → Adds (skipped_tokens u) r x z left
    by_end true q =
        let shape = closed-shape u q in
        let one : b ≡ 1 = closed u r h w ∙ ap from_bool q in
        let first = skip (take (length u - 1) u) (125 ∷ r)
        (h ∙ (ap (λ v. v ++ r) shape ∙ append_assoc (take (length u - 1) u) (125 ∷ []) r))
        (omega (
          arith,
          e,
          one,
          w,
          ap byte_length shape,
          sum_by-append len_utf8 (take (length u - 1) u) (125 ∷ []),
        )) in
        rw q (then first (close (125 ∷ []) r first.leaves one))
    by_end false q =
        let none : b ≡ 0 = closed u r h w ∙ ap from_bool q in
        let first = skip u r h (omega (arith, e, none, w)) in
        rw q (also_none first (close [] r first.leaves (none ∙ width-nil)))
