-- The names that titles have.
use Rattle.std.proofs.Common.{◌≡◌, ℕ, suc, zero, ◌<◌, ◌≤◌, List, [], ◌∷◌, Option, Some, None}
use Rattle.std.proofs.Common.{refl, sym, ap, ◌∙◌, map, length, get_or, arith, chars}
use Rattle.std.specs.List.{slice_get}
use Rattle.std.proofs.lemmas.Str.{chars-nil}
use Rattle.call_faults.specs.Arguments.{FormatArgument}
use Rattle.call_faults.specs.Words.{name_of}

past-end : {A : Type 0} (f : A → FormatArgument) (xs : List A) (i : ℕ) → length xs ≤ i
    → slice_get (map f xs) i ≡ None
past-end f [] i h = refl
past-end f (x ∷ xs) zero h = absurd (omega arith)
past-end f (x ∷ xs) (suc i) h = past-end f xs i (omega arith)

inside : {A : Type 0} (f : A → FormatArgument) (xs : List A) (i : ℕ) (d : A) → i < length xs
    → slice_get (map f xs) i ≡ Some (f (get_or xs i d))
inside f [] i d h = absurd (omega arith)
inside f (x ∷ xs) zero d h = refl
inside f (x ∷ xs) (suc i) d h = inside f xs i d (omega arith)

-- no argument, or one without a name
pub no-argument : {A : Type 0} (f : A → FormatArgument) (xs : List A) (i : ℕ) → length xs ≤ i
    → chars [] ≡ name_of (slice_get (map f xs) i)
no-argument f xs i h = chars-nil ∙ sym (ap name_of (past-end f xs i h))

nameless : (g : FormatArgument) → g.name ≡ None → name_of (Some g) ≡ []
nameless g e = rw e refl

pub no-name : {A : Type 0} (f : A → FormatArgument) (xs : List A) (i : ℕ) (x : A) → i < length xs
    → x ≡ get_or xs i x → (f x).name ≡ None → chars [] ≡ name_of (slice_get (map f xs) i)
no-name f xs i x h s e = chars-nil ∙ sym (ap name_of (inside f xs i x h)
    ∙ ap (λ y. name_of (Some (f y))) (sym s) ∙ nameless (f x) e)
