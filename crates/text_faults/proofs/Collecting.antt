-- One element more of a list that is gone through.
use Rattle.std.proofs.Common.{◌≡◌, ℕ, ◌+◌, ◌<◌, ◌++◌, ◌||◌, Bool, false, List, [], ◌∷◌, length, map}
use Rattle.std.proofs.Common.{take}
use Rattle.std.specs.Prelude.{option_map, None, Some}
use Rattle.std.proofs.Common.{append_assoc, arith, get_or, Option, ap, ◌∙◌, refl, suc, sym, true}
use Rattle.std.proofs.Common.{zero}
use Rattle.std.proofs.lemmas.Bool.{or_left, or_right}
use Rattle.std.specs.List.{cons_option, filter_map, list_any}
use Rattle.std.proofs.lemmas.List.{map-append, take_more}
use Rattle.std.proofs.lemmas.Option.{slice_get-map}
use Rattle.std.proofs.lemmas.List.Elements.{filter_map-append}
use Rattle.std.proofs.lemmas.List.Folds.{list_any-append}

pub map-next : {A X : Type 0} (f : A → X) (xs : List A) (i : ℕ) (d : A) → i < length xs
    → map f (take (i + 1) xs) ≡ map f (take i xs) ++ f (get_or xs i d) ∷ []
map-next f xs i d h = rw (take_more xs i d h) (map-append f (take i xs) (get_or xs i d ∷ []))

pub filter_map-next : {A X Y : Type 0} (f : A → X) (h : X → Option Y) (xs : List A) (i : ℕ) (d : A)
    → i < length xs → filter_map h (map f (take (i + 1) xs))
    ≡ filter_map h (map f (take i xs)) ++ cons_option (h (f (get_or xs i d))) []
filter_map-next f h xs i d l = rw (map-next f xs i d l)
    (filter_map-append h (map f (take i xs)) (f (get_or xs i d) ∷ []))

pub list_any-next : {A X : Type 0} (f : A → X) (p : X → Bool) (xs : List A) (i : ℕ) (d : A)
    → i < length xs → list_any p (map f (take (i + 1) xs))
    ≡ (list_any p (map f (take i xs)) || (p (f (get_or xs i d)) || false))
list_any-next f p xs i d l = rw (map-next f xs i d l)
    (list_any-append p (map f (take i xs)) (f (get_or xs i d) ∷ []))

-- what is gathered of one element more
pub gathered : {A X Y : Type 0} (f : A → X) (h : X → Option Y) (xs : List A) (i : ℕ) (d : A)
    (old new : List Y) (o : Option Y) → i < length xs → old ≡ filter_map h (map f (take i xs))
    → o ≡ h (f (get_or xs i d)) → new ≡ old ++ cons_option o []
    → new ≡ filter_map h (map f (take (i + 1) xs))
gathered f h xs i d old new o l e g m = m
    ∙ ap (λ ys. ys ++ cons_option o []) e
    ∙ ap (λ p. filter_map h (map f (take i xs)) ++ cons_option p []) g
    ∙ sym (filter_map-next f h xs i d l)

-- an element that passes
pub list_any-here : {A X : Type 0} (f : A → X) (p : X → Bool) (xs : List A) (i : ℕ) (d : A)
    → i < length xs → p (f (get_or xs i d)) ≡ true → list_any p (map f xs) ≡ true
list_any-here f p [] i d l e = absurd (omega arith)
list_any-here f p (x ∷ xs) zero d l e = or_left (p (f x)) (list_any p (map f xs)) e
list_any-here f p (x ∷ xs) (suc i) d l e =
    or_right (p (f x)) (list_any p (map f xs)) (list_any-here f p xs i d (omega arith) e)

map-option : {Y Z : Type 0} (g : Z → Y) (o : Option Z)
    → map g (cons_option o []) ≡ cons_option (option_map g o) []
map-option g None = refl
map-option g (Some z) = refl

-- the same after what was there before
pub gathered-rest_after : {A X Y Z : Type 0} (f : A → X) (g : Z → Y) (h : X
    → Option Y) (xs : List A)
    (i : ℕ) (d : A) (before : List Y) (old new : List Z) (o : Option Z) → i < length xs
    → map g old ≡ before ++ filter_map h (map f (take i xs))
    → option_map g o ≡ h (f (get_or xs i d)) → new ≡ old ++ cons_option o []
    → map g new ≡ before ++ filter_map h (map f (take (i + 1) xs))
gathered-rest_after f g h xs i d before old new o l e k m =
    ap (map g) m ∙ map-append g old (cons_option o [])
    ∙ ap (λ ys. ys ++ map g (cons_option o [])) e
    ∙ append_assoc before (filter_map h (map f (take i xs))) (map g (cons_option o []))
    ∙ ap (λ ys. before ++ (filter_map h (map f (take i xs)) ++ ys)) (map-option g o)
    ∙ ap (λ p. before ++ (filter_map h (map f (take i xs)) ++ cons_option p [])) k
    ∙ ap (λ ys. before ++ ys) (sym (filter_map-next f h xs i d l))

pub ruleset at_index = (slice_get-map)
