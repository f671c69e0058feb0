-- The names that the tokens so far give.
use Rattle.std.proofs.Common.{◌≡◌, ◌<◌, ◌≤◌, ◌+◌, ◌++◌, ◌⊎◌, ℕ, List, [], ◌∷◌, Some, None}
use Rattle.std.proofs.Common.{Bool, false, suc, ap, inl, inr, refl, sym, ◌∙◌}
use Rattle.std.proofs.Common.{append_assoc, arith, length, subst}
use Rattle.std.specs.Prelude.{IfSome}
use Rattle.std.proofs.lemmas.Bool.{cases_lt}
use Rattle.std.proofs.lemmas.List.{append-nil}
use Rattle.std.proofs.lemmas.Option.{slice_get_past}
use Rattle.rust_trees.specs.Leaves.{Leaf}
use Rattle.format_calls.specs.declared.listing.Call.{Call}
use Rattle.macro_owners.specs.declared.given.Given.{Given}
use Rattle.macro_owners.specs.Given.{AreGiven, IsDefinedAs, conditional_after, given_name}
use Rattle.macro_owners.specs.Given.{is_conditional, is_definition, is_foreign, root_after}
use Rattle.macro_owners.specs.Given.{root_before}

-- Names that later tokens give follow these.
abbrev pub NamesSoFar : List Call → List Leaf → ℕ → List Given → Type 0
NamesSoFar cs xs i names = (more : List Given) → AreGiven cs xs i more
    → AreGiven cs xs 0 (names ++ more)

names-first : (xs : List Leaf) (i : ℕ) → given_name xs i ≡ None → (j : ℕ) → i ≤ j
    → (i + 1 ≤ j → given_name xs j ≡ None) → given_name xs j ≡ None
names-first xs i e j h f = by_order (cases_lt i j)
  where
    by_order : (i < j) ⊎ (j ≤ i) → given_name xs j ≡ None
    by_order (inl l) = f (omega (arith, l))
    by_order (inr l) = subst (λ k. given_name xs k ≡ None) {x = i} (omega (arith, h, l)) e

given-skip : (cs : List Call) (xs : List Leaf) (i : ℕ) (gs : List Given)
    → given_name xs i ≡ None → AreGiven cs xs (i + 1) gs → AreGiven cs xs i gs
given-skip cs xs i [] e a = λ j h. names-first xs i e j h (λ l. a j l)
given-skip cs xs i (g ∷ gs) e a = let k = a.0 in let l = a.1 in (
  k,
  omega (arith, l),
  λ j h m. names-first xs i e j h (λ n. a.2 j n m),
  a.3,
  a.4,
  a.5,
)

pub names-skip : (cs : List Call) (xs : List Leaf) (i : ℕ) (names : List Given)
    → given_name xs i ≡ None → NamesSoFar cs xs i names → NamesSoFar cs xs (i + 1) names
names-skip cs xs i names e s = λ more h. s more (given-skip cs xs i more e h)

pub names-more : (cs : List Call) (xs : List Leaf) (i : ℕ) (names old : List Given) (g : Given)
    → names ≡ old ++ g ∷ [] → given_name xs i ≡ Some g.name
    → IfSome g.rule (IsDefinedAs cs xs i) → NamesSoFar cs xs i old
    → NamesSoFar cs xs (i + 1) names
names-more cs xs i names old g e f r s = λ more h.
    subst (λ l. AreGiven cs xs 0 l)
    (sym (append_assoc old (g ∷ []) more) ∙ ap (λ l. l ++ more) (sym e))
    (s (g ∷ more) (i, omega arith, λ j l m. absurd (omega (arith, l, m)), f, r, h))

given-past : (xs : List Leaf) (j : ℕ) → length xs ≤ j → given_name xs j ≡ None
given-past xs j h = rw (slice_get_past xs j h) refl

pub names-all : (cs : List Call) (xs : List Leaf) (i : ℕ) (names : List Given) → length xs ≤ i
    → NamesSoFar cs xs i names → AreGiven cs xs 0 names
names-all cs xs i names h s =
    subst (λ l. AreGiven cs xs 0 l) (append-nil names)
    (s [] (λ j l. given-past xs j (omega (arith, h, l))))

pub name-none : (xs : List Leaf) (i r : ℕ) → false ≡ is_definition xs i → r ≡ root_before xs i
    → false ≡ is_foreign xs r i → given_name xs i ≡ None
name-none xs i r e f g =
    let h = sym e in
    let k : is_foreign xs (root_before xs i) i ≡ false = ap (λ q. is_foreign xs q i) (sym f) ∙ sym g
    in rw (h, k) refl

pub root-step : (xs : List Leaf) (i r n : ℕ) → r ≡ root_before xs i → n ≡ root_after xs i r
    → n ≡ root_before xs (i + 1)
root-step xs i r n e f =
    subst (λ k. n ≡ root_before xs k) {x = suc i} (omega arith)
    (f ∙ ap (λ q. root_after xs i q) e)

pub condition-step : (xs : List Leaf) (i : ℕ) (b n : Bool) → b ≡ is_conditional xs i
    → n ≡ conditional_after xs i b → n ≡ is_conditional xs (i + 1)
condition-step xs i b n e f =
    subst (λ k. n ≡ is_conditional xs k) {x = suc i} (omega arith)
    (f ∙ ap (λ q. conditional_after xs i q) e)
