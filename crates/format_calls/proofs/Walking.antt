-- Walks over trees.
use Rattle.std.proofs.Common.{◌≡◌, ◌<◌, ◌≤◌, ◌+◌, ◌++◌, ℕ, false, List, [], ◌∷◌}
use Rattle.std.proofs.Common.{Some, None}
use Rattle.std.proofs.Common.{inl, inr, refl, sym, subst, arith, Option}
use Rattle.std.specs.Prelude.{Bool, codes, not, nat_lt, slice_get, true, ◌&&◌, ◌||◌}
use Rattle.std.proofs.lemmas.Bool.{cond_both}
use Rattle.std.proofs.lemmas.List.{append-nil}
use Rattle.std.proofs.lemmas.Option.{none-some, same_Some}
use Rattle.rust_trees.specs.Leaves.{Leaf}
use Rattle.rust_trees.specs.Forests.{IsPair, ArePartners}
use Rattle.rust_trees.proofs.Nested.{nested}
use Rattle.format_calls.specs.declared.modes.Mode.{Mode}
use Rattle.format_calls.specs.declared.modes.Mode.TheVariants.{Start, Within, Operator, Angles}
use Rattle.format_calls.specs.declared.modes.Mode.TheVariants.{Parameters}
use Rattle.format_calls.specs.Marks.{is_mark, is_mark_of}
use Rattle.format_calls.specs.Modes.{closes_list, depth_of, is_arrow, is_double, is_operator}
use Rattle.format_calls.specs.Modes.{is_prefix, is_text, mode_after, mode_after_leaf, opens_list}
use Rattle.format_calls.specs.Arguments.{AreArguments, IsTree, Walks, is_end}
use Rattle.format_calls.specs.declared.split.Argument.{Argument}

-- A tree within a pair ends there.
pub tree-within : (xs : List Leaf) (o c i j : ℕ) → IsPair xs o c → IsTree xs i j → o < i → i < c
    → (i < j) × (j ≤ c)
tree-within xs o c i j p (inl t) h k =
    let l = nested xs o c i t.0 p t.1 h k in
    let e = t.1.ends in
    (omega (arith, t.2, e), omega (arith, t.2, l))
tree-within xs o c i j p (inr t) h k = (omega (arith, t.1), omega (arith, t.1, k))

pub walks-more : (xs : List Leaf) (i k j : ℕ) (m n : Mode) (js : List ℕ) → Walks xs i m js k n
    → IsTree xs k j → is_end xs k n ≡ false
    → Walks xs i m (js ++ j ∷ []) j (mode_after xs k n)
walks-more xs i k j m n [] w t e =
    (subst (λ v. IsTree xs v j) (sym w.0) t, rw (w.0, w.1) e, (refl, rw (w.0, w.1) refl))
walks-more xs i k j m n (l ∷ js) w t e =
    (w.0, w.1, walks-more xs l k j (mode_after xs i m) n js w.2 t e)

-- A token opens no list in angles but by its `<`.
no-depth : (xs : List Leaf) (i : ℕ) (o : Option Leaf) (s t : Bool)
    → depth_of (mode_after_leaf xs i o s t) ≡ 0
no-depth xs i None s t = refl
no-depth xs i (Some x) s t =
    cond_both {A = Mode} (is_double xs i) _ _ (λ n. depth_of n ≡ 0) (λ e. refl)
    (λ e. cond_both {A = Mode} (is_text x (codes "as") || is_arrow xs i) _ _ (λ n. depth_of n ≡ 0)
    (λ f. refl)
    (λ f. cond_both {A = Mode} (is_mark_of 58 (Some x)) _ _ (λ n. depth_of n ≡ 0) (λ g. refl)
    (λ g. cond_both {A = Mode} (is_prefix x) _ _ (λ n. depth_of n ≡ 0) (λ h. refl)
    (λ h. cond_both {A = Mode} (is_operator x) _ _ (λ n. depth_of n ≡ 0) (λ k. refl)
    (λ k. refl)))))

pub depth-grows : (xs : List Leaf) (i : ℕ) (m : Mode)
    → depth_of (mode_after xs i m) ≤ depth_of m + 1
depth-grows xs i (Start t) =
    cond_both {A = Mode} (opens_list xs i) _ _ (λ n. depth_of n ≤ 0 + 1) (λ e. omega arith)
    (λ e. cond_both {A = Mode} (is_mark 124 xs i) _ _ (λ n. depth_of n ≤ 0 + 1)
    (λ f. omega arith)
    (λ f. let d = no-depth xs i (slice_get xs i) true t in omega (arith, d)))
depth-grows xs i (Within t) =
    cond_both {A = Mode} (t && opens_list xs i) _ _ (λ n. depth_of n ≤ 0 + 1) (λ e. omega arith)
    (λ e. let d = no-depth xs i (slice_get xs i) false t in omega (arith, d))
depth-grows xs i Operator = omega arith
depth-grows xs i (Angles d) =
    cond_both {A = Mode} (is_mark 60 xs i) _ _ (λ n. depth_of n ≤ d + 1)
    (λ e. omega arith)
    (λ e. cond_both {A = Mode} (not (closes_list xs i)) _ _ (λ n. depth_of n ≤ d + 1)
    (λ f. omega arith)
    (λ f. cond_both {A = Mode} (nat_lt 1 d) _ _ (λ n. depth_of n ≤ d + 1)
    (λ g. omega arith) (λ g. omega arith)))
depth-grows xs i Parameters =
    cond_both {A = Mode} (is_mark 124 xs i) _ _ (λ n. depth_of n ≤ 0 + 1)
    (λ e. omega arith) (λ e. omega arith)

-- The arguments so far, and all that may follow them.
abbrev pub SoFar : List Leaf → ℕ → List Argument → ℕ → ℕ → Type 0
SoFar xs first found at to = (more : List Argument) → AreArguments xs at more to
    → AreArguments xs first (found ++ more) to

pub so-far-end : (xs : List Leaf) (first at to : ℕ) (found : List Argument) → at ≡ to
    → SoFar xs first found at to → AreArguments xs first found to
so-far-end xs first at to found e h =
    subst (λ v. AreArguments xs first v to) (append-nil found) (h [] e)

-- A partner in front of a token opens its pair.
pub opens-front : (xs : List Leaf) (i j : ℕ) → ArePartners xs j i → i < j → IsPair xs i j
opens-front xs i j (inl p) h = absurd (omega (arith, p.ends, h))
opens-front xs i j (inr p) h = p

pub closes-none : (xs : List Leaf) (j : ℕ)
    → ((k : ℕ) → ArePartners xs j k → ◌≡◌ {A = Option ℕ} None (Some k)) → (i : ℕ) → IsPair xs i j
    → ⊥
closes-none xs j each i p = none-some i (each i (inr p))

pub closes-before : (xs : List Leaf) (j k : ℕ)
    → ((i : ℕ) → ArePartners xs j i → ◌≡◌ {A = Option ℕ} (Some k) (Some i)) → j ≤ k → (i : ℕ)
    → IsPair xs i j → ⊥
closes-before xs j k each h i p =
    let e = same_Some k i (each i (inr p)) in
    omega (arith, e, h, p.ends)
