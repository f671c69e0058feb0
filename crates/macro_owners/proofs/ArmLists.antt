-- The arms of a definition so far.
use Rattle.std.proofs.Common.{◌≡◌, ◌+◌, ◌++◌, ◌⊎◌, ℕ, List, [], ◌∷◌, Option, Some, None}
use Rattle.std.proofs.Common.{inl, inr, refl, sym, true, append_assoc, subst}
use Rattle.std.specs.Prelude.{Contains, IfSome}
use Rattle.std.proofs.lemmas.List.{append-nil}
use Rattle.std.proofs.lemmas.List.Elements.{Contains-append_left, Contains-push}
use Rattle.std.proofs.lemmas.List.Elements.{Contains-push_cases}
use Rattle.rust_trees.specs.Leaves.{Leaf}
use Rattle.format_calls.specs.declared.listing.Call.{Call}
use Rattle.format_calls.specs.declared.table.Rule.{Rule}
use Rattle.format_calls.specs.Marks.{is_mark}
use Rattle.macro_owners.specs.declared.arms.Arm.{Arm}
use Rattle.macro_owners.specs.Arms.{AreArms, IsArm, IsEmpty, IsReadAs, Says}

-- What was found in these arms.
abbrev pub AreFound : List Call → List Leaf → Option Rule → List Arm → Type 0
AreFound cs xs None done = (a : Arm) → Contains done a → IsEmpty a
AreFound cs xs (Some r) done = ((a : Arm) × Contains done a × IsReadAs cs xs a r)
    × ((a : Arm) → Contains done a → IsEmpty a ⊎ IsReadAs cs xs a r)

-- The arms up to the token `from`, and what was found in them.
pub record ArmsSoFar (cs : List Call) (xs : List Leaf) (opening close : ℕ) (found : Option Rule)
    (from : ℕ) : Type 0 where
  pub done : List Arm
  pub joins : (more : List Arm) → AreArms xs from more close
      → AreArms xs (opening + 1) (done ++ more) close
  pub are_found : AreFound cs xs found done

-- What a further arm says.
abbrev pub Joins : List Call → List Leaf → Arm → Option Rule → Option Rule → Type 0
Joins cs xs a found f = (IsEmpty a × (f ≡ found)) ⊎ ((r : Rule) × (f ≡ Some r)
    × IsReadAs cs xs a r × IfSome found (λ s. s ≡ r))

found-empty : (cs : List Call) (xs : List Leaf) (o : Option Rule) (done : List Arm) (a : Arm)
    → IsEmpty a → AreFound cs xs o done → AreFound cs xs o (done ++ a ∷ [])
found-empty cs xs None done a e f = λ b h. by_last b (Contains-push_cases done a b h)
  where
    by_last : (b : Arm) → Contains done b ⊎ (a ≡ b) → IsEmpty b
    by_last b (inl c) = f b c
    by_last b (inr g) = subst (λ d. IsEmpty d) g e
found-empty cs xs (Some r) done a e f = let s = f.0 in (
  (s.0, Contains-append_left done (a ∷ []) s.0 s.1, s.2),
  λ b h. by_last b (Contains-push_cases done a b h),
)
  where
    by_last : (b : Arm) → Contains done b ⊎ (a ≡ b) → IsEmpty b ⊎ IsReadAs cs xs b r
    by_last b (inl c) = f.1 b c
    by_last b (inr g) = inl (subst (λ d. IsEmpty d) g e)

found-read : (cs : List Call) (xs : List Leaf) (o : Option Rule) (done : List Arm) (a : Arm)
    (r : Rule) → IsReadAs cs xs a r → IfSome o (λ s. s ≡ r) → AreFound cs xs o done
    → AreFound cs xs (Some r) (done ++ a ∷ [])
found-read cs xs None done a r e k f = (
  (a, Contains-push done a, e),
  λ b h. by_last b (Contains-push_cases done a b h),
)
  where
    by_last : (b : Arm) → Contains done b ⊎ (a ≡ b) → IsEmpty b ⊎ IsReadAs cs xs b r
    by_last b (inl c) = inl (f b c)
    by_last b (inr g) = inr (subst (λ d. IsReadAs cs xs d r) g e)
found-read cs xs (Some q) done a r e k f = (
  (a, Contains-push done a, e),
  λ b h. by_last b (Contains-push_cases done a b h),
)
  where
    by_last : (b : Arm) → Contains done b ⊎ (a ≡ b) → IsEmpty b ⊎ IsReadAs cs xs b r
    by_last b (inl c) = subst (λ v. IsEmpty b ⊎ IsReadAs cs xs b v) k (f.1 b c)
    by_last b (inr g) = inr (subst (λ d. IsReadAs cs xs d r) g e)

found-joined : (cs : List Call) (xs : List Leaf) (o p : Option Rule) (done : List Arm) (a : Arm)
    → Joins cs xs a o p → AreFound cs xs o done → AreFound cs xs p (done ++ a ∷ [])
found-joined cs xs o p done a (inl j) f =
    subst (λ q. AreFound cs xs q (done ++ a ∷ [])) (sym j.1) (found-empty cs xs o done a j.0 f)
found-joined cs xs o p done a (inr j) f =
    subst (λ q. AreFound cs xs q (done ++ a ∷ [])) (sym j.1)
    (found-read cs xs o done a j.0 j.2 j.3 f)

pub arms-more : (cs : List Call) (xs : List Leaf) (opening close from : ℕ) (o p : Option Rule)
    (a : Arm) → IsArm xs from a → Joins cs xs a o p
    → true ≡ is_mark 59 xs (a.right_close + 1) → ArmsSoFar cs xs opening close o from
    → ArmsSoFar cs xs opening close p (a.right_close + 2)
arms-more cs xs opening close from o p a k j e s = record {
  done = s.done ++ a ∷ [];
  joins = λ more h. subst (λ l. AreArms xs (opening + 1) l close)
      (sym (append_assoc s.done (a ∷ []) more)) (s.joins (a ∷ more) (k, inr (sym e, h)));
  are_found = found-joined cs xs o p s.done a j s.are_found;
}

says : (cs : List Call) (xs : List Leaf) (opening close : ℕ) (r : Rule) (done : List Arm)
    → AreArms xs (opening + 1) done close → AreFound cs xs (Some r) done
    → Says cs xs opening close r
says cs xs opening close r done h f = record { arms = done; are_arms = h; some = f.0; each = f.1 }

pub arms-last : (cs : List Call) (xs : List Leaf) (opening close from : ℕ) (o p : Option Rule)
    (a : Arm) → IsArm xs from a → Joins cs xs a o p → a.right_close + 1 ≡ close
    → ArmsSoFar cs xs opening close o from → IfSome p (λ r. Says cs xs opening close r)
arms-last cs xs opening close from o None a k j e s = tt
arms-last cs xs opening close from o (Some r) a k j e s =
    says cs xs opening close r (s.done ++ a ∷ []) (s.joins (a ∷ []) (k, inl (e, refl)))
    (found-joined cs xs o (Some r) s.done a j s.are_found)

pub arms-all : (cs : List Call) (xs : List Leaf) (opening close from : ℕ) (o : Option Rule)
    → from ≡ close → ArmsSoFar cs xs opening close o from
    → IfSome o (λ r. Says cs xs opening close r)
arms-all cs xs opening close from None e s = tt
arms-all cs xs opening close from (Some r) e s =
    says cs xs opening close r s.done
    (subst (λ l. AreArms xs (opening + 1) l close) (append-nil s.done) (s.joins [] e)) s.are_found
