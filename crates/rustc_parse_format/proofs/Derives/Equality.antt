-- Tests that are true exactly if a statement holds, for numbers, texts, ranges and options.
use Rattle.std.proofs.Common.{◌≡◌, ◌↔◌, IsTrue, ℕ, List, Bool, true, false, Option, Some, None}
use Rattle.std.proofs.Common.{nat_eq, refl, ap, sym, ◌∙◌, ◌&&◌}
use Rattle.std.proofs.lemmas.Bool.{eqb-true, eq-eqb}
use Rattle.std.proofs.lemmas.Str.{encodes-chars}
use Rattle.std.proofs.Math.Utf8.{encodes}
use Rattle.std.specs.Cmp.Lexicographic.{pointwise, bytes_decides}
use Rattle.std.specs.Option.{option_eq}
use Rattle.std.specs.Prelude.{IsUtf8, chars, option_map}
use Rattle.std.specs.contracts.prelude.BoolPartialEq.TheImpl as bool_eq
use Rattle.std.specs.declared.ops.Range.{Range}
use Rattle.rustc_parse_format.specs.Equivalence.{AreSame, IsEquivalence}
use Rattle.rustc_parse_format.specs.Views.{pair}
use Rattle.rustc_parse_format.specs.World.{Place}

pub both : {P Q : Type 0} → P → Q → P × Q
both p q = (p, q)

-- a test that fails, of a fact that does not hold
pub differ : {P : Type 0} → (P → ⊥) → IsTrue false ↔ P
differ f = (λ h. absurd cc, λ p. absurd (f p))

-- from one fact to another that is as true
pub same_along : {P Q : Type 0} {b : Bool} → (P → Q) → (Q → P) → IsTrue b ↔ P → IsTrue b ↔ Q
same_along f g e = (λ h. f (e.0 h), λ q. e.1 (g q))

and_true : (x y : Bool) → IsTrue x → IsTrue y → IsTrue (x && y)
and_true true true h k = refl
and_true true false h k = k
and_true false y h k = h

and_first : (x y : Bool) → IsTrue (x && y) → IsTrue x
and_first true y h = refl
and_first false y h = h

and_second : (x y : Bool) → IsTrue (x && y) → IsTrue y
and_second true y h = h
and_second false y h = absurd cc

-- a test of two facts, one after the other
pub both_same : {P Q : Type 0} (x y : Bool) → IsTrue x ↔ P → IsTrue y ↔ Q → IsTrue (x && y) ↔ P × Q
both_same x y e f = (
  λ h. (e.0 (and_first x y h), f.0 (and_second x y h)),
  λ p. and_true x y (e.1 p.0) (f.1 p.1),
)

-- the answer of a call that computes the test
pub report : {P : Type 0} {b r : Bool} → r ≡ b → IsTrue b ↔ P → IsTrue r ↔ P
report h e = (λ k. e.0 (sym h ∙ k), λ p. h ∙ e.1 p)

-- Flags, numbers, texts, ranges and options.
pub flag_same : (x y : Bool) → IsTrue (bool_eq.ghosts.eq x y) ↔ x ≡ y
flag_same true true = (λ _. refl, λ _. refl)
flag_same false false = (λ _. refl, λ _. refl)
flag_same true false = differ (λ h. cc)
flag_same false true = differ (λ h. cc)

pub number_same : (n m : ℕ) → IsTrue (nat_eq n m) ↔ n ≡ m
number_same n m = (eqb-true n m, eq-eqb n m)

-- texts of the same characters have the same bytes
chars_one : (a b : List ℕ) → IsUtf8 a → IsUtf8 b → chars a ≡ chars b → a ≡ b
chars_one a b u v h = sym (encodes-chars a u) ∙ (ap encodes h ∙ encodes-chars b v)

pub text_same : (a b : List ℕ) → IsUtf8 a → IsUtf8 b → IsTrue (pointwise nat_eq a b)
    ↔ chars a ≡ chars b
text_same a b u v = (
  λ h. ap chars ((bytes_decides a b).0 h),
  λ h. (bytes_decides a b).1 (chars_one a b u v h),
)

pub range_same : (p q : Range ℕ) → IsTrue (nat_eq p.start q.start && nat_eq p.end q.end)
    ↔ pair p ≡ pair q
range_same p q = same_along (λ e. λ i. (e.0 i, e.1 i))
    (λ (h : pair p ≡ pair q). (ap (λ (z : Place). z.0) h, ap (λ (z : Place). z.1) h))
    (both_same _ _ (number_same p.start q.start) (number_same p.end q.end))

pub option_same : {A B : Type 0} (E : A → A → Bool) (f : A → B)
    → ((x y : A) → IsTrue (E x y) ↔ f x ≡ f y)
    → (p q : Option A) → IsTrue (option_eq E p q) ↔ option_map f p ≡ option_map f q
option_same E f e None None = (λ _. refl, λ _. refl)
option_same E f e None (Some y) = differ (λ h. cc)
option_same E f e (Some x) None = differ (λ h. cc)
option_same E f e (Some x) (Some y) =
    same_along (ap (λ z. Some z)) (λ (h : Some (f x) ≡ Some (f y)). cc) (e x y)

pub plain_option_same : {A : Type 0} (E : A → A → Bool) → ((x y : A) → IsTrue (E x y) ↔ x ≡ y)
    → (p q : Option A) → IsTrue (option_eq E p q) ↔ p ≡ q
plain_option_same E e None None = (λ _. refl, λ _. refl)
plain_option_same E e None (Some y) = differ (λ h. cc)
plain_option_same E e (Some x) None = differ (λ h. cc)
plain_option_same E e (Some x) (Some y) =
    same_along (ap (λ z. Some z)) (λ (h : Some x ≡ Some y). cc) (e x y)

-- The relation of values that are seen as the same is an equivalence.
pub seen_equivalence : {A V : Type 0} (see : A → V) → IsEquivalence (AreSame see)
seen_equivalence see = record {
  reflexive = λ a. refl;
  symmetric = λ a b h. sym h;
  transitive = λ a b c h k. h ∙ k;
}
