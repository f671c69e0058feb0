-- Tokens among others: what is said of them by their index is said of them there.
use Prim.Native.Char.{code}
use Rattle.std.proofs.Common.{◌≡◌, ◌<◌, ◌≤◌, ◌+◌, ◌-◌, ◌++◌, ℕ, zero, suc, Bool, true, false, List}
use Rattle.std.proofs.Common.{[], ◌∷◌, Option, Some, None, inl, inr, refl, ap, sym, subst, ◌∙◌}
use Rattle.std.proofs.Common.{length, arith, map}
use Rattle.std.specs.Prelude.{◌&&◌, ◌||◌, not, codes, nat_lt, slice_get, if◌then◌else◌}
use Rattle.rust_trees.specs.Leaves.{Leaf}
use Rattle.rust_trees.specs.Forests.{IsPair}
use Rattle.rust_trees.proofs.Groups.{pair-less, pair-shift, pair-unshift}
use Rattle.rust_trees.proofs.Growing.{pair-more, pair-within}
use Rattle.rust_trees.proofs.Nested.{nested}
use Rattle.format_calls.specs.declared.modes.Mode.{Mode}
use Rattle.format_calls.specs.declared.modes.Mode.TheVariants.{Start, Within, Operator, Angles}
use Rattle.format_calls.specs.declared.modes.Mode.TheVariants.{Parameters}
use Rattle.format_calls.specs.Arguments.{IsTree, Walks, is_end, is_plain_mode}
use Rattle.format_calls.specs.Marks.{is_after, is_mark, is_mark_of, is_word}
use Rattle.format_calls.specs.Modes.{are_joint, is_operator, is_prefix, is_text}
use Rattle.format_calls.specs.Modes.{mode_after, mode_after_leaf}
use Rattle.format_calls.proofs.Parting.{get-front, get-shift}

-- The tokens xs stand among ys from the token g on.
pub record Embeds (xs ys : List Leaf) (g : ℕ) : Type 0 where
  pub same : (i : ℕ) → i < length xs → slice_get ys (g + i) ≡ slice_get xs i
  pub pair : (i j : ℕ) → IsPair xs i j → IsPair ys (g + i) (g + j)
  pub unpair : (i j : ℕ) → IsPair ys (g + i) (g + j) → j < length xs → IsPair xs i j

pub embeds : (f xs b : List Leaf) → Embeds xs (f ++ (xs ++ b)) (length f)
embeds f xs b = record {
  same = λ i h. get-shift f (xs ++ b) i ∙ get-front xs b i h;
  pair = λ i j p. pair-shift f (xs ++ b) i j (pair-more xs b i j p);
  unpair = λ i j p h. pair-less xs b i j (pair-unshift f (xs ++ b) i j p) h;
}

-- The same token by an index that is equal.
pub get-at : (xs ys : List Leaf) (g i n : ℕ) → Embeds xs ys g → n ≡ g + i → i < length xs
    → slice_get ys n ≡ slice_get xs i
get-at xs ys g i n e h l = ap (λ k. slice_get ys k) h ∙ e.same i l

pub mark-at : (m : ℕ) (xs ys : List Leaf) (g i n : ℕ) → Embeds xs ys g → n ≡ g + i
    → i < length xs → is_mark m ys n ≡ is_mark m xs i
mark-at m xs ys g i n e h l = ap (λ o. is_mark_of m o) (get-at xs ys g i n e h l)

-- The mode after a token, by it, the next one, and those of an arrow.
abbrev followed_by : ℕ → Option Leaf → Option Leaf → Bool
followed_by m a b = are_joint a b && is_mark_of m b

abbrev arrow_by : Option Leaf → Bool → Option Leaf → Option Leaf → Bool
arrow_by a p q r = is_mark_of (code ">") a && (p && followed_by (code ">") q r)

abbrev opens_by : Option Leaf → Option Leaf → Bool
opens_by a b = is_mark_of (code "<") a && not (followed_by (code "=") a b)

abbrev double_by : Option Leaf → Option Leaf → Bool
double_by a b = (is_mark_of (code "|") a && followed_by (code "|") a b)
    || (is_mark_of (code "<") a && followed_by (code "<") a b)

abbrev after_by : Option Leaf → Option Leaf → Bool → Option Leaf → Option Leaf → Option Leaf
    → Bool → Bool → Mode
after_by a b p q r None s t = Within false
after_by a b p q r (Some x) s t =
    if double_by a b then Operator else
    (if is_text x (codes "as") || arrow_by a p q r then Start true else
    (if is_mark_of (code ":") (Some x) then Start t else
    (if is_prefix x then Start (s && t) else
    (if is_operator x then Start false else Within (t && is_word x)))))

abbrev mode_by : Option Leaf → Option Leaf → Bool → Option Leaf → Option Leaf → Mode → Mode
mode_by a b p q r (Start t) =
    if opens_by a b then Angles 1 else
    (if is_mark_of (code "|") a then Parameters else after_by a b p q r a true t)
mode_by a b p q r (Within t) =
    if t && opens_by a b then Angles 1 else after_by a b p q r a false t
mode_by a b p q r Operator = Start false
mode_by a b p q r (Angles n) =
    if is_mark_of (code "<") a then Angles (n + 1) else
    (if not (is_mark_of (code ">") a && not (arrow_by a p q r)) then Angles n else
    (if nat_lt 1 n then Angles (n - 1) else Within false))
mode_by a b p q r Parameters = if is_mark_of (code "|") a then Start false else Parameters

after-is : (xs : List Leaf) (i : ℕ) (o : Option Leaf) (s t : Bool) → mode_after_leaf xs i o s t
    ≡ after_by (slice_get xs i) (slice_get xs (i + 1)) (is_after (code "-") xs i)
    (slice_get xs (i - 1)) (slice_get xs (i - 1 + 1)) o s t
after-is xs i None s t = refl
after-is xs i (Some x) s t = refl

mode-is : (xs : List Leaf) (i : ℕ) (m : Mode) → mode_after xs i m
    ≡ mode_by (slice_get xs i) (slice_get xs (i + 1)) (is_after (code "-") xs i)
    (slice_get xs (i - 1)) (slice_get xs (i - 1 + 1)) m
mode-is xs i (Start t) =
    ap (λ v. if opens_by (slice_get xs i) (slice_get xs (i + 1)) then Angles 1 else
    (if is_mark_of (code "|") (slice_get xs i) then Parameters else v))
    (after-is xs i (slice_get xs i) true t)
mode-is xs i (Within t) =
    ap (λ v. if t && opens_by (slice_get xs i) (slice_get xs (i + 1)) then Angles 1 else v)
    (after-is xs i (slice_get xs i) false t)
mode-is xs i Operator = refl
mode-is xs i (Angles n) = refl
mode-is xs i Parameters = refl

mode-of : (a b q r c d s t : Option Leaf) (p u : Bool) (m : Mode) → a ≡ c → b ≡ d → p ≡ u → q ≡ s
    → r ≡ t → mode_by a b p q r m ≡ mode_by c d u s t m
mode-of a b q r c d s t p u m e f g h k =
    ap (λ v. mode_by v b p q r m) e ∙ (ap (λ v. mode_by c v p q r m) f
    ∙ (ap (λ v. mode_by c d v q r m) g ∙ (ap (λ v. mode_by c d u v r m) h
    ∙ ap (λ v. mode_by c d u s v m) k)))

before-at : (m : ℕ) (xs ys : List Leaf) (g i n : ℕ) → Embeds xs ys g → n ≡ g + i → 0 < i
    → i < length xs → is_after m ys n ≡ is_after m xs i
before-at m xs ys g zero n e h z l = absurd (omega (arith, z))
before-at m xs ys g (suc i) n e h z l =
    let k : n ≡ suc (g + i) = omega (arith, h) in
    ap (λ v. is_after m ys v) k ∙ mark-at m xs ys g i (g + i) e refl (omega (arith, l))

pub mode-at : (xs ys : List Leaf) (g i : ℕ) (m : Mode) → Embeds xs ys g → 0 < i
    → i + 1 < length xs → mode_after ys (g + i) m ≡ mode_after xs i m
mode-at xs ys g i m e z l =
    mode-is ys (g + i) m ∙ (mode-of _ _ _ _ _ _ _ _ _ _ m
    (e.same i (omega (arith, l)))
    (get-at xs ys g (i + 1) (g + i + 1) e (omega arith) l)
    (before-at (code "-") xs ys g i (g + i) e refl z (omega (arith, l)))
    (get-at xs ys g (i - 1) (g + i - 1) e (omega (arith, z)) (omega (arith, l)))
    (get-at xs ys g (i - 1 + 1) (g + i - 1 + 1) e (omega (arith, z)) (omega (arith, l, z)))
    ∙ sym (mode-is xs i m))

-- A tree within a pair.
pub tree-at : (xs ys : List Leaf) (g o c i j : ℕ) → Embeds xs ys g → IsPair xs o c → o < i → i < c
    → IsTree xs i j → IsTree ys (g + i) (g + j)
tree-at xs ys g o c i j e p h k (inl t) = inl (g + t.0, e.pair i t.0 t.1, omega (arith, t.2))
tree-at xs ys g o c i j e p h k (inr t) = inr (λ m q. t.0 (m - g) (alone m q), omega (arith, t.1))
  where
    alone : (m : ℕ) → IsPair ys (g + i) m → IsPair xs i (m - g)
    alone m q =
        let l = nested ys (g + o) (g + c) (g + i) m (e.pair o c p) q (omega (arith, h))
        (omega (arith, k)) in
        let w = (pair-within xs o c p).1 in
        let b = q.ends in
        let n : m ≡ g + (m - g) = omega (arith, b) in
        e.unpair i (m - g) (subst (λ v. IsPair ys (g + i) v) n q) (omega (arith, l, w, b))

pub tree-forward : (xs : List Leaf) (i j : ℕ) → IsTree xs i j → i < j
tree-forward xs i j (inl t) = let b = t.1.ends in omega (arith, t.2, b)
tree-forward xs i j (inr t) = omega (arith, t.1)

pub walks-forward : (xs : List Leaf) (i k : ℕ) (m n : Mode) (js : List ℕ) → Walks xs i m js k n
    → i ≤ k
walks-forward xs i k m n [] w = omega (arith, w.0)
walks-forward xs i k m n (j ∷ js) w =
    let a = tree-forward xs i j w.0 in
    let b = walks-forward xs j k (mode_after xs i m) n js w.2 in
    omega (arith, a, b)

pub end-at : (xs ys : List Leaf) (g i : ℕ) (m : Mode) → Embeds xs ys g → i < length xs
    → is_end ys (g + i) m ≡ is_end xs i m
end-at xs ys g i m e l =
    ap (λ b. is_plain_mode m && b) (mark-at (code ",") xs ys g i (g + i) e refl l)

pub walks-at : (xs ys : List Leaf) (g o c i k : ℕ) (m n : Mode) (js : List ℕ) → Embeds xs ys g
    → IsPair xs o c → o < i → k ≤ c → Walks xs i m js k n
    → Walks ys (g + i) m (map (λ j. g + j) js) (g + k) n
walks-at xs ys g o c i k m n [] e p h l w = (ap (λ v. g + v) w.0, w.1)
walks-at xs ys g o c i k m n (j ∷ js) e p h l w =
    let a = tree-forward xs i j w.0 in
    let b = walks-forward xs j k (mode_after xs i m) n js w.2 in
    let s = (pair-within xs o c p).1 in (
      tree-at xs ys g o c i j e p h (omega (arith, a, b, l)) w.0,
      end-at xs ys g i m e (omega (arith, a, b, l, s)) ∙ w.1,
      subst (λ v. Walks ys (g + j) v (map (λ t. g + t) js) (g + k) n)
          (sym (mode-at xs ys g i m e (omega (arith, h)) (omega (arith, a, b, l, s))))
          (walks-at xs ys g o c j k (mode_after xs i m) n js e p (omega (arith, h, a)) l w.2),
    )
