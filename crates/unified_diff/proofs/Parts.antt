-- One part more.
use Rattle.std.proofs.Common.{◌≡◌, ◌≤◌, ◌+◌, ◌-◌, ◌++◌, ◌∙◌, ◌&&◌, Bool, List, [], ◌∷◌, ℕ, ap}
use Rattle.std.proofs.Common.{arith, drop, false, length, refl, sym, take, true}
use Rattle.std.proofs.Math.Bool.{and_assoc}
use Rattle.std.proofs.Math.Seq.{take-add}
use Rattle.std.proofs.lemmas.List.{append-nil, append_assoc, take-append-drop}
use Rattle.unified_diff.specs.Diffs.{Part, are_shared, hunk_text, hunks_text, leave_out_shared}
use Rattle.unified_diff.specs.Diffs.{new_count, old_count, rows_of}
use Rattle.unified_diff.specs.declared.rows.Row.{Row}
use Rattle.unified_diff.proofs.Counts.{are_shared-append, new_count-append, new_count-le}
use Rattle.unified_diff.proofs.Counts.{old_count-append, old_count-le}

leave_out_shared-append : (ps qs : List Part) → leave_out_shared (ps ++ qs)
    ≡ (leave_out_shared ps && leave_out_shared qs)
unfolding leave_out_shared
leave_out_shared-append [] qs = refl
leave_out_shared-append (p ∷ ps) qs =
    ap (λ b. are_shared p.left_out && b) (leave_out_shared-append ps qs)
    ∙ sym (and_assoc (are_shared p.left_out) (leave_out_shared ps) (leave_out_shared qs))

pub leave_out_shared-none : leave_out_shared [] ≡ true
unfolding leave_out_shared
leave_out_shared-none = refl

pub leave_out_shared-more : (ps : List Part) (p : Part) → leave_out_shared ps ≡ true
    → are_shared p.left_out ≡ true → leave_out_shared (ps ++ (p ∷ [])) ≡ true
unfolding leave_out_shared
leave_out_shared-more ps p e f = leave_out_shared-append ps (p ∷ []) ∙ rw (e, f) refl

pub rows_of-none : rows_of [] ≡ []
unfolding rows_of
rows_of-none = refl

pub rows_of-more : (ps : List Part) (p : Part) → rows_of (ps ++ (p ∷ []))
    ≡ rows_of ps ++ (p.left_out ++ p.hunk)
unfolding rows_of
rows_of-more [] p = append-nil (p.left_out ++ p.hunk)
rows_of-more (q ∷ ps) p = ap (λ rs. (q.left_out ++ q.hunk) ++ rs) (rows_of-more ps p)
    ∙ sym (append_assoc (q.left_out ++ q.hunk) (rows_of ps) (p.left_out ++ p.hunk))

pub hunks_text-none : hunks_text 0 0 [] ≡ []
unfolding hunks_text
hunks_text-none = refl

-- The text of one part more, after lines of both texts.
pub hunks_text-more : (a b : ℕ) (ps : List Part) (p : Part) → hunks_text a b (ps ++ (p ∷ []))
    ≡ hunks_text a b ps ++ hunk_text (a + (old_count (rows_of ps) + old_count p.left_out))
    (b + (new_count (rows_of ps) + new_count p.left_out)) p.hunk
unfolding hunks_text rows_of old_count new_count
hunks_text-more a b [] p =
    let old_at : a + old_count p.left_out ≡ a + (0 + old_count p.left_out) = omega arith in
    let new_at : b + new_count p.left_out ≡ b + (0 + new_count p.left_out) = omega arith in
    append-nil (hunk_text (a + old_count p.left_out) (b + new_count p.left_out) p.hunk)
    ∙ ap (λ n. hunk_text n (b + new_count p.left_out) p.hunk) old_at
    ∙ ap (λ n. hunk_text (a + (0 + old_count p.left_out)) n p.hunk) new_at
hunks_text-more a b (q ∷ ps) p =
    let left = q.left_out in
    let own = hunk_text (a + old_count left) (b + new_count left) q.hunk in
    let c : ℕ = a + old_count (left ++ q.hunk) in
    let d : ℕ = b + new_count (left ++ q.hunk) in
    let olds = old_count-append (left ++ q.hunk) (rows_of ps) in
    let news = new_count-append (left ++ q.hunk) (rows_of ps) in
    let old_at : c + (old_count (rows_of ps) + old_count p.left_out)
    ≡ a + (old_count ((left ++ q.hunk) ++ rows_of ps) + old_count p.left_out) = omega arith in
    let new_at : d + (new_count (rows_of ps) + new_count p.left_out)
    ≡ b + (new_count ((left ++ q.hunk) ++ rows_of ps) + new_count p.left_out) = omega arith in
    ap (λ t. own ++ t) (hunks_text-more c d ps p)
    ∙ sym (append_assoc own (hunks_text c d ps) (hunk_text
    (c + (old_count (rows_of ps) + old_count p.left_out))
    (d + (new_count (rows_of ps) + new_count p.left_out)) p.hunk))
    ∙ ap (λ n. (own ++ hunks_text c d ps)
    ++ hunk_text n (d + (new_count (rows_of ps) + new_count p.left_out)) p.hunk) old_at
    ∙ ap (λ n. (own ++ hunks_text c d ps) ++ hunk_text
    (a + (old_count ((left ++ q.hunk) ++ rows_of ps) + old_count p.left_out)) n p.hunk) new_at

first_of : (a b : Bool) → (a && b) ≡ true → a ≡ true
first_of true b e = refl
first_of false b e = e

-- The first of lines that both texts have.
pub are_shared-take : (n m : ℕ) (rs : List Row) → n ≤ m → are_shared (take m rs) ≡ true
    → are_shared (take n rs) ≡ true
are_shared-take n m rs small e =
    let all : take m rs ≡ take n rs ++ take (m - n) (drop n rs) =
    ap (λ k. take k rs) (omega arith) ∙ take-add n (m - n) rs in
    first_of (are_shared (take n rs)) (are_shared (take (m - n) (drop n rs)))
    (sym (are_shared-append (take n rs) (take (m - n) (drop n rs)))
    ∙ ap (λ xs. are_shared xs) (sym all) ∙ e)

old_split : (n : ℕ) (rs : List Row) → old_count rs ≡ old_count (take n rs) + old_count (drop n rs)
old_split n rs = ap (λ xs. old_count xs) (sym (take-append-drop n rs))
    ∙ old_count-append (take n rs) (drop n rs)

new_split : (n : ℕ) (rs : List Row) → new_count rs ≡ new_count (take n rs) + new_count (drop n rs)
new_split n rs = ap (λ xs. new_count xs) (sym (take-append-drop n rs))
    ∙ new_count-append (take n rs) (drop n rs)

-- The lines before a part and those of it are no more than all rows.
pub old_fits : (qs rest rs : List Row) (n m : ℕ) → qs ++ rest ≡ rs
    → old_count qs + (old_count (take n rest) + old_count (take m (drop n rest))) ≤ length rs
old_fits qs rest rs n m e =
    let all = sym (old_count-append qs rest) ∙ ap (λ xs. old_count xs) e in
    let one = old_split n rest in
    let two = old_split m (drop n rest) in
    let most = old_count-le rs in
    omega arith

pub new_fits : (qs rest rs : List Row) (n m : ℕ) → qs ++ rest ≡ rs
    → new_count qs + (new_count (take n rest) + new_count (take m (drop n rest))) ≤ length rs
new_fits qs rest rs n m e =
    let all = sym (new_count-append qs rest) ∙ ap (λ xs. new_count xs) e in
    let one = new_split n rest in
    let two = new_split m (drop n rest) in
    let most = new_count-le rs in
    omega arith

-- The hunks so far are those of parts of all rows, and the rest of the rows is left. Before it,
-- there are lines of the old and of the new text.
pub record SoFar (all rest : List Row) (old new : ℕ) (start bytes : List ℕ) : Type 0 where
  pub parts : List Part
  pub shared : leave_out_shared parts ≡ true
  pub rows : rows_of parts ++ rest ≡ all
  pub old_is : old ≡ old_count (rows_of parts)
  pub new_is : new ≡ new_count (rows_of parts)
  pub text : bytes ≡ start ++ hunks_text 0 0 parts

-- The same after one part more: the first n rows that are left, and m more as a hunk.
pub SoFar-more : (all rest : List Row) (old new n m : ℕ) (start bytes t : List ℕ)
    → SoFar all rest old new start bytes → are_shared (take n rest) ≡ true
    → t ≡ bytes ++ hunk_text (old + old_count (take n rest)) (new + new_count (take n rest))
    (take m (drop n rest))
    → SoFar all (drop m (drop n rest)) (old + old_count (take n rest)
    + old_count (take m (drop n rest))) (new + new_count (take n rest)
    + new_count (take m (drop n rest))) start t
SoFar-more all rest old new n m start bytes t it shared more =
    let p : Part = record { left_out = take n rest; hunk = take m (drop n rest) } in
    let ps = it.parts in
    let added = rows_of-more ps p in
    let cut : (take n rest ++ take m (drop n rest)) ++ drop m (drop n rest) ≡ rest =
    append_assoc (take n rest) (take m (drop n rest)) (drop m (drop n rest))
    ∙ ap (λ rs. take n rest ++ rs) (take-append-drop m (drop n rest))
    ∙ take-append-drop n rest in
    let olds = ap (λ rs. old_count rs) added
    ∙ old_count-append (rows_of ps) (take n rest ++ take m (drop n rest))
    ∙ ap (λ k. old_count (rows_of ps) + k)
    (old_count-append (take n rest) (take m (drop n rest))) in
    let news = ap (λ rs. new_count rs) added
    ∙ new_count-append (rows_of ps) (take n rest ++ take m (drop n rest))
    ∙ ap (λ k. new_count (rows_of ps) + k)
    (new_count-append (take n rest) (take m (drop n rest))) in
    let from = it.old_is in
    let beside = it.new_is in
    let old_at : old + old_count (take n rest)
    ≡ 0 + (old_count (rows_of ps) + old_count (take n rest)) =
    omega arith in
    let new_at : new + new_count (take n rest)
    ≡ 0 + (new_count (rows_of ps) + new_count (take n rest)) =
    omega arith in
    record {
      parts = ps ++ (p ∷ []);
      shared = leave_out_shared-more ps p it.shared shared;
      rows = ap (λ rs. rs ++ drop m (drop n rest)) added
          ∙ append_assoc (rows_of ps) (take n rest ++ take m (drop n rest)) (drop m (drop n rest))
          ∙ ap (λ rs. rows_of ps ++ rs) cut ∙ it.rows;
      old_is = omega arith;
      new_is = omega arith;
      text = more ∙ ap (λ u. u ++ hunk_text (old + old_count (take n rest))
          (new + new_count (take n rest)) (take m (drop n rest))) it.text
          ∙ append_assoc start (hunks_text 0 0 ps) (hunk_text (old + old_count (take n rest))
          (new + new_count (take n rest)) (take m (drop n rest)))
          ∙ ap (λ k. start ++ (hunks_text 0 0 ps ++ hunk_text k (new + new_count (take n rest))
          (take m (drop n rest)))) old_at
          ∙ ap (λ k. start ++ (hunks_text 0 0 ps ++ hunk_text
          (0 + (old_count (rows_of ps) + old_count (take n rest))) k (take m (drop n rest)))) new_at
          ∙ ap (λ u. start ++ u) (sym (hunks_text-more 0 0 ps p));
    }
