-- The numbers of lines of rows.
use Rattle.std.proofs.Common.{◌≡◌, ◌≤◌, ◌+◌, ◌++◌, ◌∙◌, List, [], ◌∷◌, ℕ, ap, arith, length, refl}
use Rattle.std.proofs.Common.{sym}
use Rattle.std.proofs.Common.{◌&&◌, ◌<◌, get_or, take, true}
use Rattle.std.proofs.lemmas.List.{take_more}
use Rattle.std.proofs.Math.Bool.{and_assoc}
use Rattle.unified_diff.specs.Diffs.{are_shared, is_shared, new_count, old_count, one_in_new}
use Rattle.unified_diff.specs.Diffs.{one_in_old}
use Rattle.unified_diff.specs.declared.rows.Row.{Row}
use Rattle.unified_diff.specs.declared.rows.Side.{Side}
use Rattle.unified_diff.specs.declared.rows.Side.TheVariants.{Both, Old, New}

one_old : (s : Side) → one_in_old s ≤ 1
one_old Both = omega arith
one_old Old = omega arith
one_old New = omega arith

one_new : (s : Side) → one_in_new s ≤ 1
one_new Both = omega arith
one_new Old = omega arith
one_new New = omega arith

pub old_count-le : (rs : List Row) → old_count rs ≤ length rs
unfolding old_count
old_count-le [] = omega arith
old_count-le (r ∷ rs) = let a = one_old r.side in let b = old_count-le rs in omega arith

pub new_count-le : (rs : List Row) → new_count rs ≤ length rs
unfolding new_count
new_count-le [] = omega arith
new_count-le (r ∷ rs) = let a = one_new r.side in let b = new_count-le rs in omega arith

pub old_count-append : (rs ss : List Row) → old_count (rs ++ ss) ≡ old_count rs + old_count ss
unfolding old_count
old_count-append [] ss = omega arith
old_count-append (r ∷ rs) ss = let e = old_count-append rs ss in omega arith

pub new_count-append : (rs ss : List Row) → new_count (rs ++ ss) ≡ new_count rs + new_count ss
unfolding new_count
new_count-append [] ss = omega arith
new_count-append (r ∷ rs) ss = let e = new_count-append rs ss in omega arith

pub are_shared-append : (rs ss : List Row) → are_shared (rs ++ ss)
    ≡ (are_shared rs && are_shared ss)
unfolding are_shared
are_shared-append [] ss = refl
are_shared-append (r ∷ rs) ss = ap (λ b. is_shared r.side && b) (are_shared-append rs ss)
    ∙ sym (and_assoc (is_shared r.side) (are_shared rs) (are_shared ss))

pub are_shared-none : are_shared [] ≡ true
unfolding are_shared
are_shared-none = refl

pub are_shared-more : (rs : List Row) (n : ℕ) (r : Row) → n < length rs
    → are_shared (take n rs) ≡ true → is_shared (get_or rs n r).side ≡ true
    → are_shared (take (n + 1) rs) ≡ true
unfolding are_shared
are_shared-more rs n r within front next = ap (λ xs. are_shared xs) (take_more rs n r within)
    ∙ are_shared-append (take n rs) (get_or rs n r ∷ []) ∙ rw (front, next) refl

pub old_count-none : old_count [] ≡ 0
unfolding old_count
old_count-none = refl

pub new_count-none : new_count [] ≡ 0
unfolding new_count
new_count-none = refl

pub ruleset shared_front = (are_shared-none, are_shared-more)

pub ruleset counts_fit = (old_count-le, new_count-le)
