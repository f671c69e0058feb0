-- The edits of the faults that are mended follow each other.
use Rattle.std.proofs.Common.{◌≡◌, ◌&&◌, ◌++◌, ◌∷◌, ℕ, Bool, List, [], true, false, nat_le, refl}
use Rattle.std.proofs.lemmas.Bool.{cond_both}
use Rattle.fault_fixes.specs.Edits.{Edit}
use Rattle.source_report.specs.declared.report.Finding.{Finding}
use Rattle.source_report.specs.Suggestions.{all_edits, are_after, edits_of, end_after, is_mended}
use Rattle.source_report.specs.Suggestions.{mended_faults}

both-true : (b c : Bool) → (b && c) ≡ true → (b ≡ true) × (c ≡ true)
both-true true c h = (refl, h)
both-true false c h = absurd cc

-- Edits that follow each other, and others that follow them.
after-append : (at : ℕ) (es fs : List Edit) → are_after at es ≡ true
    → are_after (end_after at es) fs ≡ true → are_after at (es ++ fs) ≡ true
after-append at [] fs h k = k
after-append at (e ∷ es) fs h k = last (nat_le at e.span.0) (nat_le e.span.0 e.span.1) _ _ h
    (λ l. after-append e.span.1 es fs l k)
  where
    last : (b c d f : Bool) → (b && c && d) ≡ true → (d ≡ true → f ≡ true) → (b && c && f) ≡ true
    last true true d f h g = g h
    last true false d f h g = absurd cc
    last false c d f h g = absurd cc

pub mended-after : (at : ℕ) (xs : List Finding) → are_after at (all_edits (mended_faults at xs))
    ≡ true
mended-after at [] = refl
mended-after at (x ∷ xs) =
    cond_both {A = List Finding} (is_mended at x) _ _ (λ fs. are_after at (all_edits fs) ≡ true)
    (λ yes. after-append at (edits_of x) (all_edits (mended_faults (end_after at (edits_of x)) xs))
    (both-true _ _ yes).1 (mended-after (end_after at (edits_of x)) xs))
    (λ no. mended-after at xs)
