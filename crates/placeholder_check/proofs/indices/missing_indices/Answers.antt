use Rattle.std.proofs.Common.{◌≡◌, ◌<◌, ℕ, false, arith, subst, sym}
use Rattle.placeholder_check.specs.Entries.{Lists}
use Rattle.placeholder_check.specs.Collection.{is_noted}
use Rattle.placeholder_check.proofs.Numbers.{Lists-push, Lists-skip}
use Rattle.placeholder_check.proofs.indices.missing_indices.Goals as goal
use Rattle.placeholder_check.proofs.indices.missing_indices.Goals.{else-not-has_index}
use Rattle.placeholder_check.proofs.indices.missing_indices.Goals.{then-not-has_index+in_ok-push}

pub loop-n-preserved : goal.loop-n-preserved
loop-n-preserved c =
    let P : ℕ → Type 0 = λ k. is_noted c.args.set.now k ≡ false in
    elim c.if-not-has_index.branch [
      | then-not-has_index+in_ok-push w ↦ rw (w.missing_indices-is, w.in_ok-push.ensures.items)
          (Lists-push P c.loop-n.n c.loop-n.missing_indices.items c.loop-n.invariant
          (sym w.if-not-has_index.ensures))
      | else-not-has_index w ↦ rw (w.missing_indices-is)
          (Lists-skip P c.loop-n.n c.loop-n.missing_indices.items c.loop-n.invariant
          (λ e. cc (w.if-not-has_index.ensures)))
    ]

pub returns-clause-lacked : goal.returns-clause-lacked
returns-clause-lacked c =
    let e : c.loop-n.n ≡ c.args.end = omega arith in
    subst (λ (i : ℕ). Lists (λ n. (n < i)
    × (is_noted c.args.set.now n ≡ false)) c.loop-n.missing_indices.items) e c.loop-n.invariant
