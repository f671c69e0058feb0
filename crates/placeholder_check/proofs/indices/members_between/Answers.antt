use Rattle.std.proofs.Common.{◌≡◌, ◌<◌, ◌≤◌, ℕ, true, arith, sym, inl, inr}
use Rattle.placeholder_check.specs.Collection.{is_noted}
use Rattle.placeholder_check.proofs.Numbers.{Lists-push, Lists-same, Lists-skip}
use Rattle.placeholder_check.proofs.indices.members_between.Goals as goal
use Rattle.placeholder_check.proofs.indices.members_between.Goals.{else-has_index}
use Rattle.placeholder_check.proofs.indices.members_between.Goals.{then-has_index+in_ok-push}

pub loop-n-preserved : goal.loop-n-preserved
loop-n-preserved c =
    let P : ℕ → Type 0 = λ k. (c.args.first ≤ k) × (is_noted c.args.set.now k ≡ true) in
    record {
      members = elim c.if-has_index.branch [
        | then-has_index+in_ok-push w ↦ rw (w.members-is, w.in_ok-push.ensures.items)
            (Lists-push P c.loop-n.n c.loop-n.members.items c.loop-n.invariant.members
            (omega arith, sym w.if-has_index.ensures))
        | else-has_index w ↦ rw (w.members-is)
            (Lists-skip P c.loop-n.n c.loop-n.members.items c.loop-n.invariant.members
            (λ p. let e : is_noted c.args.set.now c.loop-n.n ≡ true = p.1 in
            absurd (cc (w.if-has_index.ensures))))
      ];
      within = inr (omega arith);
    }

pub returns-clause-members : goal.returns-clause-members
returns-clause-members c = Lists-same _ _ _ (λ n. (
  λ h.
      let b : n < c.loop-n.n = h.0 in
      let f : c.args.first ≤ n = h.1.0 in (
        elim c.loop-n.invariant.within [
          | inl e ↦ absurd (omega arith)
          | inr e ↦ omega arith
        ],
        h.1,
      ),
  λ h. let b : n < c.args.end = h.0 in let f : c.args.first ≤ n = h.1.0 in (omega arith, h.1),
)) c.loop-n.invariant.members
