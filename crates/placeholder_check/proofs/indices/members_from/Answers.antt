use Rattle.std.proofs.Common.{arith, inl, inr}
use Rattle.std.proofs.lemmas.Bool.{cases_lt}
use Rattle.placeholder_check.proofs.Marked.{Lists-members}
use Rattle.placeholder_check.proofs.indices.members_from.Goals as goal

pub returns-clause-members : goal.returns-clause-members
returns-clause-members c = rw (c.in_ok-push_from.ensures.kept)
    (Lists-members c.args.set.now c.args.first c.len-end.result c.max.result
    c.in_ok-members.members.items (omega arith) (omega arith) (omega arith)
    (λ n h. elim (cases_lt n c.args.first) [ inl a ↦ inr a | inr a ↦ inl (omega arith) ])
    c.in_ok-push_from.ensures.ordered c.in_ok-members.ensures.members)
