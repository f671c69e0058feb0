use Rattle.std.proofs.lemmas.Str.{IsCharBoundary-start}
use Rattle.literal_faults.proofs.Cuts.{token-place}
use Rattle.literal_faults.proofs.fault.token_fault.Goals as goal

pub returns-then-ne-clause-boundary : goal.returns-then-ne-clause-boundary
returns-then-ne-clause-boundary c = IsCharBoundary-start c.args.text.now c.utf8.text

pub returns-then-token-clause-boundary : goal.returns-then-token-clause-boundary
returns-then-token-clause-boundary c =
    let b = c.in_ok-token.ensures.begins in
    token-place _ b.0 _ _ c.utf8.text b.1 b.2

pub returns-else-token-clause-boundary : goal.returns-else-token-clause-boundary
returns-else-token-clause-boundary c =
    let b = c.in_ok-token.ensures.begins in
    token-place _ b.0 _ _ c.utf8.text b.1 b.2
