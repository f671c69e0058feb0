use Rattle.std.proofs.Common.{◌++◌, ◌∷◌, [], chars, sym}
use Rattle.piece_listing.proofs.Literals.{raw_frame-opened, raw_frame-rest, raw_frame-text}
use Rattle.piece_listing.proofs.literal.raw_text.Goals as goal

pub returns-in_err-rest-clause-text : goal.returns-in_err-rest-clause-text
returns-in_err-rest-clause-text c =
    rw c.from_residual-in_err-rest.ensures (λ n t e. c.in_err-rest.ensures.rest _
    (sym (raw_frame-opened n c.leading_hashes-hashes.result.0 (chars c.args.literal.now)
    (chars c.in_ok-without_first.field-0.now)
    (chars c.leading_hashes-hashes.result.1.now) t
    e c.in_ok-without_first.ensures.rest c.leading_hashes-hashes.ensures.all
    c.leading_hashes-hashes.ensures.no_more)))

pub returns-in_err-without_last_hashes-clause-text :
    goal.returns-in_err-without_last_hashes-clause-text
returns-in_err-without_last_hashes-clause-text c =
    rw c.from_residual-in_err-without_last_hashes.ensures (λ n t e.
    c.in_err-without_last_hashes.ensures (t ++ 34 ∷ [])
    (raw_frame-rest n c.leading_hashes-hashes.result.0 (chars c.args.literal.now)
    (chars c.in_ok-without_first.field-0.now) (chars c.leading_hashes-hashes.result.1.now)
    (chars c.in_ok-rest.rest.now) t e c.in_ok-without_first.ensures.rest
    c.leading_hashes-hashes.ensures.all
    c.leading_hashes-hashes.ensures.no_more
    c.in_ok-rest.ensures.rest))

pub returns-in_err-text-clause-text : goal.returns-in_err-text-clause-text
returns-in_err-text-clause-text c = rw c.from_residual-in_err-text.ensures (λ n t e.
    c.in_err-text.ensures.front t
    (raw_frame-text n c.leading_hashes-hashes.result.0 (chars c.args.literal.now)
    (chars c.in_ok-without_first.field-0.now) (chars c.leading_hashes-hashes.result.1.now)
    (chars c.in_ok-rest.rest.now)
    (chars c.in_ok-without_last_hashes.field-0.now) t e c.in_ok-without_first.ensures.rest
    c.leading_hashes-hashes.ensures.all
    c.leading_hashes-hashes.ensures.no_more c.in_ok-rest.ensures.rest
    c.in_ok-without_last_hashes.ensures))
