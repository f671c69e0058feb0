use Rattle.piece_listing.proofs.Empty.{nothing_found}
use Rattle.piece_listing.proofs.input.list_literal.Goals as goal

pub returns-in_err-list_text_of-clause-empty : goal.returns-in_err-list_text_of-clause-empty
returns-in_err-list_text_of-clause-empty c e =
    absurd (nothing_found c.in_ok-text.field-0 _ c.args.input.now
    c.strip_newline-literal.result.now e
    c.strip_newline-literal.ensures.short c.in_ok-text.ensures.found c.in-Some.is)

pub returns-clause-empty : goal.returns-clause-empty
returns-clause-empty c e =
    absurd (nothing_found c.in_ok-text.field-0 _ c.args.input.now
    c.strip_newline-literal.result.now e
    c.strip_newline-literal.ensures.short c.in_ok-text.ensures.found c.in-Some.is)
