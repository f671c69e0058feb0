use Rattle.file_paths.proofs.Escaping.{lone-escape, no-text, plain-first, short-escape}
use Rattle.file_paths.proofs.Escaping.{whole-escape}
use Rattle.file_paths.proofs.escapes.split_byte.Goals as goal

pub returns-in_err-byte-clause-first : goal.returns-in_err-byte-clause-first
returns-in_err-byte-clause-first c =
    rw c.from_residual.ensures (no-text c.args.text.now c.in_err-byte.ensures.cases)

pub returns-then-byte-ne0-clause-first : goal.returns-then-byte-ne0-clause-first
returns-then-byte-ne0-clause-first c =
    plain-first _ _ _ c.in_ok-byte.ensures.cases.0 c.if-byte-ne0.true

pub returns-in_default-clause-first : goal.returns-in_default-clause-first
returns-in_default-clause-first c =
    lone-escape _ _ _ c.in_ok-byte.ensures.cases.0 c.if-byte-ne0.false c.in_default.ensures.cases

pub returns-in_default-split_first-clause-first
    : goal.returns-in_default-split_first-clause-first
returns-in_default-split_first-clause-first c =
    short-escape _ _ _ _ _ c.in_ok-byte.ensures.cases.0 c.if-byte-ne0.false
    c.in-Some.ensures.cases.0 c.in_default-split_first.ensures.cases

pub returns-clause-first : goal.returns-clause-first
returns-clause-first c =
    rw c.byte_named.ensures (whole-escape _ _ _ _ _ _ _ c.in_ok-byte.ensures.cases.0
    c.if-byte-ne0.false c.in-Some.ensures.cases.0 c.in-Some-split_first.ensures.cases.0)
