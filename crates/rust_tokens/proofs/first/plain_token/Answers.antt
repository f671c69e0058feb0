use Rattle.std.proofs.Common.{Some, true, ap, sym, ◌∙◌}
use Rattle.std.proofs.lemmas.Str.{IsCharBoundary-after_ascii}
use Rattle.rust_tokens.specs.declared.kinds.Kind.TheVariants.{Ident, Whitespace}
use Rattle.rust_tokens.proofs.AsciiRuns.{not_empty}
use Rattle.rust_tokens.proofs.FirstBodies.{first-sign, first-space, first-word, sign-small}
use Rattle.rust_tokens.proofs.first.plain_token.Goals as goal

pub range_from-requires : goal.range_from-requires
range_from-requires c _ =
    let size = rw c.as_bytes-bytes.ensures.value at c.is_empty.ensures in
    let some = not_empty _ (sym size ∙ c.if-is_empty.false) in
    let sign = rw c.as_bytes-bytes.ensures.value at c.is_sign.ensures in
    IsCharBoundary-after_ascii c.args.text.now 0 c.utf8.text some
    (sign-small _ (sym sign ∙ c.if-is_sign.true))

pub returns-then-is_sign-clause-first : goal.returns-then-is_sign-clause-first
returns-then-is_sign-clause-first c =
    let size = rw c.as_bytes-bytes.ensures.value at c.is_empty.ensures in
    let some = not_empty _ (sym size ∙ c.if-is_empty.false) in
    let sign = rw c.as_bytes-bytes.ensures.value at c.is_sign.ensures in
    rw c.range_from.ensures.value
    (first-sign c.args.text.now c.utf8.text some (sym sign ∙ c.if-is_sign.true))

pub returns-then-is_space_byte-clause-first : goal.returns-then-is_space_byte-clause-first
returns-then-is_space_byte-clause-first c =
    let size = rw c.as_bytes-bytes.ensures.value at c.is_empty.ensures in
    let some = not_empty _ (sym size ∙ c.if-is_empty.false) in
    let space = rw c.as_bytes-bytes.ensures.value at c.is_space_byte.ensures in
    ap (λ r. Some (Whitespace, true, r)) c.in_ok-rest.ensures
    ∙ (first-space c.args.text.now c.utf8.text some (sym space ∙ c.if-is_space_byte.true))

pub returns-then-begins_word-clause-first : goal.returns-then-begins_word-clause-first
returns-then-begins_word-clause-first c =
    let size = rw c.as_bytes-bytes.ensures.value at c.is_empty.ensures in
    let some = not_empty _ (sym size ∙ c.if-is_empty.false) in
    let start = rw c.as_bytes-bytes.ensures.value at c.begins_word.ensures in
    ap (λ r. Some (Ident, true, r)) c.in_ok-rest-2.ensures
    ∙ (first-word c.args.text.now c.utf8.text some (sym start ∙ c.if-begins_word.true))
