use Rattle.std.proofs.Common.{◌≡◌, sym, ap, ◌∙◌, arith, chars}
use Rattle.rustc_parse_format.specs.Characters.{byte_length}
use Rattle.rustc_parse_format.proofs.Literals.Widths.{width-chars}
use Rattle.rustc_parse_format.proofs.Sources.Contents.{gap-none, gap-over, gap-taken}
use Rattle.rustc_parse_format.proofs.source.anchor.continuations_width.Goals as goal

pub returns-then-not-begins_continuation-clause-width :
    goal.returns-then-not-begins_continuation-clause-width
returns-then-not-begins_continuation-clause-width c q us h e =
    sym (gap-none c.new-rest.result q us h (c.new-rest.ensures ∙ e)
    (sym c.begins_continuation.ensures ∙ c.if-not-begins_continuation.true))

pub returns-then-begins_with-clause-width : goal.returns-then-begins_with-clause-width
returns-then-begins_with-clause-width c q us h e =
    sym (gap-over q c.skip_continuations.new.self us h
    (c.skip_continuations.ensures.after q us h (c.new-rest.ensures ∙ e))
    (sym c.begins_with.ensures ∙ c.if-begins_with.true))

pub returns-else-begins_with-clause-width : goal.returns-else-begins_with-clause-width
returns-else-begins_with-clause-width c q us h e =
    rw (c.len-total.ensures, c.len.ensures)
    (gap-taken c.new-rest.result q c.skip_continuations.new.self us h (c.new-rest.ensures ∙ e)
    (c.skip_continuations.ensures.after q us h (c.new-rest.ensures ∙ e))
    (sym c.begins_with.ensures ∙ c.if-begins_with.false))

pub returns-else-begins_with-clause-inside : goal.returns-else-begins_with-clause-inside
returns-else-begins_with-clause-inside c =
    let whole : c.len-total.result ≡ byte_length (chars c.args.text.now) = c.len-total.ensures
    ∙ ap byte_length c.new-rest.ensures in
    omega (arith, whole, width-chars c.args.text.now c.utf8.text)
