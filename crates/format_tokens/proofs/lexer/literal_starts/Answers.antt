use Rattle.std.proofs.Common.{◌+◌, ◌∙◌, ap, sym, chars, true, Some}
use Rattle.std.proofs.lemmas.Result.{IfOk-weaker}
use Rattle.rustc_parse_format.specs.World.{plain_world}
use Rattle.rustc_parse_format.proofs.Spans.Worlds.{world-literal}
use Rattle.format_tokens.specs.Starts.{starts_of}
use Rattle.format_tokens.proofs.lexer.literal_starts.Goals as goal

pub returns-in-Some : goal.returns-in-Some
returns-in-Some c =
    let input = chars c.args.input.now in
    let hashes = c.in-Some.hashes in
    let source = rw c.in-Some.is at c.requires.source in
    rw c.in-Some.is (IfOk-weaker c.plain_starts.result _ _
    (λ v h. h true
    ∙ (ap (λ e. starts_of (plain_world true (hashes + 2) input e))
    (rw c.width_of.ensures at c.saturating_sub-end.ensures)
    ∙ ap starts_of (sym (world-literal input (Some hashes)
    (chars c.args.literal.now) c.args.appended_newline source))))
    c.plain_starts.ensures)
