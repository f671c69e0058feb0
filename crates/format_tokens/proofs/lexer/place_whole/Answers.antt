use Rattle.std.proofs.Common.{◌≡◌, ◌++◌, ◌∙◌, ap, chars, false, length, map, arith, Some}
use Rattle.rustc_parse_format.specs.Source.{unappended_input}
use Rattle.rustc_parse_format.specs.Types.{wants_names}
use Rattle.rustc_parse_format.specs.World.{world}
use Rattle.format_tokens.specs.Culprits.{marked_tokens}
use Rattle.format_tokens.specs.Views.{seen_token}
use Rattle.format_tokens.specs.Starts.{pairs, placed_sizes}
use Rattle.format_tokens.proofs.Lexing.{assembled, kept-is, kept-small, literal-places}
use Rattle.format_tokens.proofs.Lexing.{quoted-tokens}
use Rattle.format_tokens.proofs.lexer.place_whole.Goals as goal

pub place-requires : goal.place-requires
place-requires c =
    let input = chars c.args.input.now in
    let literal = chars c.args.literal.now in
    let b = c.args.appended_newline in
    rw c.as_slice-starts.ensures.value
    (kept-small (world input c.args.style (Some literal) b) (length input) _ _
    c.in_ok-offsets.ensures (literal-places input c.args.style literal b c.requires.source)
    (omega (arith, c.saturating_sub-count.ensures, c.length_of.ensures)))

pub returns : goal.returns
returns c mode labels names =
    let input = chars c.args.input.now in
    let kept : c.saturating_sub-count.result
    ≡ length (unappended_input c.args.appended_newline input) =
    rw (c.saturating_sub-count.ensures, c.length_of.ensures, c.from.ensures)
    (kept-is c.args.appended_newline input) in
    let literal = chars c.args.literal.now in
    let w = world input c.args.style (Some literal) c.args.appended_newline in
    let starts = c.as_slice-starts.ensures.value ∙ c.in_ok-offsets.ensures in
    let placed = c.in_ok-place.ensures w starts
    ∙ ap (λ l. map seen_token c.push.new.self.items
    ++ placed_sizes w (length w.places) c.saturating_sub-count.result l)
    (ap (λ b. marked_tokens b false (pairs c.args.labels.now)) names
    ∙ ap (λ ls. marked_tokens (wants_names mode) false (pairs ls)) labels) in
    quoted-tokens mode input c.args.style literal c.args.appended_newline
    c.saturating_sub-count.result _ _ _ kept c.requires.source starts c.width_of.ensures
    (assembled _ _ _ _ _ _ _ c.in_ok-tokens.ensures.items
    c.in_ok-push.ensures.items placed c.in_ok-push-2.ensures.items)
