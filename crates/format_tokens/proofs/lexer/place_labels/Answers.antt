use Rattle.std.proofs.Common.{◌≡◌, ◌++◌, ◌∙◌, ap, sym, chars, false, length, map, arith, refl, Some}
use Rattle.std.proofs.lemmas.Result.{IfOk-weaker}
use Rattle.rustc_parse_format.specs.Characters.{byte_length}
use Rattle.rustc_parse_format.specs.Source.{unappended_input}
use Rattle.rustc_parse_format.specs.World.{plain_world}
use Rattle.rustc_parse_format.proofs.Sources.PlainPlaces.{length-plain_places}
use Rattle.rustc_parse_format.specs.Views.{seen_mode}
use Rattle.format_tokens.specs.Culprits.{marked_tokens}
use Rattle.format_tokens.specs.Escapes.{cut}
use Rattle.format_tokens.specs.Spans.{cut_in, tokens, whole_tokens}
use Rattle.format_tokens.proofs.Covering.{whole-cover}
use Rattle.format_tokens.proofs.CutCovering.{source-cut}
use Rattle.format_tokens.specs.Views.{seen_text, seen_token}
use Rattle.format_tokens.specs.Starts.{pairs, placed_sizes, starts_of}
use Rattle.format_tokens.proofs.Lexing.{kept-is, kept-small}
use Rattle.format_tokens.proofs.Lexing.{plain-tokens}
use Rattle.format_tokens.proofs.lexer.place_labels.Goals as goal

pub place-requires : goal.place-requires
place-requires c =
    let input = chars c.args.input.now in
    rw c.as_slice.ensures.value
    (kept-small (plain_world false 0 input c.width_of.result) (length input) _ _
    (c.in_ok-starts.ensures false) (length-plain_places 0 input)
    (omega (arith, c.saturating_sub-count.ensures, c.length_of.ensures)))

pub returns-in_default : goal.returns-in_default
returns-in_default c labels =
    let mode = seen_mode c.args.mode in
    let input = chars c.args.input.now in
    let kept : c.saturating_sub-count.result
    ≡ length (unappended_input c.args.appended_newline input) =
    rw (c.saturating_sub-count.ensures, c.length_of.ensures, c.from.ensures)
    (kept-is c.args.appended_newline input) in
    let w = plain_world false 0 input (byte_length input) in
    let starts : c.as_slice.result.now ≡ starts_of w =
    c.as_slice.ensures.value ∙ (c.in_ok-starts.ensures false
    ∙ ap (λ e. starts_of (plain_world false 0 input e)) c.width_of.ensures) in
    plain-tokens mode input c.args.style (seen_text c.args.snippet) c.args.appended_newline
    c.saturating_sub-count.result _ kept c.in_default.ensures
    (c.in_ok-place.ensures w starts
    ∙ (ap (λ l. map seen_token l ++ placed_sizes w (length w.places) c.saturating_sub-count.result
    (marked_tokens c.wants_names-needs_names.result false (pairs c.args.labels.now)))
    c.in_ok-tokens.ensures.items
    ∙ rw (c.wants_names-needs_names.ensures, labels) refl))

pub returns-in-Some-style : goal.returns-in-Some-style
returns-in-Some-style c labels =
    let mode = seen_mode c.args.mode in
    let input = chars c.args.input.now in
    let literal = chars c.in-Some.literal.now in
    let b = c.args.appended_newline in
    let source = c.in-Some.ensures in
    let ts = whole_tokens mode input c.args.style (Some literal) b in
    let whole = c.in_ok-tokens-2.ensures mode labels c.wants_names-needs_names.ensures in
    whole ∙ (sym (ap (λ s. cut_in s literal ts) c.in-Some-style.is)
    ∙ (sym (source-cut mode input c.args.style literal b source.1)
    ∙ ap (λ s. tokens mode input c.args.style s b) (sym source.0)))

pub returns-in-None : goal.returns-in-None
returns-in-None c =
    let mode = seen_mode c.args.mode in
    let input = chars c.args.input.now in
    let literal = chars c.in-Some.literal.now in
    let b = c.args.appended_newline in
    let source = c.in-Some.ensures in
    let ts = whole_tokens mode input c.args.style (Some literal) b in
    IfOk-weaker c.cut_escapes.result _ _ (λ v h labels.
    let whole = c.in_ok-tokens-2.ensures mode labels c.wants_names-needs_names.ensures in
    h 0 (byte_length literal) (rw whole (whole-cover mode input c.args.style literal b source.1))
    ∙ (ap (cut literal) whole
    ∙ (sym (ap (λ s. cut_in s literal ts) c.in-None.is)
    ∙ (sym (source-cut mode input c.args.style literal b source.1)
    ∙ ap (λ s. tokens mode input c.args.style s b) (sym source.0)))))
    c.cut_escapes.ensures
