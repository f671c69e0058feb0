use Rattle.std.proofs.Common.{◌≤◌, length, drop, chars, ap, ◌∙◌, arith}
use Rattle.std.proofs.lemmas.Str.{IsUtf8-from_is_utf8, IsCharBoundary-from_drop}
use Rattle.std.proofs.lemmas.List.{drop-drop}
use Rattle.rustc_parse_format.specs.SourceViews.{character_width}
use Rattle.rustc_parse_format.proofs.Sources.Steps.{after_character, after_end, through_character}
use Rattle.rustc_parse_format.proofs.Sources.Steps.{through_newline, width_boundary, width_within}
use Rattle.rustc_parse_format.proofs.source.anchor.character_at.Goals as goal

pub range_from-text-requires : goal.range_from-text-requires
range_from-text-requires c _ =
    IsCharBoundary-from_drop c.args.snippet.now c.args.at c.requires.within
    (IsUtf8-from_is_utf8 _ c.requires.valid)

pub overflow_add-stop : goal.overflow_add-stop
overflow_add-stop c =
    let inside : c.character_width-width.result ≤ length c.range_from-text.result.now =
    rw c.character_width-width.ensures
    (width_within c.range_from-text.result.now c.range_from-text.utf8) in
    omega (arith, c.range_from-text.ensures.len)

pub range_from-requires : goal.range_from-requires
range_from-requires c _ = rw c.character_width-width.ensures
    (width_boundary c.range_from-text.result.now c.range_from-text.utf8)

pub returns-then-width-eq0-clause-stop : goal.returns-then-width-eq0-clause-stop
returns-then-width-eq0-clause-stop c w d rest h =
    through_newline _ w d rest c.args.at c.character_width-width.result h
    (c.character_width-width.ensures
    ∙ ap (λ b. character_width (chars b)) c.range_from-text.ensures.value) c.if-width-eq0.true

pub returns-then-width-eq0-clause-after : goal.returns-then-width-eq0-clause-after
returns-then-width-eq0-clause-after c w rest h =
    after_end _ w rest c.args.at c.character_width-width.result h
    (c.character_width-width.ensures
    ∙ ap (λ b. character_width (chars b)) c.range_from-text.ensures.value) c.if-width-eq0.true

pub returns-clause-stop : goal.returns-clause-stop
returns-clause-stop c w d rest h =
    through_character _ w _ c.args.at c.character_width-width.result h
    (c.character_width-width.ensures
    ∙ ap (λ b. character_width (chars b)) c.range_from-text.ensures.value) c.if-width-eq0.false

pub returns-clause-after : goal.returns-clause-after
returns-clause-after c w rest h =
    let same = c.range_from.ensures.value
    ∙ (ap (drop c.character_width-width.result) c.range_from-text.ensures.value
    ∙ drop-drop c.character_width-width.result c.args.at c.args.snippet.now) in
    after_character _ w rest c.args.at c.character_width-width.result c.continuations_width.result h
    (c.character_width-width.ensures
    ∙ ap (λ b. character_width (chars b)) c.range_from-text.ensures.value) c.if-width-eq0.false
    (λ q us is e. c.continuations_width.ensures.width q us is (ap chars same ∙ e))
