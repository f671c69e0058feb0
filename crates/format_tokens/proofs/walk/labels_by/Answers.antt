use Rattle.std.proofs.Common.{ap, ◌∙◌, sym, chars, rules}
use Rattle.std.specs.Prelude.{option_map}
use Rattle.rustc_parse_format.specs.Call.{Call}
use Rattle.rustc_parse_format.specs.Views.{seen_mode}
use Rattle.rustc_parse_format.specs.State.{State}
use Rattle.rustc_parse_format.specs.World.{piece_in}
use Rattle.format_tokens.proofs.Progress.{left_after, piece_so_far, so_far-end, so_far-next}
use Rattle.format_tokens.proofs.Progress.{forgotten, nil_chars, smaller, so_far-start, some_chars}
use Rattle.format_tokens.proofs.walk.labels_by.Goals as goal

pub loop-argument-init : goal.loop-argument-init
loop-argument-init c =
    let e = c.requires in (
      c.utf8.input,
      rw c.new-labels.ensures.items
          (so_far-start (seen_mode c.args.mode) (chars c.args.input.now) c.args.parser.now
          (ap (λ (s : State). s.mode) e) (ap (λ (s : State). s.input) e)
          (ap (λ (s : State). s.rest) e) (ap (λ (s : State). s.next) e)),
    )

pub loop-argument-smaller : goal.loop-argument-smaller
loop-argument-smaller c =
    let some = some_chars _ c.loop-argument.invariant.0
    (sym c.is_empty.ensures ∙ c.loop-argument-test.true) in
    smaller _ _ _ _ _ _ c.loop-argument.invariant.1
    (c.take_errors.ensures.state ∙ ap forgotten c.in_ok-piece.ensures.state) some

pub loop-argument-preserved : goal.loop-argument-preserved
loop-argument-preserved c =
    let h = c.loop-argument.invariant.1 in
    let new = c.take_errors.ensures.state ∙ ap forgotten c.in_ok-piece.ensures.state in
    let some = some_chars _ c.loop-argument.invariant.0
    (sym c.is_empty.ensures ∙ c.loop-argument-test.true) in
    let left = left_after _ _ _ _ _ _ _ _ _ h new c.saturating_sub-width.ensures
    c.width_of.ensures c.position.ensures in (
      search rules,
      so_far-next _ _ _ _ _ c.in_ok-rest.rest.now _ _ h new some
          (c.in_ok-rest.ensures c.loop-argument.parser.world c.loop-argument.parser.next
          (c.in_ok-piece.ensures.piece ∙ ap (λ (k : Call). option_map
          (piece_in c.loop-argument.parser.world) k.piece) (piece_so_far _ _ _ _ _ h)) left),
    )

pub returns : goal.returns
returns c =
    let e = nil_chars _ (sym c.is_empty.ensures ∙ c.loop-argument-test.false) in
    so_far-end _ _ _ _ (rw e at c.loop-argument.invariant.1)
