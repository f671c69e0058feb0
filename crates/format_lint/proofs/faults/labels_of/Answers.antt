use Rattle.std.proofs.Common.{◌≡◌, ◌++◌, IsUtf8, ap, ◌∙◌, sym, chars, map}
use Rattle.std.proofs.Common.{rules}
use Rattle.std.proofs.Common.{true}
use Rattle.std.specs.Prelude.{option_map}
use Rattle.rustc_parse_format.proofs.Sources.PlainPlaces.{width_chars}
use Rattle.rustc_parse_format.specs.Call.{Call}
use Rattle.rustc_parse_format.specs.Characters.{is_nil}
use Rattle.rustc_parse_format.specs.Views.{seen_mode}
use Rattle.rustc_parse_format.specs.FaultViews.{seen_fault}
use Rattle.rustc_parse_format.specs.State.{State, next_call}
use Rattle.rustc_parse_format.specs.World.{faults_in, piece_in}
use Rattle.format_tokens.proofs.Progress.{left_after, nil_chars, piece_so_far, smaller}
use Rattle.format_tokens.proofs.Progress.{so_far-end, so_far-next, so_far-start, some_chars}
use Rattle.format_lint.proofs.Firsts.{found-end, found-next, found-start, no_errors, some-left}
use Rattle.format_lint.proofs.faults.labels_of.Goals as goal

pub loop-text-init : goal.loop-text-init
loop-text-init c =
    let e = c.requires in record {
      is_text = search rules;
      labels = rw c.new-labels.ensures.items
          (so_far-start (seen_mode c.args.mode) (chars c.args.source.text.now) c.args.parser.now
          (ap (λ (s : State). s.mode) e) (ap (λ (s : State). s.input) e)
          (ap (λ (s : State). s.rest) e) (ap (λ (s : State). s.next) e));
      none_left = c.new-list.ensures.items;
      faults = found-start c.args.parser.now c.new-faults.result
          (ap (λ (s : State). s.errors) e) c.new-faults.ensures.kept
          c.new-faults.ensures.is_waiting;
    }

pub loop-text-smaller : goal.loop-text-smaller
loop-text-smaller c =
    let some = some_chars _ c.loop-text.invariant.is_text
    (sym c.is_empty.ensures ∙ c.loop-text-test.true) in
    smaller _ _ _ _ _ _ c.loop-text.invariant.labels (no_errors c.loop-text.parser
    c.next_with_faults.new.self c.loop-text.invariant.faults.none c.in_ok-piece.ensures.state) some

pub loop-text-preserved : goal.loop-text-preserved
loop-text-preserved c =
    let u : IsUtf8 c.args.source.text.now = search rules in
    let h = c.loop-text.invariant.labels in
    let s = c.loop-text.parser in
    let fs = faults_in s.world (next_call s).faults in
    let new = no_errors s c.next_with_faults.new.self c.loop-text.invariant.faults.none
    c.in_ok-piece.ensures.state in
    let some = some_chars _ c.loop-text.invariant.is_text
    (sym c.is_empty.ensures ∙ c.loop-text-test.true) in
    let left = left_after _ _ _ _ _ _ _ _ _ h new c.saturating_sub-width.ensures
    (sym (width_chars _ u)) c.position.ensures in record {
      is_text = search rules;
      labels = so_far-next _ _ _ _ _ c.in_ok-rest.rest.now _ _ h new some
          (c.in_ok-rest.ensures c.loop-text.parser.world c.loop-text.parser.next
          (c.in_ok-piece.ensures.piece ∙ ap (λ (k : Call). option_map
          (piece_in c.loop-text.parser.world) k.piece) (piece_so_far _ _ _ _ _ h)) left);
      none_left = c.in_ok-add.ensures.moved;
      faults = found-next s c.next_with_faults.new.self c.loop-text.faults c.add.new.self _ _
          c.loop-text.invariant.faults c.in_ok-piece.ensures.state
          (some-left _ (λ n. some (h.rest_is ∙ n)))
          (c.in_ok-piece.ensures.faults
          ∙ ap (λ gs. map seen_fault gs ++ fs) c.loop-text.invariant.none_left)
          c.in_ok-add.ensures.kept c.in_ok-add.ensures.is_waiting;
    }

pub returns-clause-labels : goal.returns-clause-labels
returns-clause-labels c =
    let e = nil_chars _ (sym c.is_empty.ensures ∙ c.loop-text-test.false) in
    so_far-end _ _ _ _ (rw e at c.loop-text.invariant.labels)

pub returns-clause-faults : goal.returns-clause-faults
returns-clause-faults c =
    let h : is_nil c.loop-text.parser.rest ≡ true =
    ap is_nil (sym c.loop-text.invariant.labels.rest_is
    ∙ nil_chars _ (sym c.is_empty.ensures ∙ c.loop-text-test.false)) in
    rw c.requires at (found-end _ _ _ c.loop-text.invariant.faults h)
