use Rattle.std.proofs.Common.{◌≡◌, chars, ap, ◌∙◌}
use Rattle.std.proofs.lemmas.Result.{IfOk-weaker}
use Rattle.format_tokens.specs.Labels.{names_raw}
use Rattle.format_tokens.proofs.Positions.{position-is, position-named, prefix_width}
use Rattle.format_tokens.proofs.parts.position.Goals as goal
use Rattle.format_tokens.proofs.parts.position.Goals.{then-is_raw, else-is_raw}

pub returns-in-ArgumentIs : goal.returns-in-ArgumentIs
returns-in-ArgumentIs c =
    rw c.in-ArgumentIs.is (IfOk-weaker c.take.result _ _
    (λ rest. position-is _ _ _ _ _ _ c.run_width.ensures)
    (rw c.integer_kind.ensures at c.take.ensures))

pub returns-in_ok-word-in-ArgumentNamed : goal.returns-in_ok-word-in-ArgumentNamed
returns-in_ok-word-in-ArgumentNamed c =
    let prefix : c.if-is_raw.prefix ≡ prefix_width
    (names_raw (chars c.args.text.now) (chars c.in-ArgumentNamed.name.now)) =
    elim c.if-is_raw.branch [
      | then-is_raw w ↦ w.prefix-is ∙ ap prefix_width w.if-is_raw.ensures
      | else-is_raw w ↦ w.prefix-is ∙ ap prefix_width w.if-is_raw.ensures
    ] in
    rw c.in-ArgumentNamed.is (IfOk-weaker c.take-in-ArgumentNamed-2.result _ _
    (λ rest. position-named _ _ _ _ _ _ _ _ _ prefix c.width_of.ensures
    c.in_ok-word-in-ArgumentNamed.ensures)
    (rw c.word_kind-kind.ensures at c.take-in-ArgumentNamed-2.ensures))
