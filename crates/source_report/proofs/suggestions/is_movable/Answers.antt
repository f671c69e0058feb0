use Rattle.std.proofs.Common.{◌≡◌, ◌==◌, ◌&&◌, ◌∙◌, ap}
use Rattle.std.specs.List.{after_first, before_first}
use Rattle.std.specs.Str.{trim}
use Rattle.source_report.specs.Suggestions.{is_field}
use Rattle.source_report.proofs.suggestions.is_movable.Goals as goal

pub returns-then-are_plain : goal.returns-then-are_plain
returns-then-are_plain c =
    let m = c.after_mark-moved.ensures in
    let moved = after_first (λ b. b == 44) c.args.text.now in
    let first = trim (before_first (λ b. b == 46) moved) in
    let second = trim (after_first (λ b. b == 46) moved) in
    let name : c.trim-name.result.now ≡ first =
    c.trim-name.ensures.trim
    ∙ ap trim (c.before_mark.ensures ∙ ap (before_first (λ b. b == 46)) m) in
    let field : c.trim-field.result.now ≡ second =
    c.trim-field.ensures.trim
    ∙ ap trim (c.after_mark.ensures ∙ ap (after_first (λ b. b == 46)) m) in
    c.is_field.ensures
    ∙ (ap (λ n. is_field n c.trim-field.result.now) name
    ∙ (ap (is_field first) field ∙ ap (λ p. p && is_field first second) c.if-are_plain.ensures))
