use Rattle.std.proofs.Common.{◌≡◌, ◌∙◌, ◌++◌, [], ◌∷◌, true, false, ap, rules, sym}
use Rattle.rustc_parse_format.specs.Lines.{ends_with}
use Rattle.rustc_parse_format.specs.Views.{pair}
use Rattle.rustc_parse_format.specs.State.{State}
use Rattle.rustc_parse_format.specs.World.{Place}
use Rattle.rustc_parse_format.proofs.Lines.StateLines.{ended_more, ended_same, ended_spare}
use Rattle.rustc_parse_format.proofs.parser.Parser.end_line.Goals as goal

pub returns-in_err-push-clause-spare : goal.returns-in_err-push-clause-spare
returns-in_err-push-clause-spare c h =
    let s = c.args.self.now in
    let last : Place = pair c.line-last.result in
    let literal : s.world.has_source ≡ true = sym c.is_source_literal.ensures
    ∙ c.if-is_source_literal.true in
    let other : ends_with last s.line_spans ≡ false = rw (← c.self.view_is)
    (ap (ends_with last) (sym c.as_slice.ensures) ∙ sym c.ends_with.ensures ∙ search rules) in
    absurd (ended_spare s last c.requires literal
    (rw (← c.self.view_is) c.line-last.ensures) other h)

pub returns-in_ok-push-clause-state : goal.returns-in_ok-push-clause-state
returns-in_ok-push-clause-state c =
    let s = c.args.self.now in
    let last : Place = pair c.line-last.result in
    let literal : s.world.has_source ≡ true = sym c.is_source_literal.ensures
    ∙ c.if-is_source_literal.true in
    let other : ends_with last s.line_spans ≡ false = rw (← c.self.view_is)
    (ap (ends_with last) (sym c.as_slice.ensures) ∙ sym c.ends_with.ensures ∙ search rules) in
    let more : c.push.new.self ≡ s.line_spans ++ last
    ∷ [] = rw (← c.self.view_is) c.in_ok-push.ensures.ok in
    ap (λ (x : State). record x { line_spans = c.push.new.self }) c.self.view_is
    ∙ ap (λ ls. record s { line_spans = ls })
    (ended_more s last _ c.requires literal (rw (← c.self.view_is) c.line-last.ensures) other more)

pub returns-else-not-ends_with-clause-state : goal.returns-else-not-ends_with-clause-state
returns-else-not-ends_with-clause-state c =
    let s = c.args.self.now in
    let last : Place = pair c.line-last.result in
    let literal : s.world.has_source ≡ true = sym c.is_source_literal.ensures
    ∙ c.if-is_source_literal.true in
    let same : ends_with last s.line_spans ≡ true = rw (← c.self.view_is)
    (ap (ends_with last) (sym c.as_slice.ensures) ∙ sym c.ends_with.ensures ∙ search rules) in
    ap (λ ls. record s { line_spans = ls })
    (ended_same s last c.requires literal (rw (← c.self.view_is) c.line-last.ensures) same)
