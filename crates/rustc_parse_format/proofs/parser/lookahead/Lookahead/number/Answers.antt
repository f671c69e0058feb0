use Rattle.std.proofs.Common.{◌∙◌, rules, chars, refl, sym}
use Rattle.rustc_parse_format.specs.Characters.{digits}
use Rattle.rustc_parse_format.proofs.Grammar.Fronts.{digits-rest_after}
use Rattle.rustc_parse_format.proofs.parser.lookahead.Lookahead.number.Goals as goal
use Rattle.rustc_parse_format.proofs.parser.lookahead.Lookahead.number.Goals.{then-is_over}
use Rattle.rustc_parse_format.proofs.parser.lookahead.Lookahead.number.Goals.{else-is_over}

pub count_before-requires : goal.count_before-requires
count_before-requires c =
    let t = chars c.args.self.now.rest.text.now in
    (digits t, rw c.leading_number-number.ensures.rest (digits-rest_after t))

pub text_before-requires : goal.text_before-requires
text_before-requires c =
    let t = chars c.args.self.now.rest.text.now in
    (digits t, rw c.leading_number-number.ensures.rest (digits-rest_after t))

pub returns-clause-over : goal.returns-clause-over
returns-clause-over c =
    let t = chars c.args.self.now.rest.text.now in
    let test = c.leading_number-number.ensures.over in
    elim c.if-is_over.branch [
      | then-is_over w ↦
          let read = w.text_before.ensures (digits t)
          (rw c.leading_number-number.ensures.rest (digits-rest_after t)) in
          rw (w.over-is, sym test ∙ w.if-is_over.true) (search rules)
      | else-is_over w ↦ rw (w.over-is, sym test ∙ w.if-is_over.false) refl
    ]
