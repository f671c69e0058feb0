use Rattle.std.proofs.Common.{◌∙◌, rules, chars, refl, sym}
use Rattle.rustc_parse_format.specs.Characters.{word}
use Rattle.rustc_parse_format.proofs.Grammar.Fronts.{word-rest_after}
use Rattle.rustc_parse_format.proofs.parser.lookahead.Lookahead.word.Goals as goal
use Rattle.rustc_parse_format.proofs.parser.lookahead.Lookahead.word.Goals.{then-is_underscore}
use Rattle.rustc_parse_format.proofs.parser.lookahead.Lookahead.word.Goals.{else-is_underscore}

pub count_before-requires : goal.count_before-requires
count_before-requires c =
    let t = chars c.args.self.now.rest.text.now in
    (word t, rw c.split_word.ensures.rest (word-rest_after t))

pub returns-clause-underscore : goal.returns-clause-underscore
returns-clause-underscore c =
    let test = rw c.split_word.ensures.word at c.is_underscore.ensures in
    elim c.if-is_underscore.branch [
      | then-is_underscore w ↦
          rw (w.underscore-is, sym test ∙ w.if-is_underscore.true) (search rules)
      | else-is_underscore w ↦ rw (w.underscore-is, sym test ∙ w.if-is_underscore.false) refl
    ]
