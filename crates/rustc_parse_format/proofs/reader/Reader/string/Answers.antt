use Rattle.std.proofs.Common.{◌≡◌, ◌++◌, ◌∙◌, ap, sym}
use Rattle.rustc_parse_format.specs.Characters.{Text, front, rest_after, is_no_brace}
use Rattle.rustc_parse_format.specs.CallStates.{CallState, Remainder}
use Rattle.rustc_parse_format.proofs.Grammar.Fronts.{front-rest_after}
use Rattle.rustc_parse_format.proofs.reader.Reader.string.Goals as goal

pub text_since-requires : goal.text_since-requires
text_since-requires c =
    let t : Text = c.args.self.now.rest in
    let left : ◌≡◌ {A = Text} c.self-2.inside.cursor.rest (rest_after is_no_brace t) =
    ap (λ (s : CallState). s.rest) (c.self-2.view_is ∙ c.in_ok-skip_string.ensures.reads.state) in (
      front is_no_brace t,
      sym (ap (λ (u : Remainder). u.rest) c.checkpoint-from.ensures.at)
          ∙ (ap (λ (s : CallState). s.rest) c.self.view_is
          ∙ (front-rest_after is_no_brace t ∙ ap (λ (u : Text). front is_no_brace t
          ++ u) (sym left))),
    )

pub returns-clause-value : goal.returns-clause-value
returns-clause-value c =
    let t : Text = c.args.self.now.rest in
    let left : ◌≡◌ {A = Text} c.self-2.inside.cursor.rest (rest_after is_no_brace t) =
    ap (λ (s : CallState). s.rest) (c.self-2.view_is ∙ c.in_ok-skip_string.ensures.reads.state) in
    c.text_since.ensures (front is_no_brace t)
    (sym (ap (λ (u : Remainder). u.rest) c.checkpoint-from.ensures.at)
    ∙ (ap (λ (s : CallState). s.rest) c.self.view_is
    ∙ (front-rest_after is_no_brace t ∙ ap (λ (u : Text). front is_no_brace t ++ u) (sym left))))
