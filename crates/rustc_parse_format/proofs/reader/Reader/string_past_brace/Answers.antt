use Rattle.std.proofs.Common.{◌≡◌, ◌++◌, ◌∙◌, ap, sym}
use Rattle.rustc_parse_format.specs.Characters.{Text, front, rest_after, is_no_brace, after_first}
use Rattle.rustc_parse_format.specs.Characters.{with_first}
use Rattle.rustc_parse_format.specs.CallStates.{CallState, Remainder}
use Rattle.rustc_parse_format.proofs.Grammar.Fronts.{first-rest_after}
use Rattle.rustc_parse_format.proofs.reader.Reader.string_past_brace.Goals as goal

pub text_since-requires : goal.text_since-requires
text_since-requires c =
    let t : Text = c.args.self.now.rest in
    let read : Text = with_first t (front is_no_brace (after_first t)) in
    let left : ◌≡◌ {A = Text} c.self-2.inside.cursor.rest (rest_after is_no_brace (after_first t)) =
    (ap (λ (s : CallState). s.rest) (c.self-2.view_is ∙ c.in_ok-skip_string.ensures.reads.state)
    ∙ ap (rest_after is_no_brace)
    (ap (λ (u : Remainder). u.rest) c.skip_char.ensures.rest
    ∙ ap (λ (s : CallState). after_first s.rest) c.self.view_is)) in (
      read,
      sym (ap (λ (u : Remainder). u.rest) c.checkpoint-from.ensures.at)
          ∙ (ap (λ (s : CallState). s.rest) c.self.view_is
          ∙ (first-rest_after is_no_brace t ∙ ap (λ (u : Text). read ++ u) (sym left))),
    )

pub returns-clause-value : goal.returns-clause-value
returns-clause-value c =
    let t : Text = c.args.self.now.rest in
    let read : Text = with_first t (front is_no_brace (after_first t)) in
    let left : ◌≡◌ {A = Text} c.self-2.inside.cursor.rest (rest_after is_no_brace (after_first t)) =
    (ap (λ (s : CallState). s.rest) (c.self-2.view_is ∙ c.in_ok-skip_string.ensures.reads.state)
    ∙ ap (rest_after is_no_brace)
    (ap (λ (u : Remainder). u.rest) c.skip_char.ensures.rest
    ∙ ap (λ (s : CallState). after_first s.rest) c.self.view_is)) in
    c.text_since.ensures read (sym (ap (λ (u : Remainder). u.rest) c.checkpoint-from.ensures.at)
    ∙ (ap (λ (s : CallState). s.rest) c.self.view_is
    ∙ (first-rest_after is_no_brace t ∙ ap (λ (u : Text). read ++ u) (sym left))))
