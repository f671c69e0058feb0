use Rattle.std.proofs.Common.{◌≡◌, ◌∙◌, chars, ap, sym, if◌then◌else◌}
use Rattle.rustc_parse_format.specs.Characters.{Text, begins_with, after_first, after_word}
use Rattle.rustc_parse_format.specs.CallStates.{CallState, Remainder}
use Rattle.rustc_parse_format.proofs.Grammar.Rests.{IsRest-le, after_word_rest}
use Rattle.rustc_parse_format.proofs.Readers.Steps.{part_after_word}
use Rattle.rustc_parse_format.proofs.reader.Reader.named_count.Goals as goal

pub rewind-requires-clause-earlier : goal.rewind-requires-clause-earlier
rewind-requires-clause-earlier c =
    let at : ◌≡◌ {A = Text} c.self-2.inside.cursor.rest (after_word c.args.self.now.rest) = ap
    (λ (s : CallState). s.rest)
    (c.self-2.view_is ∙ c.in_ok-name.ensures.reads.state) in
    let none : begins_with 36 c.self-2.inside.cursor.rest ≡ _ = sym c.consume.ensures.value
    ∙ c.if-consume.false in
    let rest_after : ◌≡◌ {A = Text} c.consume.new.self.rest (after_word c.args.self.now.rest) = ap
    (λ (u : Remainder). u.rest) c.consume.ensures.rest
    ∙ ap (λ b. if b then after_first c.self-2.inside.cursor.rest else c.self-2.inside.cursor.rest)
    none ∙ at in
    let front : ◌≡◌ {A = Text} (chars c.checkpoint-front.result.rest.text.now)
    c.args.self.now.rest =
    sym (ap (λ (u : Remainder). u.rest) c.checkpoint-front.ensures.at)
    ∙ ap (λ (s : CallState). s.rest) c.self.view_is in
    rw (rest_after, front) (IsRest-le (after_word_rest c.args.self.now.rest))

pub rewind-requires-clause-word : goal.rewind-requires-clause-word
rewind-requires-clause-word c =
    let at : ◌≡◌ {A = Text} c.self-2.inside.cursor.rest (after_word c.args.self.now.rest) = ap
    (λ (s : CallState). s.rest)
    (c.self-2.view_is ∙ c.in_ok-name.ensures.reads.state) in
    let none : begins_with 36 c.self-2.inside.cursor.rest ≡ _ = sym c.consume.ensures.value
    ∙ c.if-consume.false in
    let rest_after : ◌≡◌ {A = Text} c.consume.new.self.rest (after_word c.args.self.now.rest) = ap
    (λ (u : Remainder). u.rest) c.consume.ensures.rest
    ∙ ap (λ b. if b then after_first c.self-2.inside.cursor.rest else c.self-2.inside.cursor.rest)
    none ∙ at in
    let front : ◌≡◌ {A = Text} (chars c.checkpoint-front.result.rest.text.now)
    c.args.self.now.rest =
    sym (ap (λ (u : Remainder). u.rest) c.checkpoint-front.ensures.at)
    ∙ ap (λ (s : CallState). s.rest) c.self.view_is in
    rw (rest_after, front) (part_after_word c.args.self.now.rest)
