use Rattle.std.proofs.Common.{◌≡◌, true, ap, arith, length, rules}
use Rattle.rustc_parse_format.specs.Characters.{begins_with, after_first}
use Rattle.rustc_parse_format.specs.CallStates.{CallState, Remainder}
use Rattle.rustc_parse_format.proofs.Grammar.Rests.{IsRest-le, after_first_rest}
use Rattle.rustc_parse_format.proofs.Readers.Steps.{at_dot}
use Rattle.rustc_parse_format.proofs.reader.Reader.precision.Goals as goal

pub count-requires-clause-furthest : goal.count-requires-clause-furthest
count-requires-clause-furthest c =
    let t = c.self.inside.cursor.rest in
    let dot : begins_with 46 t ≡ true = search rules in
    omega (
      arith,
      at_dot t dot,
      c.steps_are_few.ensures.word,
      IsRest-le (after_first_rest t),
      ap (λ (s : CallState). length (after_first s.rest)) c.self.view_is,
      ap (λ (s : CallState). s.rewinds.left) c.self.view_is,
      ap (λ (u : Remainder). length u.rest) c.skip_char.ensures.rest,
      ap (λ (u : Remainder). u.rewinds.left) c.skip_char.ensures.rest,
    )
