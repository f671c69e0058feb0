use Rattle.std.proofs.Common.{◌≡◌, true, ap, arith, length, rules}
use Rattle.rustc_parse_format.specs.Characters.{begins_with}
use Rattle.rustc_parse_format.specs.CallStates.{Remainder}
use Rattle.rustc_parse_format.proofs.Grammar.Rests.{IsRest-le, after_first_rest}
use Rattle.rustc_parse_format.proofs.Readers.Steps.{at_colon}
use Rattle.rustc_parse_format.proofs.reader.Reader.specification.Goals as goal

pub format-requires-clause-furthest : goal.format-requires-clause-furthest
format-requires-clause-furthest c =
    let t = c.self.inside.cursor.rest in
    let colon : begins_with 58 t ≡ true = search rules in
    omega (
      arith,
      at_colon t colon,
      c.steps_are_few.ensures.word,
      IsRest-le (after_first_rest t),
      ap (λ (u : Remainder). length u.rest) c.skip_char.ensures.rest,
      ap (λ (u : Remainder). u.rewinds.left) c.skip_char.ensures.rest,
    )
