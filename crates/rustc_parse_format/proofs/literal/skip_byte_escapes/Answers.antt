use Rattle.std.proofs.Common.{◌≡◌, ◌∷◌, [], true, refl, ap}
use Rattle.std.proofs.lemmas.Bool.{eq-eqb}
use Rattle.rustc_parse_format.specs.Characters.{begins_with, after_first}
use Rattle.rustc_parse_format.proofs.Literals.Ends.{ends-after, ends-unit}
use Rattle.rustc_parse_format.proofs.Literals.Meanings.{meaning-shorter}
use Rattle.rustc_parse_format.proofs.literal.skip_byte_escapes.Goals as goal

pub loop-byte-smaller : goal.loop-byte-smaller
loop-byte-smaller c =
    rw c.new.ensures (meaning-shorter c.loop-byte.rest (c.in-Some.byte ∷ []) _
    (rw c.text.ensures at c.in-Some.ensures.meaning))

pub loop-byte-preserved : goal.loop-byte-preserved
loop-byte-preserved c =
    let expected : c.loop-byte.expected ≡ c.in-Some.byte ∷ c.consume_ascii.new.self =
    c.consume_ascii.ensures.yes c.if-not-consume_ascii.false in
    let agrees : begins_with c.in-Some.byte c.loop-byte.expected
    ≡ true = rw expected (eq-eqb c.in-Some.byte c.in-Some.byte refl) in
    rw (c.new.ensures, ← ap after_first expected) (ends-after _ _ _ _ _ _ c.loop-byte.invariant
    (ends-unit c.loop-byte.rest _ c.loop-byte.expected c.in-Some.byte
    (rw c.text.ensures at c.in-Some.ensures.meaning) agrees))
