use Rattle.std.proofs.Common.{◌≡◌, ◌∙◌, sym, true, replicate}
use Rattle.rustc_parse_format.specs.Characters.{after_first, begins_with}
use Rattle.rustc_parse_format.specs.LiteralReading.{IsTaken}
use Rattle.rustc_parse_format.proofs.Literals.Prefixes.{opened}
use Rattle.rustc_parse_format.proofs.literal.consume_opening.Goals as goal

pub returns : goal.returns
returns c =
    let first : begins_with 114 c.args.rest.now ≡ true = sym c.next_eq.ensures.value
    ∙ c.if-not-next_eq.false in
    let hashes : IsTaken (replicate c.args.hashes 35)
    (after_first c.args.rest.now) c.consume_hashes.result c.consume_hashes.new.rest =
    rw c.next_eq.ensures.rest at c.consume_hashes.ensures in
    opened c.args.hashes c.args.rest.now c.consume_hashes.new.rest c.next_eq-2.new.self
    c.consume_hashes.result c.next_eq-2.result first hashes
    c.if-not-consume_hashes.false
    c.next_eq-2.ensures.value c.next_eq-2.ensures.rest
