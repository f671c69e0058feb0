use Rattle.std.proofs.Common.{chars}
use Rattle.rustc_parse_format.specs.Literal.{raw_opening}
use Rattle.rustc_parse_format.specs.LiteralReading.{IsTaken}
use Rattle.rustc_parse_format.proofs.Literals.Prefixes.{not_opened, no_text, not_closed, closed}
use Rattle.rustc_parse_format.proofs.literal.is_raw_literal.Goals as goal

pub returns-then-not-consume_opening : goal.returns-then-not-consume_opening
returns-then-not-consume_opening c =
    let opened : IsTaken (raw_opening c.args.hashes)
    (chars c.args.snippet.now) c.consume_opening.result c.consume_opening.new.rest =
    rw c.new-rest.ensures at c.consume_opening.ensures in
    not_opened c.args.hashes (chars c.args.text.now)
    (chars c.args.snippet.now) _ _ opened c.if-not-consume_opening.true

pub returns-then-not-consume_text : goal.returns-then-not-consume_text
returns-then-not-consume_text c =
    let opened : IsTaken (raw_opening c.args.hashes)
    (chars c.args.snippet.now) c.consume_opening.result c.consume_opening.new.rest =
    rw c.new-rest.ensures at c.consume_opening.ensures in
    no_text c.args.hashes (chars c.args.text.now)
    (chars c.args.snippet.now) _ _ _ _ opened c.if-not-consume_opening.false c.consume_text.ensures
    c.if-not-consume_text.true

pub returns-else-consume_closing : goal.returns-else-consume_closing
returns-else-consume_closing c =
    let opened : IsTaken (raw_opening c.args.hashes)
    (chars c.args.snippet.now) c.consume_opening.result c.consume_opening.new.rest =
    rw c.new-rest.ensures at c.consume_opening.ensures in
    not_closed c.args.hashes (chars c.args.text.now)
    (chars c.args.snippet.now) _ _ _ _ _ _ opened c.if-not-consume_opening.false
    c.consume_text.ensures c.if-not-consume_text.false
    c.consume_closing.ensures c.if-consume_closing.false

pub returns-then-consume_closing : goal.returns-then-consume_closing
returns-then-consume_closing c =
    let opened : IsTaken (raw_opening c.args.hashes)
    (chars c.args.snippet.now) c.consume_opening.result c.consume_opening.new.rest =
    rw c.new-rest.ensures at c.consume_opening.ensures in
    closed c.args.hashes (chars c.args.text.now)
    (chars c.args.snippet.now) _ _ _ _ _ _ _ opened c.if-not-consume_opening.false
    c.consume_text.ensures c.if-not-consume_text.false
    c.consume_closing.ensures c.if-consume_closing.true c.is_empty.ensures
