use Rattle.rustc_parse_format.specs.Views.{seen_mode}
use Rattle.flat_reading.proofs.Escaped.{found}
use Rattle.flat_reading.proofs.texts.texts_at.Goals as goal

pub name_extent-requires : goal.name_extent-requires
name_extent-requires c =
    (found c.args.input.now c.range_from.result.now (seen_mode c.args.mode) c.args.start
    c.args.next c.in_ok-parser.parser c.set_curarg.new.self c.requires.read.0
    c.next_into.new.argument c.in_ok-_next._next.piece c.utf8.input c.requires.read.1
    c.range_from.ensures.value c.in_ok-parser.ensures.start c.set_curarg.ensures.state
    c.in_ok-_next.ensures.piece).stands.position

pub spec_texts-requires : goal.spec_texts-requires
spec_texts-requires c =
    (found c.args.input.now c.range_from.result.now (seen_mode c.args.mode) c.args.start
    c.args.next c.in_ok-parser.parser c.set_curarg.new.self c.requires.read.0
    c.next_into.new.argument c.in_ok-_next._next.piece c.utf8.input c.requires.read.1
    c.range_from.ensures.value c.in_ok-parser.ensures.start c.set_curarg.ensures.state
    c.in_ok-_next.ensures.piece).stands.format

pub returns : goal.returns
returns c = λ a read.
    (found c.args.input.now c.range_from.result.now (seen_mode c.args.mode) c.args.start
    c.args.next c.in_ok-parser.parser c.set_curarg.new.self a
    c.next_into.new.argument c.in_ok-_next._next.piece c.utf8.input read
    c.range_from.ensures.value c.in_ok-parser.ensures.start c.set_curarg.ensures.state
    c.in_ok-_next.ensures.piece).same
    (record { name = c.name_extent.result; format = c.spec_texts.result })
    c.name_extent.ensures c.spec_texts.ensures
