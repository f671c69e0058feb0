use Rattle.std.proofs.Common.{chars, sym}
use Rattle.std.proofs.lemmas.List.{length-append}
use Rattle.rustc_parse_format.proofs.parser.steps.count_before.Goals as goal

pub returns : goal.returns
returns c =
    let front = c.text_before.ensures c.requires.0 c.requires.1 in
    rw (c.character_count.ensures, front, c.requires.1)
    (sym (length-append c.requires.0 (chars c.args.rest.now)))
