use Rattle.std.proofs.Common.{◌∙◌, ap}
use Rattle.std.specs.Fmt.{is_char_start}
use Rattle.std.specs.List.{count_by}
use Rattle.std.proofs.lemmas.List.{take_all}
use Rattle.rustc_parse_format.proofs.Bytes.CharacterStarts.{count-chars}
use Rattle.rustc_parse_format.proofs.parser.steps.character_count.Goals as goal

pub returns : goal.returns
returns c =
    c.loop-i.invariant
    ∙ (ap (count_by is_char_start)
    (take_all c.loop-i.i c.as_bytes-bytes.result.now c.loop-i-test.false
    ∙ c.as_bytes-bytes.ensures.value)
    ∙ count-chars c.args.text.now c.utf8.text)
