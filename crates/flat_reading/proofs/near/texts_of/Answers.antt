use Rattle.rustc_parse_format.specs.Views.{seen_argument, seen_mode}
use Rattle.flat_reading.proofs.Escaped.{listed}
use Rattle.flat_reading.proofs.near.texts_of.Goals as goal

pub near_texts-requires : goal.near_texts-requires
near_texts-requires c = λ none.
    listed c.args.input.now (seen_mode c.args.mode) c.args.next c.args.start
    (seen_argument c.args.argument.now) c.requires.read none

pub returns-in_ok-texts_at-in-None : goal.returns-in_ok-texts_at-in-None
returns-in_ok-texts_at-in-None c =
    c.in_ok-texts_at-in-None.ensures (seen_argument c.args.argument.now) c.requires.read
