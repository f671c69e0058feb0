use Rattle.std.proofs.Common.{chars}
use Rattle.rustc_parse_format.specs.Characters.{front}
use Rattle.rustc_parse_format.specs.Classes.{passes}
use Rattle.rustc_parse_format.proofs.Grammar.Fronts.{front-rest_after}
use Rattle.rustc_parse_format.proofs.parser.lookahead.Lookahead.skip_while.Goals as goal

pub count_before-requires : goal.count_before-requires
count_before-requires c =
    let t = chars c.args.self.now.rest.text.now in (
      front (passes c.args.class) t,
      rw c.after_while-rest.ensures.rest (front-rest_after (passes c.args.class) t),
    )
