use Rattle.std.proofs.Common.{chars}
use Rattle.rustc_parse_format.proofs.Sources.Unescaped.{here_inside}
use Rattle.rustc_parse_format.proofs.source.anchor.Anchor.new.Goals as goal

pub unescaped_width-requires : goal.unescaped_width-requires
unescaped_width-requires c = here_inside c.args.snippet.now c.requires.0
    (chars c.args.rest.now) c.args.offset c.requires.1
