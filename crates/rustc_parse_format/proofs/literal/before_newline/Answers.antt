use Rattle.std.proofs.Common.{arith, ◌<◌}
use Rattle.std.proofs.lemmas.Str.Pattern.{strip_suffix_char}
use Rattle.rustc_parse_format.proofs.Literals.Edges.{chars-last}
use Rattle.rustc_parse_format.proofs.literal.before_newline.Goals as goal

pub returns : goal.returns
returns c =
    let ascii : 10 < 128 = omega arith in
    chars-last 10 c.args.text.now c.strip_suffix.result c.utf8.text ascii
    (strip_suffix_char 10 c.args.text.now c.strip_suffix.result c.strip_suffix.ensures.cases ascii)
