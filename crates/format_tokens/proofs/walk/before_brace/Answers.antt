use Rattle.std.proofs.Common.{arith, ◌<◌}
use Rattle.std.proofs.lemmas.Str.Pattern.{strip_suffix_char}
use Rattle.rustc_parse_format.proofs.Literals.Edges.{chars-last}
use Rattle.format_tokens.proofs.walk.before_brace.Goals as goal

pub returns : goal.returns
returns c =
    let ascii : 125 < 128 = omega arith in
    chars-last 125 c.args.text.now c.strip_suffix.result c.utf8.text ascii
    (strip_suffix_char 125 c.args.text.now c.strip_suffix.result c.strip_suffix.ensures.cases ascii)
