use Rattle.std.proofs.lemmas.Str.Pattern.{strip_suffix_char}
use Rattle.rustc_parse_format.proofs.Literals.Edges.{chars-last}
use Rattle.piece_listing.proofs.literal.without_last.Goals as goal

pub returns-clause-front : goal.returns-clause-front
returns-clause-front c =
    chars-last c.args.c c.args.text.now c.strip_suffix.result c.utf8.text c.requires
    (strip_suffix_char c.args.c c.args.text.now c.strip_suffix.result c.strip_suffix.ensures.cases
    c.requires)
