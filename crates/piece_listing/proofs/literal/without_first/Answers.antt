use Rattle.std.proofs.lemmas.Str.Pattern.{strip_prefix_char}
use Rattle.rustc_parse_format.proofs.Literals.Edges.{chars-first}
use Rattle.piece_listing.proofs.literal.without_first.Goals as goal

pub returns-clause-rest : goal.returns-clause-rest
returns-clause-rest c =
    chars-first c.args.c c.args.text.now c.strip_prefix.result c.utf8.text c.requires
    (strip_prefix_char c.args.c c.args.text.now c.strip_prefix.result c.strip_prefix.ensures.cases
    c.requires)
