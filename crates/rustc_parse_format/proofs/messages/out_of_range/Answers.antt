use Rattle.std.proofs.Common.{rules}
use Rattle.std.proofs.lemmas.Str.{encodes-chars}
use Rattle.rustc_parse_format.proofs.messages.out_of_range.Goals as goal

pub returns : goal.returns
returns c = rw (encodes-chars c.args.digits.now c.utf8.digits) (search rules)
