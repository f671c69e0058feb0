use Rattle.std.proofs.Common.{refl}
use Rattle.rustc_parse_format.proofs.Walking.Iteration.{gives_walk}
use Rattle.rustc_parse_format.proofs.parser.Parser.pieces.Goals as goal

pub returns-clause-walk : goal.returns-clause-walk
returns-clause-walk c ps last = gives_walk ps _ last refl
