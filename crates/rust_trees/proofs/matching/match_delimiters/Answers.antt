use Rattle.std.proofs.Common.{refl}
use Rattle.rust_trees.proofs.Matches.{matched-nothing}
use Rattle.rust_trees.proofs.matching.match_delimiters.Goals as goal

pub loop-token-init : goal.loop-token-init
loop-token-init c = matched-nothing _ c.new.ensures.items c.new-2.ensures.items refl
