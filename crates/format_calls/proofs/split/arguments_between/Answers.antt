use Rattle.std.proofs.Common.{arith}
use Rattle.format_calls.proofs.Walking.{so-far-end}
use Rattle.format_calls.proofs.split.arguments_between.Goals as goal

pub returns : goal.returns
returns c = so-far-end _ _ _ _ _ (omega arith) c.loop-start.invariant.so_far
