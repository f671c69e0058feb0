-- A rule for texts that are put together.
use Rattle.std.proofs.Common.{append_assoc}

pub ruleset assoc = (append_assoc)
