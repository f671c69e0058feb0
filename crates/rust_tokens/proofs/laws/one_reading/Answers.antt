use Rattle.rust_tokens.proofs.FileLaws.{file-once}
use Rattle.rust_tokens.proofs.Readings.{reads-once}
use Rattle.rust_tokens.proofs.laws.one_reading.Goals as goal

pub returns : goal.returns
returns c = record { text = reads-once; file = file-once }
