use Rattle.rust_tokens.proofs.FileLaws.{file-some}
use Rattle.rust_tokens.proofs.Readings.{reads-some}
use Rattle.rust_tokens.proofs.laws.every_text_reads.Goals as goal

pub returns : goal.returns
returns c = record { text = reads-some; file = file-some }
