use Rattle.std.proofs.Common.{arith}
use Rattle.std.proofs.lemmas.Grind.{common_steps}
use Rattle.drawn_lines.proofs.GlyphLemmas.{run-more}
use Rattle.drawn_lines.proofs.glyphs.put_run.Goals as goal

pub loop-preserved : goal.loop-preserved
loop-preserved c = grind (arith, common_steps, run-more)
