use Rattle.std.proofs.Common.{refl}
use Rattle.std.proofs.Math.Utf8.{encode}
use Rattle.drawn_lines.proofs.glyphs.row_of_spaces.Goals as goal

pub returns : goal.returns
unfolding encode
returns c = refl
