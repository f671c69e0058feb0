-- A drawing without its colours is the one without colours, and a terminal obeys no character of
-- that, but for line feeds.
use Rattle.std.proofs.Common.{◌≡◌, false, true, Bool, ap, subst, sym}
use Rattle.rustc_parse_format.specs.Faults.{Message}
use Rattle.rustc_parse_format.specs.Types.{Mode}
use Rattle.rustc_parse_format.specs.World.{Place}
use Rattle.drawn_faults.specs.Drawing.{diagnostic_of, drawing}
use Rattle.drawn_faults.proofs.HarmlessDiagnostics.{diagnostic-coloured, diagnostic-harmless}
use Rattle.drawn_lines.specs.Painting.{IsColourOf, IsHarmlessWith}
use Rattle.drawn_lines.specs.Places.{Picture, without_colours}

pub drawing-coloured : (mode : Mode) (p : Picture) (m : Message Place)
    → IsColourOf (drawing mode p m) (drawing mode (without_colours p) m)
unfolding drawing
drawing-coloured mode p m = diagnostic-coloured p (diagnostic_of mode m)

pub drawing-harmless : (mode : Mode) (p : Picture) (m : Message Place)
    → IsHarmlessWith p.colours (drawing mode p m)
unfolding drawing
drawing-harmless mode p m = diagnostic-harmless p (diagnostic_of mode m)

-- what `put_drawing` needs
pub ruleset harmless_drawing = (drawing-coloured, drawing-harmless)
