use Rattle.std.proofs.Common.{refl}
use Rattle.std.proofs.lemmas.Bool.{eq-eqb}
use Rattle.rustc_parse_format.proofs.Sources.PlainPlaces.{width_chars}
use Rattle.flat_reading.proofs.texts.run_extent.Goals as goal

pub returns : goal.returns
returns c = λ input last.
    rw (eq-eqb c.args.read c.args.read refl, c.saturating_sub.ensures)
    (rw (width_chars c.args.text.now c.utf8.text) at last)
