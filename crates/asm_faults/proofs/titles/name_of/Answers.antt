use Rattle.std.proofs.lemmas.Str.{chars-nil}
use Rattle.asm_faults.proofs.titles.name_of.Goals as goal

pub returns-in-None : goal.returns-in-None
returns-in-None c = rw (← c.in-None.ensures) chars-nil
