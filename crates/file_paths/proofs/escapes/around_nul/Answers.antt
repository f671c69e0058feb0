use Rattle.file_paths.proofs.Escaping.{parts-shown}
use Rattle.file_paths.proofs.escapes.around_nul.Goals as goal

pub returns-clause-parts : goal.returns-clause-parts
returns-clause-parts c = parts-shown c.args.text.now c.split_once.result c.split_once.ensures.byte
