use Rattle.std.proofs.Common.{sym, ◌∙◌}
use Rattle.flat_reading.proofs.Walking.{end_stays}
use Rattle.flat_reading.proofs.end.end.Goals as goal

pub returns-else-is_source_literal : goal.returns-else-is_source_literal
returns-else-is_source_literal c =
    end_stays c.args.parser.now c.requires
    (sym c.is_source_literal.ensures ∙ c.if-is_source_literal.false)
