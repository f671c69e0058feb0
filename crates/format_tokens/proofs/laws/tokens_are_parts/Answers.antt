use Rattle.std.proofs.Common.{ap, false}
use Rattle.rustc_parse_format.specs.Types.{wants_names}
use Rattle.format_tokens.specs.Culprits.{marked_tokens}
use Rattle.format_tokens.proofs.Writing.{reads-written, written-tokens}
use Rattle.format_tokens.proofs.laws.tokens_are_parts.Goals as goal

pub returns-clause-written : goal.returns-clause-written
returns-clause-written c mode t xs h =
    ap (marked_tokens (wants_names mode) false) (written-tokens mode t xs h)

pub returns-clause-reading : goal.returns-clause-reading
returns-clause-reading c = λ mode t ps h. reads-written mode 0 t ps h
