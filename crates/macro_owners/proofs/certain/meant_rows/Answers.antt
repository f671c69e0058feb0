use Rattle.std.proofs.Common.{◌∙◌, ap, if◌then◌else◌, map}
use Rattle.std.specs.List.{filter}
use Rattle.std.proofs.lemmas.List.{take_all}
use Rattle.format_calls.specs.Rows.{entry}
use Rattle.macro_owners.specs.Owners.{is_certain, is_likely, names_of}
use Rattle.macro_owners.proofs.certain.meant_rows.Goals as goal

pub returns : goal.returns
returns c = c.loop-row.invariant
    ∙ ap (λ rs. filter (λ e. (if c.args.certainly then is_certain else is_likely)
    (names_of c.args.package_facts.now) (names_of c.args.file_facts.now) e.name) (map entry rs))
    (take_all c.loop-row.row-index c.args.rows.now c.loop-row-test.false)
