use Rattle.std.proofs.Common.{◌∙◌, ap, map}
use Rattle.std.specs.List.{filter}
use Rattle.format_calls.specs.Rows.{entry}
use Rattle.macro_owners.specs.Owners.{is_likely, names_of}
use Rattle.macro_owners.proofs.certain.likely_table.Goals as goal

pub returns : goal.returns
returns c = c.in_ok-rows.ensures
    ∙ ap (λ rs. filter (λ e. is_likely (names_of c.args.package_facts.now)
    (names_of c.args.file_facts.now) e.name) (map entry rs)) c.deref.ensures.value
