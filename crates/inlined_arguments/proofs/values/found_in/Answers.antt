use Rattle.std.proofs.Common.{◌∙◌, ap}
use Rattle.std.proofs.lemmas.Str.{encodes-chars}
use Rattle.std.specs.Prelude.{option_map}
use Rattle.inlined_arguments.specs.Views.{seen_value}
use Rattle.inlined_arguments.proofs.values.found_in.Goals as goal

pub returns : goal.returns
returns c = rw (encodes-chars c.args.name.now c.utf8.name)
    (ap (option_map seen_value) (c.copied.ensures ∙ c.get.ensures.value))
