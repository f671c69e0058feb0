use Rattle.std.proofs.Common.{◌∙◌, ◌++◌, ap, map, reverse}
use Rattle.std.proofs.lemmas.List.{map-append}
use Rattle.rustc_parse_format.specs.Views.{seen_error}
use Rattle.fault_fixes.proofs.ErrorLists.{map-reverse}
use Rattle.fault_fixes.proofs.errors.into_list.Goals as goal

pub returns : goal.returns
returns c =
    let front_errors = c.args.errors.front_errors.items in
    let back_errors = c.args.errors.back_errors.items in
    ap (map seen_error) (c.in_ok-append.ensures.items
    ∙ ap (λ es. es ++ back_errors) c.reverse.ensures.items)
    ∙ map-append seen_error (reverse front_errors) back_errors
    ∙ ap (λ es. es ++ map seen_error back_errors) (map-reverse seen_error front_errors)
