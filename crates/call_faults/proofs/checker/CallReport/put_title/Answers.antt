use Rattle.std.proofs.Common.{◌++◌, ◌∙◌, ap, string_bytes, sym}
use Rattle.call_faults.specs.declared.faults.CallFault.{CallFault}
use Rattle.call_faults.specs.Views.{seen_fault, title_parts}
use Rattle.call_faults.specs.Words.{title}
use Rattle.call_faults.proofs.checker.CallReport.put_title.Goals as goal

pub returns-in_ok-put_named-in-MissingName : goal.returns-in_ok-put_named-in-MissingName
unfolding title
returns-in_ok-put_named-in-MissingName c = λ r h. c.in_ok-put_named-in-MissingName.ensures
    ∙ ap (λ (f : CallFault). string_bytes c.args.out.now
    ++ title (title_parts c.args.self.now r.missing_index) (seen_fault f)) (sym c.in-MissingName.is)

pub returns-in_ok-put_named-in-UnknownTrait : goal.returns-in_ok-put_named-in-UnknownTrait
unfolding title
returns-in_ok-put_named-in-UnknownTrait c = λ r h. c.in_ok-put_named-in-UnknownTrait.ensures
    ∙ ap (λ (f : CallFault). string_bytes c.args.out.now
    ++ title (title_parts c.args.self.now r.missing_index) (seen_fault f)) (sym
    c.in-UnknownTrait.is)

pub returns-in_ok-put_missing-in-MissingArguments
    : goal.returns-in_ok-put_missing-in-MissingArguments
unfolding title
returns-in_ok-put_missing-in-MissingArguments c = λ r h.
    c.in_ok-put_missing-in-MissingArguments.ensures r h
    ∙ ap (λ (f : CallFault). string_bytes c.args.out.now
    ++ title (title_parts c.args.self.now r.missing_index) (seen_fault f)) (sym
    c.in-MissingArguments.is)
