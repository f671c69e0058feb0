use Rattle.std.proofs.Common.{◌++◌, ◌∙◌, ap, map, string_bytes, sym}
use Rattle.asm_faults.specs.declared.faults.AsmFault.{AsmFault}
use Rattle.asm_faults.specs.Views.{seen_fault, seen_operand}
use Rattle.asm_faults.specs.Words.{title}
use Rattle.asm_faults.proofs.checker.AsmCall.put_title.Goals as goal

pub returns-in_ok-put_named-in-MissingName : goal.returns-in_ok-put_named-in-MissingName
unfolding title
returns-in_ok-put_named-in-MissingName c = c.in_ok-put_named-in-MissingName.ensures
    ∙ ap (λ (f : AsmFault). string_bytes c.args.out.now
    ++ title (map seen_operand c.args.self.now.operands.items) (seen_fault f))
    (sym c.in-MissingName.is)
