use Rattle.std.proofs.Common.{◌++◌, ◌∙◌, ◌∷◌, [], ℕ, ap, refl}
use Rattle.asm_faults.specs.declared.operands.Operand.TheVariants.{Register as RegisterIn}
use Rattle.asm_faults.proofs.Holding.{Holds-nameless}
use Rattle.asm_faults.proofs.operands.add_register.Goals as goal

pub returns-clause-held : goal.returns-clause-held
returns-clause-held c = λ ss h k. Holds-nameless ss c.args.operands.now _
    (RegisterIn c.args.has_name) h (λ t. refl) refl c.in_ok-push-3.ensures.items refl refl
    (c.in_ok-push-2.ensures.items
    ∙ ap (λ (n : ℕ). c.args.operands.now.registers.items ++ n ∷ []) k)
