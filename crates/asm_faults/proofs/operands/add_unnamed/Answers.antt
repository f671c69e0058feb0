use Rattle.std.proofs.Common.{refl}
use Rattle.asm_faults.specs.declared.operands.Operand.TheVariants.{Unnamed as UnnamedIn}
use Rattle.asm_faults.proofs.Holding.{Holds-nameless, with-none}
use Rattle.asm_faults.proofs.operands.add_unnamed.Goals as goal

pub returns-clause-held : goal.returns-clause-held
returns-clause-held c = λ ss h. Holds-nameless ss c.args.operands.now _ UnnamedIn h
    (λ t. refl) refl c.in_ok-push.ensures.items refl refl
    (with-none c.args.operands.now.registers.items)
