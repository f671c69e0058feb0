use Rattle.std.proofs.Common.{◌≡◌, ◌∙◌, None, Some, chars, refl, sym}
use Rattle.asm_faults.specs.Operands.{index_of}
use Rattle.asm_faults.specs.declared.operands.Operand.TheVariants.{Named as NamedIn}
use Rattle.asm_faults.specs.declared.operands.Operand.TheVariants.{Unnamed as UnnamedIn}
use Rattle.asm_faults.proofs.Holding.{Holds-named, Holds-nameless, with-none}
use Rattle.asm_faults.proofs.operands.add_named.Goals as goal

pub returns-in_ok-push-in-Some-2-clause-held : goal.returns-in_ok-push-in-Some-2-clause-held
returns-in_ok-push-in-Some-2-clause-held c = λ ss h k.
    let known : index_of ss (chars c.args.name.now) ≡ Some c.in-Some.first_operand
    = sym (h.names (chars c.args.name.now)) ∙ sym c.index_of.ensures ∙ c.in-Some.is in
    rw known (Holds-nameless ss c.args.operands.now _ UnnamedIn h (λ t. refl) refl
    c.in_ok-push-in-Some-2.ensures.items refl refl
    (with-none c.args.operands.now.registers.items))

pub returns-in_ok-push-in-None-2-clause-held : goal.returns-in_ok-push-in-None-2-clause-held
returns-in_ok-push-in-None-2-clause-held c = λ ss h k.
    let none : index_of ss (chars c.args.name.now) ≡ None
    = sym (h.names (chars c.args.name.now)) ∙ sym c.index_of.ensures ∙ c.in-None.is in
    rw none (Holds-named ss c.args.operands.now _ (NamedIn c.args.name) c.args.name c.args.index h
    refl k none c.in_ok-push-in-None-2.ensures.items c.in_ok-insert-in-None.ensures
    c.in_ok-push-in-None.ensures.items refl)
