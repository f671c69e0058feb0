use Rattle.std.proofs.Common.{◌≡◌, ◌∙◌, [], List, ap, inr, map, subst}
use Rattle.asm_faults.specs.Calls.{asm_faults}
use Rattle.asm_faults.specs.Operands.{Operand, slots_after}
use Rattle.asm_faults.specs.Views.{seen_operand, seen_template}
use Rattle.asm_faults.specs.Templates.{Template}
use Rattle.asm_lint.specs.AsmFindings.{TellAllAsm, counted_asm}
use Rattle.asm_lint.specs.Assembly.{read_templates, seen_read}
use Rattle.asm_lint.proofs.assembly.read_literals.Goals as goal

pub returns-clause-read : goal.returns-clause-read
returns-clause-read c =
    let t = c.in_ok-check_call.ensures.outcome in
    let whole = c.args.is_whole in
    let raw = c.args.operands.now.are_raw in
    let ts = map seen_read c.in-Some.template_list.items in
    let given = map seen_operand c.deref-5.result.now in
    let list : map seen_template c.deref-4.result.now ≡ read_templates raw ts =
    ap (map seen_template) c.deref-4.ensures.value ∙ (c.in_ok-list.ensures.seen
    ∙ ap (λ v. read_templates raw (map seen_read v)) c.deref-3.ensures.value) in
    let operands : given ≡ map seen_operand c.args.operands.now.list.items =
    ap (map seen_operand) c.deref-5.ensures.value in (
      t.0,
      t.1,
      inr (
        ts,
        rw c.in-Some.is at c.in_ok-template_list.ensures.read,
        (
          c.reading_of.ensures,
          subst (λ (os : List Operand). TellAllAsm (slots_after [] os)
              (counted_asm whole (asm_faults (read_templates raw ts) os)) t.0) operands
              (subst (λ (v : List Template). TellAllAsm (slots_after [] given)
              (counted_asm whole (asm_faults v given)) t.0) list t.2),
        ),
      ),
    )
