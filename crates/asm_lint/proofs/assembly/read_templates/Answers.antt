use Rattle.std.proofs.Common.{[], List, map, subst, sym}
use Rattle.std.proofs.lemmas.List.{append-nil, drop_all}
use Rattle.rust_trees.specs.Leaves.{leaf}
use Rattle.format_calls.specs.declared.split.Argument.{Argument}
use Rattle.asm_lint.specs.Assembly.{AreTemplates, seen_read}
use Rattle.asm_lint.proofs.assembly.read_templates.Goals as goal

pub returns-clause-read : goal.returns-clause-read
returns-clause-read c =
    let xs = map leaf c.args.tokens.now in
    let all = c.args.arguments.now in
    let i = c.loop-argument.argument-index in
    subst (λ v. AreTemplates xs all v) (append-nil (map seen_read c.loop-argument.templates.items))
    (c.loop-argument.invariant.read [] (subst (λ (v : List Argument). AreTemplates xs v [])
    (sym (drop_all i all c.loop-argument-test.false)) tt))
