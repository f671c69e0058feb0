use Rattle.std.proofs.Common.{◌||◌, ◌∷◌, [], ap, sym, ◌∙◌}
use Rattle.std.specs.Prelude.{option_map}
use Rattle.rust_trees.specs.Leaves.{leaf}
use Rattle.source_lint.specs.Macros.{names_in}
use Rattle.source_lint.proofs.Defining.{defined-here, has, has-added}
use Rattle.source_lint.proofs.macros.put_definition.Goals as goal

pub returns-in_ok-insert : goal.returns-in_ok-insert
returns-in_ok-insert c = λ n. has-added c.args.names.now c.insert.new.self c.word.result
    c.in_ok-insert.ensures.updates n
    ∙ ap (λ ws. has (names_in c.args.names.now) n || has ws n)
    (ap (λ v. v ∷ []) c.word.ensures ∙ sym (defined-here (option_map leaf c.args.previous)
    (option_map leaf c.args.last) (leaf c.args.token.now)
    (sym c.begins_definition.ensures ∙ c.if-begins_definition.true)
    (sym c.is_word.ensures ∙ c.if-is_word.true)))
