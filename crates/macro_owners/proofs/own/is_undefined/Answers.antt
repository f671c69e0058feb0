use Rattle.std.proofs.Common.{◌∙◌, ap, map, sym}
use Rattle.std.proofs.lemmas.Bool.{both_ways}
use Rattle.rust_trees.specs.Leaves.{leaf}
use Rattle.format_calls.specs.Marks.{is_mark}
use Rattle.macro_owners.proofs.Owning.{IsUnlike, each-all, each-more, each-none, undefined-all}
use Rattle.macro_owners.proofs.own.is_undefined.Goals as goal
use Rattle.macro_owners.proofs.own.is_undefined.Goals.{
  else-is_definition-via-else-is_definition,
  else-is_definition-via-then-is_definition+else-is_same_word,
}

pub loop-given-init : goal.loop-given-init
loop-given-init c = each-none (IsUnlike (map leaf c.args.tokens.now) c.args.name) c.args.names.now

pub loop-given-preserved : goal.loop-given-preserved
loop-given-preserved c =
    let xs = map leaf c.args.tokens.now in
    each-more (IsUnlike xs c.args.name) c.args.names.now
    c.loop-given.given-index _ c.loop-given-test.true (elim c.else-is_definition.branch [
      | else-is_definition-via-then-is_definition+else-is_same_word w ↦ λ m.
          sym w.is_same_word.ensures ∙ w.if-is_same_word.false
      | else-is_definition-via-else-is_definition w ↦ λ m.
          absurd (both_ways _ (ap (λ k. is_mark 33 xs k) (sym c.saturating_sub.ensures)
          ∙ (sym c.is_mark-is_definition.ensures.value ∙ w.if-is_definition.false)) m)
    ]) c.loop-given.invariant

pub returns : goal.returns
returns c = λ t i.
    let xs = map leaf c.args.tokens.now in
    let gs = c.args.names.now in
    undefined-all c.requires.0 xs gs c.args.name i c.requires.1
    (λ g m. each-all (IsUnlike xs c.args.name) gs c.loop-given.given-index g c.loop-given-test.false
    c.loop-given.invariant m)
