use Rattle.std.proofs.Common.{◌∙◌, map, sym}
use Rattle.std.proofs.lemmas.Bool.{both_ways}
use Rattle.rust_trees.specs.Leaves.{leaf}
use Rattle.macro_owners.proofs.Owning.{IsOther, alone-all, each-all, each-more, each-none}
use Rattle.macro_owners.proofs.own.is_alone.Goals as goal
use Rattle.macro_owners.proofs.own.is_alone.Goals.{
  else-given-name-via-else-given-name,
  else-given-name-via-then-given-name+else-is_same_word,
}

pub loop-given-init : goal.loop-given-init
loop-given-init c = each-none (IsOther (map leaf c.args.tokens.now) c.args.name) c.args.names.now

pub loop-given-preserved : goal.loop-given-preserved
loop-given-preserved c =
    each-more (IsOther (map leaf c.args.tokens.now) c.args.name) c.args.names.now
    c.loop-given.given-index _ c.loop-given-test.true (elim c.else-given-name.branch [
      | else-given-name-via-then-given-name+else-is_same_word w ↦ λ s.
          absurd (both_ways _ (sym w.is_same_word.ensures ∙ w.if-is_same_word.false) s)
      | else-given-name-via-else-given-name w ↦ λ s. w.if-given-name.false
    ]) c.loop-given.invariant

pub returns : goal.returns
returns c = λ t i j.
    let xs = map leaf c.args.tokens.now in
    let gs = c.args.names.now in
    alone-all c.requires.0 xs gs c.args.name i j c.requires.1
    (λ g m. each-all (IsOther xs c.args.name) gs c.loop-given.given-index g c.loop-given-test.false
    c.loop-given.invariant m)
