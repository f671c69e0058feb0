use Rattle.std.proofs.Common.{◌≡◌, true, false, chars, get_or, sym, take, ◌∙◌, arith}
use Rattle.std.proofs.lemmas.List.{take_all}
use Rattle.placeholder_check.specs.Collection.{Follows, is_known}
use Rattle.placeholder_check.specs.Views.{texts}
use Rattle.placeholder_check.proofs.Naming.{Follows-skip, past, texts-next}
use Rattle.placeholder_check.proofs.names.unused_names.Goals as goal
use Rattle.placeholder_check.proofs.names.unused_names.Goals.{then-not-has_name+in_ok-insert_name}
use Rattle.placeholder_check.proofs.names.unused_names.Goals.{else-not-has_name}

pub loop-name-init : goal.loop-name-init
loop-name-init c = λ ys same. c.no_names-unused_set.ensures.none ys

pub loop-name-preserved : goal.loop-name-preserved
loop-name-preserved c = λ ys same.
    let i = c.loop-name.name-index in
    let name = get_or c.args.names.now i past in
    rw (texts-next c.args.names.now i past c.loop-name-test.true)
    (elim c.if-not-has_name.branch [
      | then-not-has_name+in_ok-insert_name w ↦
          let new : is_known c.args.uses.now (chars name.now) ≡ false = cc in
          rw w.unused_set-is (w.in_ok-insert_name.ensures (texts (take i c.args.names.now)) ys
          (sym (same (chars name.now)) ∙ new) (c.loop-name.invariant ys same))
      | else-not-has_name w ↦
          let was : is_known c.args.uses.now (chars name.now) ≡ true = cc in
          rw w.unused_set-is (Follows-skip
          (texts (take i c.args.names.now)) ys c.loop-name.unused_set
          (chars name.now) (sym (same (chars name.now)) ∙ was) (c.loop-name.invariant ys same))
    ])

pub returns-clause-unused : goal.returns-clause-unused
returns-clause-unused c = λ ys same.
    let all : Follows (texts c.args.names.now) ys c.loop-name.unused_set =
    rw (take_all c.loop-name.name-index c.args.names.now (omega arith))
    at c.loop-name.invariant ys same in all.firsts
