use Rattle.std.proofs.Common.{◌∙◌, ap, map, subst, sym}
use Rattle.std.specs.Prelude.{Contains}
use Rattle.format_calls.specs.Rows.{entry}
use Rattle.format_calls.specs.declared.table.Row.{Row}
use Rattle.macro_owners.specs.Own.{HasOwn}
use Rattle.macro_owners.proofs.Owning.{rows-more}
use Rattle.macro_owners.proofs.own.own_rows.Goals as goal
use Rattle.macro_owners.proofs.own.own_rows.Goals.{in-Some+in_ok-push, in_default}

pub loop-given-preserved : goal.loop-given-preserved
loop-given-preserved c =
    let es = map entry c.args.table.now.rows.items in
    let xs = c.args.source.now in
    elim c.match-own_row.branch [
      | in-Some+in_ok-push w ↦ rows-more es xs c.match-own_row.rows.items c.loop-given.rows.items
          w.in-Some.row (ap (λ t. t.items) w.rows-is ∙ w.in_ok-push.ensures.items)
          (w.in-Some.ensures es (λ d m. (c.in_ok-calls.ensures.each d).0
          (subst (λ l. Contains l d) c.deref.ensures.value m))) c.loop-given.invariant
      | in_default w ↦ subst (λ l. (v : Row) → Contains l v → HasOwn es xs (entry v))
          (ap (λ t. t.items) (sym w.rows-is)) c.loop-given.invariant
    ]
