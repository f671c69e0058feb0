use Rattle.std.proofs.Common.{◌≡◌, false, chars, sym, arith}
use Rattle.placeholder_check.specs.Collection.{has_text, is_known}
use Rattle.placeholder_check.proofs.Naming.{Follows-had, Follows-new, known-early, known-late}
use Rattle.placeholder_check.proofs.names.insert_name.Goals as goal
use Rattle.placeholder_check.proofs.names.insert_name.Goals.{}
use Rattle.placeholder_check.proofs.names.insert_name.Goals.{}
use Rattle.placeholder_check.proofs.names.insert_name.Goals.{}
use Rattle.placeholder_check.proofs.names.insert_name.Goals.{}
use Rattle.placeholder_check.proofs.names.insert_name.Goals.{then-len-ge-SCAN_LIMIT+in_ok-insert_later}
use Rattle.placeholder_check.proofs.names.insert_name.Goals.{else-len-ge-SCAN_LIMIT}

pub returns-then-has_name : goal.returns-then-has_name
returns-then-has_name c = λ ts ys lacked f.
    Follows-had ts ys c.args.names.now (chars c.args.name.now) lacked
    (sym (rw c.deref.ensures.value at c.if-has_name.ensures)) f

pub returns : goal.returns
returns c = λ ts ys lacked f.
    let is_new : is_known c.args.names.now (chars c.args.name.now) ≡ false = cc in
    Follows-new ts ys c.args.names.now _ c.args.name lacked is_new
    (elim c.if-len-ge-SCAN_LIMIT.branch [
      | then-len-ge-SCAN_LIMIT+in_ok-insert_later w ↦ rw (w.names-is) at c.in_ok-push.ensures.items
      | else-len-ge-SCAN_LIMIT w ↦ rw (w.names-is) at c.in_ok-push.ensures.items
    ])
    (λ t. elim c.if-len-ge-SCAN_LIMIT.branch [
      | then-len-ge-SCAN_LIMIT+in_ok-insert_later w ↦
          rw (c.in_ok-push.ensures.items, w.names-is, w.in_ok-insert_later.ensures t)
          (known-late t c.args.names.now.list.items c.args.name 16
          (has_text c.args.names.now.later_set t) (omega arith))
      | else-len-ge-SCAN_LIMIT w ↦ rw (c.in_ok-push.ensures.items, w.names-is)
          (known-early t c.args.names.now.list.items c.args.name 16
          (has_text c.args.names.now.later_set t) (omega arith))
    ]) f
