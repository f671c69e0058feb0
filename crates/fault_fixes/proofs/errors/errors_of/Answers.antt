use Rattle.std.proofs.Common.{◌≡◌, ◌∙◌, IfOk, ap, arith, false, map, subst, sym, true}
use Rattle.rustc_parse_format.specs.Views.{seen_error}
use Rattle.rustc_parse_format.specs.Characters.{is_nil}
use Rattle.fault_fixes.specs.Fixing.{all_errors}
use Rattle.fault_fixes.specs.SeenEdits.{seen_errors}
use Rattle.fault_fixes.proofs.CallFaults.{all_errors-end, all_errors-step}
use Rattle.fault_fixes.proofs.ErrorLists.{apart-step, none-of}
use Rattle.fault_fixes.proofs.FixLaws.{left-shorter}
use Rattle.fault_fixes.proofs.errors.errors_of.Goals as goal

pub loop-argument-smaller : goal.loop-argument-smaller
loop-argument-smaller c =
    let h : is_nil c.loop-argument.parser.rest ≡ false = cc in
    left-shorter c.loop-argument.parser c.add_next.new.parser c.in_ok-add_next.ensures.state h

pub loop-argument-preserved : goal.loop-argument-preserved
loop-argument-preserved c =
    let l = c.loop-argument in
    let h : is_nil l.parser.rest ≡ false = cc in
    let e = c.in_ok-add_next.ensures.state in
    let next = apart-step l.parser c.add_next.new.parser (seen_errors l.errors)
    (seen_errors c.add_next.new.errors) e c.in_ok-add_next.ensures.errors in
    record {
      none = ap (λ s. s.errors) e;
      added = c.in_ok-add_next.ensures.added;
      same = all_errors-step (record l.parser { errors = seen_errors l.errors }) _ next h
          ∙ l.invariant.same;
      less = omega (arith, left-shorter l.parser c.add_next.new.parser e h, l.invariant.less);
    }

pub returns-clause-errors : goal.returns-clause-errors
returns-clause-errors c =
    let l = c.loop-argument in
    let h : is_nil l.parser.rest ≡ true = cc in
    subst (λ es. IfOk c.into_list.result (λ v. map seen_error v.items ≡ es))
    (sym (all_errors-end (record l.parser { errors = seen_errors l.errors }) h) ∙ l.invariant.same
    ∙ ap all_errors c.in_ok-parser.ensures.start) c.into_list.ensures

pub returns-then-is_empty-clause-errors : goal.returns-then-is_empty-clause-errors
returns-then-is_empty-clause-errors c =
    ap (map seen_error) c.new.ensures.items
    ∙ sym (none-of _ _ _ _ _ (sym c.is_empty.ensures ∙ c.if-is_empty.true))
