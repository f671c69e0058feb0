use Rattle.std.proofs.Common.{◌≡◌, ◌∙◌, ◌++◌, ap, false, map, true}
use Rattle.rustc_parse_format.specs.Characters.{is_nil}
use Rattle.rustc_parse_format.specs.FaultViews.{seen_fault}
use Rattle.rustc_parse_format.specs.State.{next_call}
use Rattle.rustc_parse_format.specs.World.{faults_in}
use Rattle.fault_fixes.proofs.FixLaws.{left-shorter}
use Rattle.format_lint.proofs.Firsts.{found-end, found-next, found-start, no_errors}
use Rattle.format_lint.proofs.faults.faults_of.Goals as goal

pub loop-argument-init : goal.loop-argument-init
loop-argument-init c = record {
  none_left = c.new-list.ensures.items;
  faults = found-start c.args.parser.now c.new-faults.result c.requires
      c.new-faults.ensures.kept c.new-faults.ensures.is_waiting;
}

pub loop-argument-smaller : goal.loop-argument-smaller
loop-argument-smaller c =
    let s = c.loop-argument.parser in
    let h : is_nil s.rest ≡ false = cc in
    left-shorter s c.next_with_faults.new.self (no_errors s c.next_with_faults.new.self
    c.loop-argument.invariant.faults.none c.in_ok-next_with_faults.ensures.state) h

pub loop-argument-preserved : goal.loop-argument-preserved
loop-argument-preserved c =
    let s = c.loop-argument.parser in
    let h : is_nil s.rest ≡ false = cc in
    let fs = faults_in s.world (next_call s).faults in
    record {
      none_left = c.in_ok-add.ensures.moved;
      faults = found-next s c.next_with_faults.new.self c.loop-argument.faults c.add.new.self _ _
          c.loop-argument.invariant.faults c.in_ok-next_with_faults.ensures.state h
          (c.in_ok-next_with_faults.ensures.faults
          ∙ ap (λ gs. map seen_fault gs ++ fs) c.loop-argument.invariant.none_left)
          c.in_ok-add.ensures.kept c.in_ok-add.ensures.is_waiting;
    }

pub returns : goal.returns
returns c =
    let h : is_nil c.loop-argument.parser.rest ≡ true = cc in
    found-end _ _ _ c.loop-argument.invariant.faults h
