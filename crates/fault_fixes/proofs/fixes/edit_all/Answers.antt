use Rattle.std.proofs.Common.{◌≡◌, ◌∙◌, ap, false, true}
use Rattle.rustc_parse_format.specs.Characters.{is_nil}
use Rattle.rustc_parse_format.specs.Views.{seen_mode}
use Rattle.rustc_parse_format.specs.State.{State}
use Rattle.fault_fixes.specs.SeenEdits.{with_edits}
use Rattle.fault_fixes.proofs.FixLaws.{edited-end, left_edits, left_edits-step, left-shorter}
use Rattle.fault_fixes.proofs.fixes.edit_all.Goals as goal

pub loop-argument-smaller : goal.loop-argument-smaller
loop-argument-smaller c =
    let h : is_nil c.loop-argument.parser.rest ≡ false = cc in
    left-shorter c.loop-argument.parser c.make_next.new.parser c.in_ok-make_next.ensures.state h

pub loop-argument-preserved : goal.loop-argument-preserved
loop-argument-preserved c =
    let l = c.loop-argument in
    let h : is_nil l.parser.rest ≡ false = cc in
    let e = c.in_ok-make_next.ensures.state in
    record {
      none = ap (λ (t : State). t.errors) e;
      made = c.in_ok-make_next.ensures.made;
      same = c.in_ok-make_next.ensures.edits
          (left_edits (seen_mode c.args.mode) c.make_next.new.parser)
          ∙ ap (with_edits l.progress)
          (left_edits-step (seen_mode c.args.mode) l.parser c.make_next.new.parser e h)
          ∙ l.invariant.same;
    }

pub returns-clause-bytes : goal.returns-clause-bytes
returns-clause-bytes c =
    let l = c.loop-argument in
    let h : is_nil l.parser.rest ≡ true = cc in
    c.in_ok-extend_from_slice.ensures.items
    ∙ (edited-end (seen_mode c.args.mode) c.args.parser.now l.parser
    l.progress.bytes.items l.progress.start l.progress.end l.progress.rest.now c.args.at
    c.args.text.now
    c.requires h l.invariant.same).0

pub returns-clause-some : goal.returns-clause-some
returns-clause-some c =
    let l = c.loop-argument in
    let h : is_nil l.parser.rest ≡ true = cc in
    (edited-end (seen_mode c.args.mode) c.args.parser.now l.parser l.progress.bytes.items
    l.progress.start l.progress.end
    l.progress.rest.now c.args.at c.args.text.now c.requires h l.invariant.same).1
