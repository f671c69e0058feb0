use Rattle.std.proofs.Common.{◌≡◌, ◌∙◌, ◌++◌, ap, append-nil, arith, length, length-append, sym}
use Rattle.std.proofs.Common.{◌+◌, ◌<◌, ◌≤◌, map, false, true}
use Rattle.std.proofs.lemmas.List.{length-map}
use Rattle.rustc_parse_format.specs.Characters.{is_nil}
use Rattle.rustc_parse_format.specs.FaultIds.{fault_id}
use Rattle.rustc_parse_format.specs.FaultViews.{seen_fault}
use Rattle.rustc_parse_format.specs.State.{next_call}
use Rattle.rustc_parse_format.specs.World.{faults_in}
use Rattle.fault_fixes.proofs.RoundLaws.{faulty-end, faulty-more, faulty-same, ids-end, ids-shorter}
use Rattle.fault_fixes.proofs.RoundLaws.{ids-step, left_faulty, left_ids}
use Rattle.fault_fixes.proofs.rounds.faults_of.Goals as goal

pub returns-clause-ids : goal.returns-clause-ids
returns-clause-ids c =
    let l = c.loop-argument in
    let h : is_nil l.parser.rest ≡ true = cc in
    sym (append-nil (map fault_id (map seen_fault l.list.items)))
    ∙ sym (ap (λ xs. map fault_id (map seen_fault l.list.items) ++ xs) (ids-end l.parser h))
    ∙ l.invariant.ids ∙ ap left_ids c.in_ok-parser.ensures.start

pub returns-clause-calls : goal.returns-clause-calls
returns-clause-calls c =
    let l = c.loop-argument in
    let h : is_nil l.parser.rest ≡ true = cc in
    omega (
      arith,
      faulty-end l.parser h,
      l.invariant.calls,
      ap left_faulty c.in_ok-parser.ensures.start,
    )

pub loop-argument-smaller : goal.loop-argument-smaller
loop-argument-smaller c =
    let h : is_nil c.loop-argument.parser.rest ≡ false = cc in
    ids-shorter c.loop-argument.parser c.next_with_faults.new.self
    c.in_ok-next_with_faults.ensures.state h

pub loop-argument-smaller-then-count-len : goal.loop-argument-smaller-then-count-len
loop-argument-smaller-then-count-len c =
    let h : is_nil c.loop-argument.parser.rest ≡ false = cc in
    ids-shorter c.loop-argument.parser c.next_with_faults.new.self
    c.in_ok-next_with_faults.ensures.state h

pub loop-argument-preserved-then-count-len : goal.loop-argument-preserved-then-count-len
loop-argument-preserved-then-count-len c =
    let l = c.loop-argument in
    let h : is_nil l.parser.rest ≡ false = cc in
    let old = map seen_fault l.list.items in
    let found = map seen_fault c.next_with_faults.new.faults.items in
    let more : length old < length found = omega (
      arith,
      c.if-count-len.true,
      length-map l.list.items seen_fault,
      length-map c.next_with_faults.new.faults.items seen_fault,
    ) in
    record {
      ids = ids-step l.parser c.next_with_faults.new.self old found _
          c.in_ok-next_with_faults.ensures.state h c.in_ok-next_with_faults.ensures.faults
          l.invariant.ids;
      calls = faulty-more l.parser c.next_with_faults.new.self old found l.calls _
          c.in_ok-next_with_faults.ensures.state h c.in_ok-next_with_faults.ensures.faults
          l.invariant.calls more;
      few = omega (arith, l.invariant.few, c.if-count-len.true);
    }

pub loop-argument-preserved : goal.loop-argument-preserved
loop-argument-preserved c =
    let l = c.loop-argument in
    let h : is_nil l.parser.rest ≡ false = cc in
    let old = map seen_fault l.list.items in
    let found = map seen_fault c.next_with_faults.new.faults.items in
    let same : length found ≤ length old = omega (
      arith,
      c.if-count-len.false,
      length-map l.list.items seen_fault,
      length-map c.next_with_faults.new.faults.items seen_fault,
    ) in
    let grown : length found ≡ length old
    + length (faults_in l.parser.world (next_call l.parser).faults) =
    ap (λ xs. length xs) c.in_ok-next_with_faults.ensures.faults
    ∙ length-append old (faults_in l.parser.world (next_call l.parser).faults) in
    record {
      ids = ids-step l.parser c.next_with_faults.new.self old found _
          c.in_ok-next_with_faults.ensures.state h c.in_ok-next_with_faults.ensures.faults
          l.invariant.ids;
      calls = faulty-same l.parser c.next_with_faults.new.self old found l.calls _
          c.in_ok-next_with_faults.ensures.state h c.in_ok-next_with_faults.ensures.faults
          l.invariant.calls same;
      few = omega (
        arith,
        l.invariant.few,
        grown,
        length-map l.list.items seen_fault,
        length-map c.next_with_faults.new.faults.items seen_fault,
      );
    }
