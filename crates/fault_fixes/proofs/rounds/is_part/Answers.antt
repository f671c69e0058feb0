use Rattle.std.proofs.Common.{◌≡◌, ◌∙◌, ◌<◌, [], ap, arith, get_or, length, map, nat_eq, sym}
use Rattle.std.proofs.lemmas.List.{get_or-map, length-map}
use Rattle.std.specs.Str.{bytes_eq}
use Rattle.rustc_parse_format.specs.FaultIds.{fault_id}
use Rattle.rustc_parse_format.specs.declared.faults.Fault.{Fault}
use Rattle.rustc_parse_format.specs.declared.faults.Fault.TheVariants.{UnmatchedBrace}
use Rattle.rustc_parse_format.specs.FaultViews.{seen_fault}
use Rattle.fault_fixes.proofs.RoundLaws.{part-end, part-more}
use Rattle.fault_fixes.proofs.rounds.is_part.Goals.{else-eq, then-eq}
use Rattle.fault_fixes.proofs.rounds.is_part.Goals as goal

pub loop-fault-preserved : goal.loop-fault-preserved
loop-fault-preserved c =
    let l = c.loop-fault in
    let first : Fault = UnmatchedBrace (record { start = 0; end = 0 }) in
    let ps = map seen_fault c.args.part.now in
    let ws = map seen_fault c.args.all_faults.now in
    let many = length-map c.args.part.now seen_fault in
    let all = length-map c.args.all_faults.now seen_fault in
    let n : l.count < length c.args.part.now =
    omega (arith, l.invariant.within, c.if-count-part.false) in
    let i : l.fault-index < length c.args.all_faults.now = omega (arith, c.loop-fault-test.true) in
    let m : l.count < length ps = omega (arith, n, many) in
    let j : l.fault-index < length ws = omega (arith, i, all) in
    let p : get_or (map fault_id ps) l.count [] ≡ c.id.result.now =
    get_or-map fault_id ps l.count (seen_fault first) [] m
    ∙ ap fault_id (get_or-map seen_fault c.args.part.now l.count first (seen_fault first) n)
    ∙ sym c.id.ensures.id in
    let w : get_or (map fault_id ws) l.fault-index [] ≡ c.id-in-loop-fault.result.now =
    get_or-map fault_id ws l.fault-index (seen_fault first) [] j
    ∙ ap fault_id (get_or-map seen_fault c.args.all_faults.now l.fault-index first
    (seen_fault first) i)
    ∙ sym c.id-in-loop-fault.ensures.id in
    let same : bytes_eq (get_or (map fault_id ps) l.count [])
    (get_or (map fault_id ws) l.fault-index []) ≡ c.eq.result = rw (p, w) (sym c.eq.ensures) in
    let step = part-more (map fault_id ps) (map fault_id ws) l.count l.fault-index
    (omega (arith, m, length-map ps fault_id)) (omega (arith, j, length-map ws fault_id)) in
    elim c.if-eq.branch [
      | then-eq w ↦
          let yes = same ∙ w.if-eq.true in
          let next = rw yes at step in
          record {
            same = rw w.count-is (sym next ∙ l.invariant.same);
            within = omega (arith, n, w.count-is);
          }
      | else-eq w ↦
          let no = same ∙ w.if-eq.false in
          let next = rw no at step in
          record {
            same = rw w.count-is (sym next ∙ l.invariant.same);
            within = omega (arith, l.invariant.within, w.count-is);
          }
    ]

pub returns : goal.returns
returns c =
    let l = c.loop-fault in
    let ps = map seen_fault c.args.part.now in
    let ws = map seen_fault c.args.all_faults.now in
    let many : length c.args.part.now ≡ length (map fault_id ps) =
    sym (length-map ps fault_id ∙ length-map c.args.part.now seen_fault) in
    let all : length c.args.all_faults.now ≡ length (map fault_id ws) =
    sym (length-map ws fault_id ∙ length-map c.args.all_faults.now seen_fault) in
    ap (nat_eq l.count) many
    ∙ part-end (map fault_id ps) (map fault_id ws) l.count l.fault-index
    (omega (arith, many, l.invariant.within)) (omega (arith, all, c.loop-fault-test.false))
    ∙ l.invariant.same
