use Rattle.std.proofs.Common.{◌≡◌, ◌++◌, ◌∷◌, [], ℕ, append_assoc, get_or, map, rules, sym, take}
use Rattle.std.proofs.lemmas.List.{append-nil, map_more}
use Rattle.std.proofs.Math.Seq.{take-append_seam}
use Rattle.std.specs.declared.ops.Range.{Range}
use Rattle.rustc_parse_format.specs.Views.{pair}
use Rattle.rustc_parse_format.proofs.Lines.RangeLists.{take_all}
use Rattle.rustc_parse_format.proofs.range_list.RangeList.append.Goals as goal

pub loop-range-init : goal.loop-range-init
loop-range-init c = (sym (append-nil c.args.self.now), c.len-count.ensures)

pub returns-then-is_err-clause-err : goal.returns-then-is_err-clause-err
returns-then-is_err-clause-err c =
    let same : c.push.new.self ≡ c.loop-range.self = search rules in
    rw (c.truncate.ensures, same, c.loop-range.invariant.0, c.loop-range.invariant.1)
    (take-append_seam c.args.self.now _)

pub loop-range-preserved : goal.loop-range-preserved
loop-range-preserved c =
    let ranges = c.as_slice-range-items.result.now in
    let i = c.loop-range.range-index in
    let none : Range ℕ = record { start = 0; end = 0 } in
    let added : c.push.new.self ≡ c.loop-range.self ++ pair (get_or ranges i none)
    ∷ [] = search rules in
    let more = map_more pair ranges i none c.loop-range-test.true in (
      rw (added, c.loop-range.invariant.0, more)
          (append_assoc c.args.self.now (map pair (take i ranges)) _),
      c.loop-range.invariant.1,
    )

pub returns-clause-ok : goal.returns-clause-ok
returns-clause-ok c =
    let ranges = c.as_slice-range-items.result.now in
    let same : ranges ≡ c.args.ranges.now.items = search rules in
    rw (← same)
    (rw (take_all c.loop-range.range-index ranges c.loop-range-test.false)
    at c.loop-range.invariant.0)
