use Rattle.std.proofs.Common.{◌≡◌, ◌++◌, ◌-◌, ◌∙◌, ap, length, map, subst, sym, true}
use Rattle.rust_trees.specs.Leaves.{AreLeft, leaf, leaves}
use Rattle.format_calls.specs.Gaps.{BeginsCall}
use Rattle.format_calls.specs.Parts.{opens_call}
use Rattle.format_calls.specs.Rows.{entry}
use Rattle.format_calls.proofs.ClearGaps.{clear-elsewhere, clear-part}
use Rattle.format_calls.proofs.Parting.{end-of}
use Rattle.format_calls.proofs.gap_texts.next_known_part.Goals as goal

pub returns-then-are_ended-clause-part : goal.returns-then-are_ended-clause-part
returns-then-are_ended-clause-part c xs k left l =
    let es = map entry c.args.table.now.rows.items in
    let at = length c.args.rest.now.whole - length c.args.rest.now.rest in
    let n = leaf c.in-Some.name in
    let m = leaf c.in-Some-next.bang in
    let t = leaf c.in-Some-next-2.opening in
    let j = c.in_ok-part.ensures.joins in
    let opens : opens_call es n m t ≡ true =
    ap (λ rs. opens_call (map entry rs) n m t) (sym c.deref.ensures.value)
    ∙ (sym c.opens_call.ensures ∙ c.if-not-opens_call.false) in
    let begins : BeginsCall es c.in_ok-part.part = record {
      name = n;
      bang = m;
      opening = t;
      more = j.0;
      joins = j.1;
      opens = opens;
    } in
    let third = c.in-Some-next-2.ensures.some _ (j.2 left l) in
    let second = c.in-Some-next.ensures.some _ third in
    let first = c.in-Some.ensures.some _ second in (
      subst (λ v. AreLeft c.args.rest.now (leaves at xs ++ (v ++ left))) (sym j.1)
          (c.skip.ensures.passed c.if-not-skip.false xs k.reads _ first),
      clear-part es (leaves at xs) c.in_ok-part.part left (clear-elsewhere es 0 at xs k.is_clear)
          begins (end-of _ _ left l c.in_ok-part.ensures.whole),
    )
