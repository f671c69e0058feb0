use Rattle.std.proofs.Common.{◌≡◌, rules, subst}
use Rattle.std.specs.Prelude.{Contains}
use Rattle.rust_trees.specs.Balances.{AreEnded}
use Rattle.rust_trees.specs.Forests.{IsForest}
use Rattle.format_calls.proofs.GapForests.{last-gap, left-all, next-gap, text-at, text-end}
use Rattle.source_lint.proofs.Joining.{file-all, file-more, file-none, of-calls}
use Rattle.source_lint.proofs.MovedReadings.{reads-move}
use Rattle.source_lint.proofs.changed.read_parts.Goals as goal

pub loop-gap-init : goal.loop-gap-init
loop-gap-init c = record {
  read = file-none _ _ _ _ _ _ c.new.ensures.items c.new-2.ensures.items
      (left-all _ _ _ c.requires);
  spans = search rules;
}

pub read_calls-requires : goal.read_calls-requires
read_calls-requires c = λ d h.
    (((rw c.source.ensures at c.in_ok-calls.ensures.each) d).0
    (subst (λ v. Contains v d) c.deref.ensures.value h)).is_pair

pub loop-gap-preserved : goal.loop-gap-preserved
loop-gap-preserved c =
    let w = c.loop-gap.invariant.read in
    let p = rw c.in-Some.is at c.in_ok-source.ensures.part in
    let f = rw c.in-Some.is at c.in_ok-source.ensures.forest in
    let each = rw (c.source.ensures, c.in_ok-part.ensures) at c.in_ok-calls.ensures.each in
    let order = rw (c.source.ensures, c.in_ok-part.ensures) at c.in_ok-calls.ensures.in_order in
    let r = rw (c.in_ok-part.ensures, c.deref.ensures.value) at c.in_ok-read_calls.ensures.read in
    let e = text-at c.args.gaps.now.fronts.items _ c.loop-gap.gap-index _
    c.deref-gap-items.ensures.value c.loop-gap-test.true in
    let n = next-gap _ _ _ _ _ w.front e w.known in
    record {
      read = file-more _ _ _ _ _ _ _ _ _ _ _ _ w (_, λ left l. p n.tokens n.is_text left l)
          (n.goes_on _ _ f.0 f.1) (of-calls _ _ _ _ _ _ _ _ each order r);
      spans = c.in_ok-read_calls.ensures.spans c.loop-gap.invariant.spans;
    }

pub returns-then-eq-clause-read : goal.returns-then-eq-clause-read
returns-then-eq-clause-read c =
    let w = c.loop-gap.invariant.read in
    let e = text-end c.args.gaps.now.fronts.items _ c.loop-gap.gap-index
    c.deref-gap-items.ensures.value c.loop-gap-test.false in
    let t : c.loop-gap.rest.rest ≡ c.args.gaps.now.last.now = search rules in
    let n = last-gap _ _ _ w.front c.loop-gap.rest e t w.known in
    let f = file-all _ _ _ _ _ _ _ (λ all. IsForest all × AreEnded all) (reads-move _ _) w n.0 n.1
    in
    (f.0, c.new-rest.ensures.left f.0 f.1, f.2, f.3.0, f.3.1)
