use Rattle.std.proofs.Common.{◌∙◌, ◌≡◌, ◌+◌, ◌-◌, ap, arith, drop, sym, take}
use Rattle.std.specs.Prelude.{slice_get}
use Rattle.rust_trees.specs.Leaves.{leaf}
use Rattle.call_forms.specs.Expressions.{depth_after, ends_operand, ends_pair, next_operand}
use Rattle.call_forms.proofs.Operands.{depth-step, operand-end, operand-found, operand-short}
use Rattle.call_forms.proofs.Operands.{operand-step, pair-step}
use Rattle.call_forms.proofs.expressions.next_operand.Goals as goal

pub returns-then-saturating_sub-lt2 : goal.returns-then-saturating_sub-lt2
returns-then-saturating_sub-lt2 c =
    let h = rw c.saturating_sub.ensures at c.if-saturating_sub-lt2.true in
    sym (operand-short 0 0 c.args.source.now c.args.argument.now.start _ h)

pub returns-in_default : goal.returns-in_default
returns-in_default c =
    let v = rw c.tokens-tokens.ensures at c.in_default.ensures.value in
    sym (operand-end c.loop-index.is_after c.loop-index.depth
    (c.loop-index.index - c.args.argument.now.start) c.args.source.now c.loop-index.index _ v)
    ∙ c.loop-index.invariant.rest

pub returns-then-is_second : goal.returns-then-is_second
returns-then-is_second c =
    let v = rw c.tokens-tokens.ensures at c.in-Some.ensures.value in
    sym (operand-found c.loop-index.is_after c.loop-index.depth
    (c.loop-index.index - c.args.argument.now.start) c.args.source.now c.loop-index.index
    c.args.argument.now.end (leaf c.in-Some.token) c.loop-index-test.true (sym v)
    (sym c.is_second.ensures ∙ c.if-is_second.true)) ∙ c.loop-index.invariant.rest

pub loop-index-preserved-in-Some-closing_before : goal.loop-index-preserved-in-Some-closing_before
loop-index-preserved-in-Some-closing_before c =
    let v = rw c.tokens-tokens.ensures at c.in-Some.ensures.value in
    let w = rw c.tokens-tokens.ensures at c.ends_pair-is_after.ensures in
    let p = c.in-Some-closing_before.ensures in
    let a = c.args.argument.now.start in
    let i = c.loop-index.index in
    let d = c.loop-index.depth in
    let xs = c.args.source.now in
    let end = c.args.argument.now.end in
    let j = c.in-Some-closing_before.close in
    let k = c.loop-index.invariant.small in
    let h = c.loop-index.invariant.starts in
    let s = p.0.ends in
    let n : i - a + (j + 1 - i) ≡ j + 1 - a = omega (arith, h, s) in
    record {
      rest = rw w (ap (λ v. next_operand (ends_pair d (slice_get xs j)) d v
          (take (end - (j + 1)) (drop (j + 1) xs))) (sym n)
          ∙ (sym (pair-step c.loop-index.is_after c.loop-index.depth (i - a) c.args.source.now i j
          c.args.argument.now.end (leaf c.in-Some.token) p.0 p.1 (sym v) p.2)
          ∙ c.loop-index.invariant.rest));
      small = omega (arith, k, s);
      starts = omega (arith, h, s);
    }

pub loop-index-preserved : goal.loop-index-preserved
loop-index-preserved c =
    let v = rw c.tokens-tokens.ensures at c.in-Some.ensures.value in
    let a = c.args.argument.now.start in
    let i = c.loop-index.index in
    let d = c.loop-index.depth in
    let x = leaf c.in-Some.token in
    let xs = c.args.source.now in
    let end = c.args.argument.now.end in
    let h = c.loop-index.invariant.starts in
    let n : i - a + 1 ≡ i + 1 - a = omega (arith, h) in
    record {
      rest = rw (c.ends_operand-is_after.ensures, c.depth_after-depth.ensures)
          (ap (λ v. next_operand (ends_operand d x) (depth_after d x) v
          (take (end - (i + 1)) (drop (i + 1) xs))) (sym n)
          ∙ (sym (operand-step c.loop-index.is_after c.loop-index.depth (i - a) c.args.source.now
          c.loop-index.index c.args.argument.now.end (leaf c.in-Some.token)
          c.loop-index-test.true (sym v) (sym c.is_second.ensures ∙ c.if-is_second.false))
          ∙ c.loop-index.invariant.rest));
      small = rw c.depth_after-depth.ensures (depth-step c.loop-index.depth c.loop-index.index
          (leaf c.in-Some.token) c.loop-index.invariant.small);
      starts = omega (arith, h);
    }
