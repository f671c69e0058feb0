use Rattle.std.proofs.Common.{◌≡◌, ◌∙◌, ◌-◌, IsUtf8, ap, arith, rules, subst, sym, take, true}
use Rattle.std.proofs.Common.{false, ◌∷◌}
use Rattle.std.specs.Str.{IsCharBoundary}
use Rattle.rust_trees.specs.Leaves.{AreLeft, is_leaf}
use Rattle.rust_trees.proofs.LeavesRead.{cut-boundary, leaf-of, left-rest_after, left-more}
use Rattle.rust_trees.proofs.leaves.split_first_leaf.Goals as goal

pub range-requires-clause-end_boundary : goal.range-requires-clause-end_boundary
range-requires-clause-end_boundary c =
    let b = c.in-Some.ensures.begins in
    let u : IsUtf8 c.in-Some.rest_after.now = search rules in
    subst (λ n. IsCharBoundary c.loop-token.tail.now n) (sym (ap (λ t. t.span.end) b.2))
    (cut-boundary _ _ b.0 c.loop-token.invariant.utf8 u b.1)

pub loop-token-preserved : goal.loop-token-preserved
loop-token-preserved c =
    let b = c.in-Some.ensures.begins in
    let u : IsUtf8 c.in-Some.rest_after.now = search rules in
    let no : is_leaf b.0.kind b.0.is_ended ≡ false =
    ap (λ t. is_leaf t.kind t.is_ended) (sym b.2) ∙ sym c.if-is_leaf.ensures in
    record {
      left = λ ls l. c.loop-token.invariant.left ls (left-rest_after _ _ _ b.0
          c.loop-token.invariant.utf8 u b.1
          (omega (arith, c.requires, c.loop-token.invariant.within)) no ls l);
      within = search rules;
      utf8 = search rules;
    }

pub returns-then-is_leaf-clause-some : goal.returns-then-is_leaf-clause-some
returns-then-is_leaf-clause-some c ls l =
    let b = c.in-Some.ensures.begins in
    let u : IsUtf8 c.in-Some.rest_after.now = search rules in
    let all : is_leaf b.0.kind b.0.is_ended ≡ true =
    ap (λ t. is_leaf t.kind t.is_ended) (sym b.2) ∙ sym c.if-is_leaf.ensures in
    let n : c.in-Some.token.span.end - 0 ≡ c.in-Some.token.span.end = omega arith in
    let front = c.range.ensures.value ∙ ap (λ k. take k c.loop-token.tail.now) n in
    c.loop-token.invariant.left _
    (subst (λ x. AreLeft (record { whole = c.args.text.now; rest = c.loop-token.tail.now })
    (x ∷ ls))
    (sym (leaf-of _ b.0 _ _ _ _ c.loop-token.invariant.utf8 u b.1 b.2 front))
    (left-more _ _ _ b.0 c.loop-token.invariant.utf8 u b.1
    (omega (arith, c.requires, c.loop-token.invariant.within)) all ls l))
