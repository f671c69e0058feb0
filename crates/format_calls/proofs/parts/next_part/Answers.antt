use Rattle.std.proofs.Common.{◌≡◌, ◌++◌, ◌∷◌, [], ◌∙◌, List, None, Some, ap, drop, inl, map, refl}
use Rattle.std.proofs.Common.{rules, subst, sym}
use Rattle.std.proofs.lemmas.List.{append-nil}
use Rattle.rust_trees.specs.Balances.{IsBalanced}
use Rattle.rust_trees.specs.Leaves.{AreLeft, Leaf, leaf}
use Rattle.format_calls.specs.Gaps.{LacksFronts}
use Rattle.format_calls.specs.Parts.{front_of, next_window, seen_front, seen_window}
use Rattle.format_calls.specs.Rows.{entry}
use Rattle.format_calls.proofs.Parting.{IsGap, end-of, gap-end, gap-more, gap-none, gap-part}
use Rattle.format_calls.proofs.Parting.{part-long, part-more, window, window-more}
use Rattle.format_calls.proofs.Windows.{begins-front, clear-front, lacks-more, unplaced_window}
use Rattle.format_calls.proofs.parts.next_part.Goals as goal

pub loop-token-init : goal.loop-token-init
loop-token-init c = record {
  file = refl;
  fewer = search rules;
  gap = (
    [],
    gap-none _,
    λ left l. l,
    λ before b. subst (λ v. IsBalanced v c.args.balance.now) (sym (append-nil before)) b,
    refl,
  );
}

pub add_after_front-requires : goal.add_after_front-requires
add_after_front-requires c = part-long _ _ _ _ _ c.in_ok-part.ensures.joins.1

pub loop-token-preserved : goal.loop-token-preserved
loop-token-preserved c =
    let g = c.loop-token.invariant.gap in
    let none : front_of (map entry c.args.table.now.rows.items) (seen_window c.loop-token.last)
    (leaf c.in-Some.token) ≡ None =
    ap (λ rs. front_of (map entry rs) (seen_window c.loop-token.last) (leaf c.in-Some.token))
    (sym c.deref.ensures.value) ∙ sym c.in_default-front_of.ensures in
    let m = gap-more _ g.0 (seen_window c.loop-token.last) (leaf c.in-Some.token) none g.1 in
    let w : seen_window c.next_window-last.result ≡ next_window (seen_window c.loop-token.last)
    (leaf c.in-Some.token) = c.next_window-last.ensures in
    record {
      file = search rules;
      fewer = search rules;
      gap = subst (λ v. (gap : List Leaf) × IsGap (map entry c.args.table.now.rows.items) gap v
          × ((left : List Leaf) → AreLeft c.next.new.self left → AreLeft c.args.rest.now
          (gap ++ (window v.name v.bang ++ left)))
          × ((before : List Leaf) → IsBalanced before c.args.balance.now
          → IsBalanced (before ++ (gap ++ window v.name v.bang)) c.add.new.self)
          × LacksFronts (map entry c.args.table.now.rows.items) (gap ++ window v.name v.bang)
          (unplaced_window v)) (sym w) (
            _,
            m.0,
            λ left l. subst (AreLeft c.args.rest.now) (m.1 left)
                (g.2 (leaf c.in-Some.token ∷ left) (c.in-Some.ensures.some left l)),
            λ before b. subst (λ v. IsBalanced v c.add.new.self)
                (window-more before _ _ _ _ _ (m.1 []))
                (c.in_ok-add.ensures _ (g.3 before b)),
            lacks-more _ _ _ (seen_window c.loop-token.last) (leaf c.in-Some.token) none
                (sym (window-more [] _ _ _ _ _ (m.1 []))) g.4,
          );
    }

pub returns-in-Some-front_of-clause-some : goal.returns-in-Some-front_of-clause-some
returns-in-Some-front_of-clause-some c =
    let g = c.loop-token.invariant.gap in
    let j = c.in_ok-part.ensures.joins in
    let front : front_of (map entry c.args.table.now.rows.items) (seen_window c.loop-token.last)
    (leaf c.in-Some.token) ≡ Some (seen_front c.in-Some-front_of.front) =
    ap (λ rs. front_of (map entry rs) (seen_window c.loop-token.last) (leaf c.in-Some.token))
    (sym c.deref.ensures.value) ∙ sym c.in-Some-front_of.ensures in (
      g.0,
      λ left l.
          let p = gap-part _ g.0 _ left (seen_front c.in-Some-front_of.front) j.0 _ _ front g.1 j.1
          (end-of _ _ left l c.in_ok-part.ensures.whole) in (
            subst (AreLeft c.args.rest.now) p.0 (g.2 (leaf c.in-Some.token ∷ (j.0 ++ left))
                (c.in-Some.ensures.some (j.0 ++ left) (j.2 left l))),
            p.1,
          ),
      λ before b.
          let p = gap-part _ g.0 _ [] (seen_front c.in-Some-front_of.front) j.0 _ _ front g.1 j.1
          (inl refl) in
          let w = seen_window c.loop-token.last in
          let front = (before ++ (g.0 ++ window w.name w.bang)) ++ leaf c.in-Some.token ∷ [] in
          subst (λ v. IsBalanced v c.add_after_front.new.balance)
          (ap (λ v. front ++ v) (ap (λ v. drop 3 v) j.1) ∙ part-more before _ _ _ _ _ _ p.0)
          (c.in_ok-add_after_front.ensures front (c.in_ok-add.ensures _ (g.3 before b))),
      clear-front _ g.0 _ (seen_window c.loop-token.last) _ front g.4,
      begins-front _ _ _ j.0 (seen_window c.loop-token.last) _ front j.1,
    )

pub returns-clause-none : goal.returns-clause-none
returns-clause-none c e =
    let g = c.loop-token.invariant.gap in (
      _,
      g.2 [] (c.in_default.ensures.none refl).0,
      λ d k. gap-end _ g.0 _ d g.1 k,
      λ before b. subst (λ v. IsBalanced v c.loop-token.balance)
          (ap (λ v. before ++ (g.0 ++ v))
          (sym (append-nil (window (seen_window c.loop-token.last).name
          (seen_window c.loop-token.last).bang)))) (g.3 before b),
      unplaced_window (seen_window c.loop-token.last),
      subst (λ v. LacksFronts (map entry c.args.table.now.rows.items) (g.0 ++ v)
          (unplaced_window (seen_window c.loop-token.last)))
          (sym (append-nil (window (seen_window c.loop-token.last).name
          (seen_window c.loop-token.last).bang))) g.4,
    )
