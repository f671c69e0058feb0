use Rattle.std.proofs.Common.{◌≡◌, ◌∙◌, ◌≤◌, ◌+◌, ◌∷◌, [], ℕ, Bool, List, true, false, ap, arith}
use Rattle.std.proofs.Common.{length, map, sym, subst, length-append, Some}
use Rattle.std.specs.Prelude.{if◌then◌else◌, option_map, slice_get}
use Rattle.std.proofs.lemmas.Option.{slice_get-get_or, slice_get-map}
use Rattle.rust_trees.specs.Leaves.{leaf}
use Rattle.format_calls.specs.Searches.{AreLastFrom, IsLast}
use Rattle.format_calls.proofs.Searching.{last-bound, last-more, last-push}
use Rattle.format_calls.proofs.part.last_targets.Goals as goal
use Rattle.format_calls.proofs.part.last_targets.Goals.{then-is_target, else-is_target}

pub loop-index-preserved : goal.loop-index-preserved
loop-index-preserved c =
    let xs = map leaf c.args.tokens.now in
    let i = c.loop-index.index in
    let last = c.loop-index.last in
    let v = c.loop-index.invariant in
    let items = c.in_ok-push-2.ensures.items in
    let n : c.if-is_target.last ≡ (if c.is_target.result then i + 1 else last) =
    elim c.if-is_target.branch [
      | then-is_target w ↦ w.last-is
          ∙ sym (ap (λ b. if b then i + 1 else last) w.if-is_target.true)
      | else-is_target w ↦ w.last-is
          ∙ sym (ap (λ b. if b then i + 1 else last) w.if-is_target.false)
    ] in
    let more : IsLast c.args.target xs (i + 1) c.if-is_target.last =
    last-more c.args.target xs i last c.if-is_target.last _ c.is_target.result
    (slice_get-map leaf c.args.tokens.now i
    ∙ ap (option_map leaf) (slice_get-get_or c.args.tokens.now i _ c.loop-index-test.true))
    c.is_target.ensures v.is_last v.within n in
    let l = length-append c.loop-index.counts.items (c.if-is_target.last ∷ []) in
    record {
      each = subst (λ t. AreLastFrom c.args.target xs 0 t) (sym items)
          (last-push c.args.target xs 0 c.if-is_target.last c.loop-index.counts.items v.each
          (let e = v.count in
          let k : i + 1 ≡ 0 + length c.loop-index.counts.items = omega (arith, e) in
          subst (λ t. IsLast c.args.target xs t c.if-is_target.last) k more));
      count = let e = v.count in ap length items ∙ omega (arith, l, e);
      is_last = more;
      within = last-bound i last c.if-is_target.last c.is_target.result v.within n;
    }
