use Rattle.std.proofs.Common.{◌≡◌, ◌∙◌, ◌-◌, ◌&&◌, ap, arith, length, map, not, nat_lt, sym, take}
use Rattle.std.proofs.Common.{true}
use Rattle.std.proofs.lemmas.Bool.Decides.{nat_tests}
use Rattle.std.proofs.lemmas.List.{length-map, take-map}
use Rattle.std.specs.List.{list_any}
use Rattle.rust_trees.specs.Leaves.{leaf}
use Rattle.call_forms.specs.Operators.{is_unclear}
use Rattle.call_forms.proofs.operators.ends_by.Goals as goal

pub returns-then-len-gt0 : goal.returns-then-len-gt0
returns-then-len-gt0 c =
    let ts = c.args.tokens.now in
    let n = c.args.len in
    let h = c.if-len-gt0.true in
    let t : nat_lt 0 n ≡ true = grind (arith, nat_tests) in
    let l = length-map ts leaf in
    let front = take (length (map leaf ts) - n) (map leaf ts) in
    ap not (c.are_unclear.ensures
    ∙ ap (list_any is_unclear) (sym (take-map leaf c.saturating_sub.result ts)
    ∙ (ap (λ k. take k (map leaf ts)) c.saturating_sub.ensures
    ∙ ap (λ k. take (k - n) (map leaf ts)) (sym l))))
    ∙ ap (λ b. b && not (list_any is_unclear front)) (sym t)
