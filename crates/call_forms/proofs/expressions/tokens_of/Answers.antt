use Rattle.std.proofs.Common.{◌≡◌, ◌∙◌, ◌-◌, ap, arith, drop, length, length-drop, map, sym, take}
use Rattle.std.proofs.lemmas.List.{drop-map, drop_min, take-map, take_all, take_min}
use Rattle.rust_trees.specs.Leaves.{leaf}
use Rattle.call_forms.proofs.expressions.tokens_of.Goals as goal

pub returns : goal.returns
returns c =
    let ts = c.args.tokens.now in
    let a = c.args.argument.now in
    let n = c.saturating_sub-count.result in
    let d = length-drop c.min.result ts in
    let rest = take (length ts - c.min.result) (drop c.min.result ts) in
    let whole : rest ≡ drop a.start ts =
    take_all (length ts - c.min.result) (drop c.min.result ts) (omega (arith, d))
    ∙ (ap (λ k. drop k ts) c.min.ensures ∙ drop_min a.start ts) in
    ap (λ k. map leaf (take k rest)) c.min-2.ensures
    ∙ ap (map leaf) (take_min n rest)
    ∙ sym (take-map leaf n rest)
    ∙ ap (λ v. take n (map leaf v)) whole
    ∙ ap (λ k. take k (map leaf (drop a.start ts))) c.saturating_sub-count.ensures
    ∙ ap (take (a.end - a.start)) (sym (drop-map leaf a.start ts))
