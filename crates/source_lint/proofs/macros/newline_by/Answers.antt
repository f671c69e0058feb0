use Rattle.std.proofs.Common.{◌∙◌, ap, sym, refl, length, drop, ◌≡◌, map, rules}
use Rattle.source_lint.specs.Macros.{newline_by, own}
use Rattle.source_lint.proofs.Owning.{newline-end, newline-found, newline-later}
use Rattle.source_lint.proofs.macros.newline_by.Goals as goal

pub loop-own_macro-init : goal.loop-own_macro-init
loop-own_macro-init c = refl

pub returns-then-eq : goal.returns-then-eq
returns-then-eq c =
    newline-found c.args.own_macros.now c.loop-own_macro.own_macro-index _ _ _ _ (search rules)
    c.as_bytes.ensures.value c.if-eq.ensures c.loop-own_macro.invariant

pub loop-own_macro-preserved : goal.loop-own_macro-preserved
loop-own_macro-preserved c =
    newline-later c.args.own_macros.now c.loop-own_macro.own_macro-index _ _ _ _ (search rules)
    c.as_bytes.ensures.value c.if-eq.ensures c.loop-own_macro.invariant

pub returns : goal.returns
returns c =
    let n : c.loop-own_macro.own_macro-index ≡ length c.args.own_macros.now = search rules in
    sym (c.loop-own_macro.invariant
    ∙ (ap (λ i. newline_by (map own (drop i c.args.own_macros.now)) c.args.name.now) n
    ∙ newline-end c.args.own_macros.now c.args.name.now))
