use Rattle.std.proofs.Common.{ap, arith, length, refl, subst}
use Rattle.std.proofs.lemmas.List.{length-map}
use Rattle.rust_trees.specs.Leaves.{leaf}
use Rattle.macro_owners.proofs.Owning.{IsClear, clear-all, clear-more, in-sight}
use Rattle.macro_owners.proofs.own.is_in_sight.Goals as goal

pub loop-index-preserved : goal.loop-index-preserved
loop-index-preserved c =
    clear-more c.args.source.now c.args.name c.scope_end-end.result c.loop-index.index
    (subst (λ v. IsClear v c.args.name c.scope_end-end.result c.loop-index.index)
    c.tokens-tokens.ensures (c.if-not-is_clear.ensures refl)) c.loop-index.invariant

pub returns-clause-calls : goal.returns-clause-calls
returns-clause-calls c = λ t i.
    let xs = c.args.source.now in
    let n = ap (λ v. length v) c.tokens-tokens.ensures in
    let m = length-map c.tokens-tokens.result.now leaf in
    let f = c.loop-index-test.false in
    in-sight xs c.args.name c.scope_end-end.result i c.scope_end-end.ensures
    (clear-all xs c.args.name c.scope_end-end.result c.loop-index.index (omega (arith, n, m, f))
    c.loop-index.invariant i)

pub returns-clause-shown : goal.returns-clause-shown
returns-clause-shown c = λ t i.
    let n = ap (λ v. length v) c.tokens-tokens.ensures in
    let m = length-map c.tokens-tokens.result.now leaf in
    let f = c.loop-index-test.false in
    (clear-all c.args.source.now c.args.name c.scope_end-end.result c.loop-index.index
    (omega (arith, n, m, f)) c.loop-index.invariant i).0
