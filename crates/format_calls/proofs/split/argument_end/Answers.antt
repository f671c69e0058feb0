use Rattle.std.proofs.Common.{◌≡◌, ◌++◌, sym, subst, arith, false, [], ◌∷◌}
use Rattle.format_calls.specs.declared.modes.Mode.TheVariants.{Start}
use Rattle.format_calls.specs.Arguments.{Walks, is_end}
use Rattle.format_calls.specs.Modes.{mode_after}
use Rattle.format_calls.proofs.Walking.{depth-grows, tree-within, walks-more}
use Rattle.format_calls.proofs.split.argument_end.Goals as goal

pub loop-end-preserved : goal.loop-end-preserved
loop-end-preserved c =
    let xs = c.args.source.now in
    let i = c.loop-end.invariant in
    let t = tree-within xs c.args.opening c.args.to c.loop-end.end c.after_tree-end.result
    c.requires.pair c.after_tree-end.ensures (omega arith) (omega arith) in
    let m : c.mode_after-mode.result ≡ mode_after xs c.loop-end.end c.loop-end.mode =
    subst (λ v. c.mode_after-mode.result ≡ mode_after v c.loop-end.end c.loop-end.mode)
    c.tokens-tokens.ensures c.mode_after-mode.ensures in
    let e : is_end xs c.loop-end.end c.loop-end.mode ≡ false =
    sym (subst (λ v. false ≡ is_end v c.loop-end.end c.loop-end.mode) c.tokens-tokens.ensures
    c.if-not-is_end.ensures) in
    let d = depth-grows xs c.loop-end.end c.loop-end.mode in
    record {
      walks = (
        i.walks.0 ++ c.after_tree-end.result ∷ [],
        subst (λ n. Walks xs c.args.from (Start false)
            (i.walks.0 ++ c.after_tree-end.result ∷ []) c.after_tree-end.result n) (sym m)
            (walks-more xs c.args.from c.loop-end.end c.after_tree-end.result
            (Start false) c.loop-end.mode i.walks.0 i.walks.1 c.after_tree-end.ensures e),
      );
      rest_after = omega (arith, t, i.rest_after);
      within = t.1;
      depth = rw m (omega (arith, d, t, i.depth));
    }
