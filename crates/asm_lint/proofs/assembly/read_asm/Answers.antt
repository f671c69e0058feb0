use Rattle.std.proofs.Common.{◌≡◌, ◌+◌, ◌-◌, ◌∙◌, ap, drop, length, map, take}
use Rattle.std.specs.Prelude.{◌&&◌, not}
use Rattle.std.proofs.lemmas.Result.{IfOk-weaker}
use Rattle.rust_trees.specs.Leaves.{leaf}
use Rattle.rust_trees.proofs.Growing.{pair-within}
use Rattle.format_calls.specs.Assembly.{template_count}
use Rattle.asm_lint.specs.Assembly.{are_raw, is_unknown, operands}
use Rattle.asm_lint.proofs.AsmSteps.{all-after, starts-in, starts-there, whole-trees}
use Rattle.call_forms.proofs.MovedArguments.{arguments-lie}
use Rattle.asm_lint.proofs.MovedAssembly.{all-front, all-rest, reads-as}
use Rattle.asm_lint.proofs.assembly.read_asm.Goals as goal

pub operands_of-requires : goal.operands_of-requires
operands_of-requires c =
    let n = c.template_count-count.result in
    let args = c.args.arguments.now in
    let from = c.args.call.now.name in
    let to = c.args.call.now.close in
    all-front _ (length args - n) (drop n args) (all-rest _ n args (starts-in
    c.args.part.now (from + 3) to args
    (pair-within c.args.part.now (from + 2) to c.requires.pair).1
    (arguments-lie c.args.part.now (from + 3) to args c.requires.split)))

pub read_literals-requires : goal.read_literals-requires
read_literals-requires c =
    let args = c.args.arguments.now in
    let from = c.args.call.now.name in
    let to = c.args.call.now.close in
    all-front _ c.template_count-count.result args (starts-there leaf
    c.tokens-tokens.result.now c.args.part.now (from + 3) to args c.tokens-tokens.ensures
    (pair-within c.args.part.now (from + 2) to c.requires.pair).1
    (arguments-lie c.args.part.now (from + 3) to args c.requires.split))

pub returns-clause-read : goal.returns-clause-read
returns-clause-read c =
    let xs = c.args.part.now in
    let args = c.args.arguments.now in
    let tokens : map leaf c.tokens-tokens.result.now ≡ xs = c.tokens-tokens.ensures in
    let m = c.template_count-count.result in
    let n : m ≡ template_count xs args = rw tokens at c.template_count-count.ensures.value in
    let others : take (length args - m) (drop m args) ≡ drop (template_count xs args) args =
    all-after args m ∙ ap (λ k. drop k args) n in
    let t = rw c.source.ensures at c.extent_of-extent.ensures.trees in
    let made = rw tokens at c.read_literals.ensures.read in
    let list = c.in_ok-operands.ensures.list in
    let raw = c.in_ok-operands.ensures.raw in
    let unknown = c.in_ok-operands.ensures.unknown in
    IfOk-weaker c.read_literals.result _ _ (λ _ r. (
      r.0,
      r.1,
      record {
        trees = t.0;
        are_trees = whole-trees xs (c.args.call.now.name + 3) c.extent_of-extent.result.end
            c.args.call.now.close t.0 t.1;
        reads = reads-as _ _ _ _ _ _ _ _ _ _ _ (ap (λ k. take k args) n)
            (raw ∙ ap (λ v. are_raw xs v) others)
            (c.are_known-is_whole.ensures
            ∙ (ap (λ b. not b && c.extent_of-extent.result.is_counted)
            (unknown ∙ ap (λ v. is_unknown xs v) others)
            ∙ ap (λ b. not (is_unknown xs (drop (template_count xs args) args)) && b) t.2))
            (list ∙ ap (λ v. operands xs v) others) r.2;
      },
    )) made
