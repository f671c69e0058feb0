use Rattle.std.proofs.Common.{◌≡◌, ◌∙◌, ◌+◌, ap, arith, drop, map, refl, sym}
use Rattle.std.proofs.lemmas.Result.{IfOk-weaker}
use Rattle.rust_trees.specs.Leaves.{leaf}
use Rattle.source_lint.specs.Givens.{given_argument}
use Rattle.source_lint.specs.Readings.{arguments_before}
use Rattle.source_lint.proofs.Calling.{after-one, reads-by, string-there}
use Rattle.call_forms.proofs.MovedArguments.{LiesIn, arguments-lie}
use Rattle.source_lint.proofs.ArgumentsBefore.{before-all}
use Rattle.source_lint.proofs.MovedGivens.{lies-drop}
use Rattle.asm_lint.proofs.MovedStrings.{lies-get}
use Rattle.source_lint.proofs.readings.read_at.Goals as goal

pub returns-in_default-clause-read : goal.returns-in_default-clause-read
returns-in_default-clause-read c =
    string-there c.args.arguments.now c.args.index c.requires.literal.0 c.requires.literal.1
    c.in_default.ensures

pub extent_of-extent-requires-clause-start : goal.extent_of-extent-requires-clause-start
extent_of-extent-requires-clause-start c =
    let l : LiesIn (c.args.call.now.name + 3) c.args.call.now.close c.in-Some.string =
    lies-get _ _ c.args.index c.args.arguments.now c.in-Some.string
    (arguments-lie c.args.part.now _ _ _ c.requires.split) (sym c.in-Some.ensures) in
    let s = l.starts in
    let t = l.stops in
    (omega (arith, s), omega (arith, t))

pub returns-then-extent-call-clause-read : goal.returns-then-extent-call-clause-read
returns-then-extent-call-clause-read c =
    let xs = c.args.part.now in
    let args = c.args.arguments.now in
    let n = c.args.index + 1 in
    let from = c.args.call.now.name + 3 in
    let to = c.args.call.now.close in
    let tokens : map leaf c.tokens.result.now ≡ xs = c.tokens.ensures in
    let t = rw c.source.ensures at c.extent_of-extent.ensures.trees in
    let all = before-all from to (drop n args)
    (lies-drop from to n args (arguments-lie xs from to args c.requires.split)) in
    IfOk-weaker c.read_with.result _ _ (λ _ r. (
      r.0,
      r.1,
      record {
        string = c.in-Some.string;
        is_string = sym c.in-Some.ensures;
        literal = leaf c.in-Some-token_at.literal;
        is_literal = sym (rw tokens at c.in-Some-token_at.ensures.value);
        trees = t.0;
        end = c.extent_of-extent.result.end;
        are_up_to = rw c.ends_early.ensures at t.1;
        reads = reads-by _ _ _ _ _ _ _ _ _ _ _ refl refl t.2
            (ap (map (given_argument xs)) (after-one args c.args.index ∙ (sym all
            ∙ ap (λ v. arguments_before v (drop n args)) (sym c.if-extent-call.true)))) r.2;
      },
    )) c.read_with.ensures.read

pub returns-clause-read : goal.returns-clause-read
returns-clause-read c =
    let xs = c.args.part.now in
    let args = c.args.arguments.now in
    let tokens : map leaf c.tokens.result.now ≡ xs = c.tokens.ensures in
    let t = rw c.source.ensures at c.extent_of-extent.ensures.trees in
    IfOk-weaker c.read_with-2.result _ _ (λ _ r. (
      r.0,
      r.1,
      record {
        string = c.in-Some.string;
        is_string = sym c.in-Some.ensures;
        literal = leaf c.in-Some-token_at.literal;
        is_literal = sym (rw tokens at c.in-Some-token_at.ensures.value);
        trees = t.0;
        end = c.extent_of-extent.result.end;
        are_up_to = rw c.ends_early.ensures at t.1;
        reads = reads-by _ _ _ _ _ _ _ _ _ _ _ refl refl t.2
            (ap (map (given_argument xs)) (c.deref.ensures.value ∙ (c.in_ok-kept_arguments.ensures
            ∙ ap (arguments_before c.extent_of-extent.result.end)
            (after-one args c.args.index)))) r.2;
      },
    )) c.read_with-2.ensures.read
