use Rattle.std.proofs.Common.{◌≡◌, ◌∙◌, ◌+◌, ap, arith, map, sym}
use Rattle.std.proofs.lemmas.Result.{IfOk-weaker}
use Rattle.rust_trees.specs.Leaves.{leaf}
use Rattle.source_lint.specs.Readings.{arguments_before}
use Rattle.source_lint.proofs.Calling.{after-one, string-there}
use Rattle.call_forms.proofs.MovedArguments.{LiesIn, arguments-lie}
use Rattle.asm_lint.proofs.MovedStrings.{lies-get}
use Rattle.file_inlines.proofs.Calling.{inlines-by}
use Rattle.file_inlines.proofs.calls.inline_at.Goals as goal

pub returns-in_default : goal.returns-in_default
returns-in_default c =
    string-there c.args.arguments.now c.args.index c.requires.literal.0 c.requires.literal.1
    c.in_default.ensures

pub extent_of-extent-requires-clause-start : goal.extent_of-extent-requires-clause-start
extent_of-extent-requires-clause-start c =
    let l : LiesIn (c.args.call.now.name + 3) c.args.call.now.close c.in-Some.string =
    lies-get _ _ c.args.index c.args.arguments.now c.in-Some.string
    (arguments-lie c.args.part.now _ _ _ c.requires.split) (sym c.in-Some.ensures) in
    let s = l.starts in
    let t = l.stops in
    (omega (arith, s), omega (arith, t))

pub returns : goal.returns
returns c =
    let xs = c.args.part.now in
    let args = c.args.arguments.now in
    let tokens : map leaf c.tokens-tokens.result.now ≡ xs = c.tokens-tokens.ensures in
    let t = rw c.source.ensures at c.extent_of-extent.ensures.trees in
    IfOk-weaker c.inline_site.result _ _ (λ _ h. record {
      string = c.in-Some.string;
      is_string = sym c.in-Some.ensures;
      literal = leaf c.in-Some-token_at.literal;
      is_literal = sym (rw tokens at c.in-Some-token_at.ensures.value);
      trees = t.0;
      end = c.extent_of-extent.result.end;
      are_up_to = rw c.ends_early.ensures at t.1;
      inlines = inlines-by _ _ _ _ _ _ _ _ _ _ _ _ _ _ _ (rw tokens at c.name_at.ensures) tokens
          (c.deref.ensures.value ∙ (c.in_ok-kept_arguments.ensures
          ∙ ap (arguments_before c.extent_of-extent.result.end) (after-one args c.args.index)))
          t.2 h;
    }) c.inline_site.ensures
