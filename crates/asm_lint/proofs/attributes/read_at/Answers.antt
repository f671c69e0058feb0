use Rattle.std.proofs.Common.{◌≡◌, ◌∙◌, ◌+◌, ◌<◌, [], List, ap, arith, chars, false, inl, inr}
use Rattle.std.proofs.Common.{length, map, refl, subst, sym}
use Rattle.std.specs.List.{AllByRecursion}
use Rattle.std.proofs.lemmas.List.{append-nil}
use Rattle.rust_trees.specs.Leaves.{Leaf, leaf}
use Rattle.rust_trees.proofs.Growing.{pair-within}
use Rattle.format_calls.specs.Arguments.{AreArguments}
use Rattle.format_calls.specs.declared.split.Argument.{Argument}
use Rattle.asm_lint.specs.Attributes.{ReadsTexts, texts_from}
use Rattle.asm_lint.proofs.AsmSteps.{starts-there}
use Rattle.asm_lint.proofs.Openings.{opening-once}
use Rattle.call_forms.proofs.MovedArguments.{arguments-lie}
use Rattle.asm_lint.proofs.attributes.read_at.Goals as goal

pub returns-in_default-clause-read : goal.returns-in_default-clause-read
returns-in_default-clause-read c =
    ([], sym (append-nil _), inl (λ k a. c.in_default.ensures.none refl k a, refl))

pub literals-requires : goal.literals-requires
literals-requires c =
    let xs = c.args.source.now in
    let a = rw c.in-Some-2.is at c.in_ok-options.ensures.some in
    subst (λ (v : List Argument).
    AllByRecursion (λ (b : Argument). b.start < length c.tokens.result.now) v)
    (sym c.deref.ensures.value)
    (starts-there leaf c.tokens.result.now xs (a.0 + 1) c.in-Some.close c.in-Some-2.options.items
    c.tokens.ensures (pair-within xs a.0 c.in-Some.close a.1).1
    (arguments-lie xs (a.0 + 1) c.in-Some.close c.in-Some-2.options.items a.2))

pub returns-clause-read : goal.returns-clause-read
returns-clause-read c =
    let xs = c.args.source.now in
    let i = c.args.index in
    let close = c.in-Some.close in
    let options = c.in-Some-2.options.items in
    let a = rw c.in-Some-2.is at c.in_ok-options.ensures.some in
    let attribute = c.in-Some.ensures.some in
    let e = opening-once xs a.0 (i + 6) close a.1 attribute.list in
    let m : a.0 + 1 ≡ i + 7 = omega (arith, e) in
    let t = c.in_ok-read_texts.ensures.read in
    let texts : map leaf c.deref-2.result.now ≡ texts_from xs false false options =
    ap (map leaf) c.deref-2.ensures.value ∙ (rw c.tokens.ensures at c.in_ok-literals.ensures
    ∙ ap (λ (v : List Argument). texts_from xs false false v) c.deref.ensures.value) in (
      t.0,
      t.1,
      inr (
        close,
        options,
        attribute,
        subst (λ v. AreArguments xs v options close) m a.2,
        subst (λ (v : List Leaf). ReadsTexts (chars c.args.item.name.now)
            (map (λ p. p.now) c.args.item.parameters.now) v t.0) texts t.2,
      ),
    )
