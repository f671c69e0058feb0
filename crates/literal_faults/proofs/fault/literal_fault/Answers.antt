use Rattle.std.proofs.Common.{sym, ◌∙◌, chars, Some, None, refl}
use Rattle.std.proofs.lemmas.Str.{IsCharBoundary-start}
use Rattle.literal_faults.proofs.Literals.{by-style, none-matched, some-matched}
use Rattle.literal_faults.proofs.fault.literal_fault.Goals as goal

pub returns-then-is_some-clause-literal : goal.returns-then-is_some-clause-literal
returns-then-is_some-clause-literal c =
    let x = some-matched c.raw_text.result _ _ (sym c.is_some.ensures ∙ c.if-is_some.true)
    c.raw_text.ensures.text in
    (λ _. (Some x.0.hashes, chars x.0.text.now, x.1), λ _. refl)

pub returns-in-None-clause-boundary : goal.returns-in-None-clause-boundary
returns-in-None-clause-boundary c = IsCharBoundary-start c.args.text.now c.utf8.text

pub returns-in-Some-eq34-default-clause-literal : goal.returns-in-Some-eq34-default-clause-literal
returns-in-Some-eq34-default-clause-literal c =
    let raw = none-matched c.raw_text.result _ _ (sym c.is_some.ensures ∙ c.if-is_some.false)
    c.raw_text.ensures.text in (
      λ n. let o = c.string_fault.ensures.literal.0 n in (None, o.0, o.1),
      λ a. c.string_fault.ensures.literal.1 (by-style _ raw a),
    )
