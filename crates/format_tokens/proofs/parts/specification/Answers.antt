use Rattle.std.proofs.Common.{sym, ◌∙◌, inl, inr}
use Rattle.std.proofs.lemmas.Result.{IfOk-weaker}
use Rattle.format_tokens.proofs.Specifications.{
  diagnostic-rest_after,
  format-rest_after,
  modifier-rest_after,
}
use Rattle.format_tokens.proofs.parts.specification.Goals as goal

pub returns-in-Format : goal.returns-in-Format
returns-in-Format c =
    rw c.in-Format.is (IfOk-weaker c.format.result _ _
    (λ rest. format-rest_after _ _ _ _ _ _ _ (sym c.begins.ensures ∙ c.if-not-begins.false)
    c.in_ok-rest_after.ensures)
    c.format.ensures)

pub returns-in-InlineAsm : goal.returns-in-InlineAsm
returns-in-InlineAsm c =
    rw c.in-InlineAsm.is (IfOk-weaker c.take-in-InlineAsm.result _ _
    (λ rest. modifier-rest_after _ _ _ _ _ _ _ _ (sym c.begins.ensures ∙ c.if-not-begins.false)
    c.in_ok-rest_after.ensures c.width_of.ensures)
    (rw c.word_kind-kind.ensures at c.take-in-InlineAsm.ensures))

pub returns-in-Diagnostic : goal.returns-in-Diagnostic
returns-in-Diagnostic c =
    IfOk-weaker c.take-in-Diagnostic.result _ _
    (λ rest h. diagnostic-rest_after _ _ _ _ _ _ _ _ _ (sym c.begins.ensures
    ∙ c.if-not-begins.false) c.in_ok-rest_after.ensures c.width_of-in-Diagnostic.ensures h
    (elim c.in-Diagnostic.is [
      | inl e ↦ rw e tt
      | inr e ↦ rw e tt
    ]))
    c.take-in-Diagnostic.ensures
