use Rattle.std.proofs.Common.{◌∙◌, ℕ, List, IsUtf8, ap, chars, refl, subst, sym}
use Rattle.std.proofs.lemmas.Result.{IfOk-weaker}
use Rattle.std.proofs.lemmas.Str.{IsUtf8-string_bytes}
use Rattle.asm_lint.specs.Literals.{without_crs}
use Rattle.inlined_arguments.proofs.Keeping.{never}
use Rattle.file_inlines.proofs.edits.make_literal.Goals as goal

pub returns-in-None : goal.returns-in-None
returns-in-None c = never (λ h.
    (rw c.in-None.is at c.in_ok-new.ensures.none) refl h.are_apart h.is_text)

pub returns-in-Some : goal.returns-in-Some
returns-in-Some c =
    let made = rw c.in-Some.is at c.in_ok-new.ensures.some in
    let text = sym made.1 ∙ sym c.as_str.ensures.value in
    IfOk-weaker c.is_literal.result _ _ (λ b h. (
      λ t. record {
        are_apart = made.0;
        is_text = subst (λ (v : List ℕ). IsUtf8 v) made.1 (IsUtf8-string_bytes c.in-Some.new);
        is_new = ap (λ v. without_crs (chars v)) text ∙ h.0 t
            ∙ ap chars c.as_str-in-Some.ensures.value;
      },
      λ m. h.1 (ap (λ v. without_crs (chars v)) (sym text) ∙ m.is_new
          ∙ ap chars (sym c.as_str-in-Some.ensures.value)),
    )) c.is_literal.ensures
