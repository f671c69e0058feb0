-- The findings of faults of inline assembly, one after the other.
use Rattle.std.proofs.Common.{◌≡◌, ◌++◌, Bool, true, false, List, [], ◌∷◌, refl, ap, sym}
use Rattle.std.proofs.Common.{subst, ◌∙◌}
use Rattle.std.proofs.lemmas.List.{append_assoc, append-nil}
use Rattle.std.proofs.lemmas.List.Elements.{filter-append}
use Rattle.asm_faults.specs.AsmFaults.{AsmFault}
use Rattle.asm_faults.specs.Operands.{Operand}
use Rattle.source_report.specs.declared.report.Finding.{Finding}
use Rattle.asm_lint.specs.AsmFindings.{TellAllAsm, counted_asm, is_template_fault}

tell-join : (ss : List Operand) (fs gs : List AsmFault) (xs ys : List Finding)
    → TellAllAsm ss fs xs → TellAllAsm ss gs ys → TellAllAsm ss (fs ++ gs) (xs ++ ys)
tell-join ss [] gs [] ys h k = k
tell-join ss [] gs (x ∷ xs) ys h k = absurd h
tell-join ss (f ∷ fs) gs [] ys h k = absurd h
tell-join ss (f ∷ fs) gs (x ∷ xs) ys h k = (h.0, tell-join ss fs gs xs ys h.1 k)

counted-join : (b : Bool) (fs gs : List AsmFault)
    → counted_asm b fs ++ counted_asm b gs ≡ counted_asm b (fs ++ gs)
counted-join true fs gs = refl
counted-join false fs gs = sym (filter-append is_template_fault fs gs)

-- The findings so far of these faults.
abbrev pub Telling : List Operand → Bool → List AsmFault → List Finding → List Finding → Type 0
Telling ss b fs old now = (xs : List Finding) × (now ≡ old ++ xs)
    × TellAllAsm ss (counted_asm b fs) xs

pub telling-none : (ss : List Operand) (b : Bool) (old : List Finding) → Telling ss b [] old old
telling-none ss true old = ([], sym (append-nil old), tt)
telling-none ss false old = ([], sym (append-nil old), tt)

pub telling-more : (ss : List Operand) (b : Bool) (fs all : List AsmFault) (f : AsmFault)
    (old now next : List Finding) → all ≡ fs ++ f ∷ [] → Telling ss b fs old now
    → Telling ss b (f ∷ []) now next → Telling ss b all old next
telling-more ss b fs all f old now next e t x = (
  t.0 ++ x.0,
  x.1 ∙ (ap (λ v. v ++ x.0) t.1 ∙ append_assoc old t.0 x.0),
  subst (λ v. TellAllAsm ss (counted_asm b v) (t.0 ++ x.0)) (sym e)
      (subst (λ v. TellAllAsm ss v (t.0 ++ x.0)) (counted-join b fs (f ∷ []))
      (tell-join ss (counted_asm b fs) (counted_asm b (f ∷ [])) t.0 x.0 t.2 x.2)),
)
