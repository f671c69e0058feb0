-- The findings of faults, one after the other.
use Rattle.std.proofs.Common.{◌≡◌, ◌++◌, Bool, true, false, List, [], ◌∷◌, refl, ap, sym}
use Rattle.std.proofs.Common.{subst, ◌∙◌, string_bytes}
use Rattle.std.proofs.lemmas.List.{append_assoc, append-nil}
use Rattle.std.proofs.lemmas.List.Elements.{filter-append}
use Rattle.call_faults.specs.CallFaults.{CallFault}
use Rattle.call_faults.specs.Labels.{Call}
use Rattle.call_faults.specs.Spots.{Edit}
use Rattle.source_report.specs.declared.report.Edit.{Edit as FileEdit}
use Rattle.source_report.specs.declared.report.Finding.{Finding}
use Rattle.source_lint.specs.Findings.{HasText, TellAll, TellEdits, counted_faults, is_text_fault}

tell-join : (b : Bool) (c : Call) (fs gs : List CallFault) (xs ys : List Finding)
    → TellAll b c fs xs → TellAll b c gs ys → TellAll b c (fs ++ gs) (xs ++ ys)
tell-join b c [] gs [] ys h k = k
tell-join b c [] gs (x ∷ xs) ys h k = absurd h
tell-join b c (f ∷ fs) gs [] ys h k = absurd h
tell-join b c (f ∷ fs) gs (x ∷ xs) ys h k = (h.0, tell-join b c fs gs xs ys h.1 k)

counted-join : (b : Bool) (fs gs : List CallFault)
    → counted_faults b fs ++ counted_faults b gs ≡ counted_faults b (fs ++ gs)
counted-join true fs gs = refl
counted-join false fs gs = sym (filter-append is_text_fault fs gs)

-- The findings so far of these faults.
abbrev pub Telling : Call → Bool → List CallFault → List Finding → List Finding → Type 0
Telling c b fs old now = (xs : List Finding) × (now ≡ old ++ xs)
    × TellAll b c (counted_faults b fs) xs

pub telling-none : (c : Call) (b : Bool) (old : List Finding) → Telling c b [] old old
telling-none c true old = ([], sym (append-nil old), tt)
telling-none c false old = ([], sym (append-nil old), tt)

pub telling-more : (c : Call) (b : Bool) (fs all : List CallFault) (f : CallFault)
    (old now next : List Finding) → all ≡ fs ++ f ∷ [] → Telling c b fs old now
    → Telling c b (f ∷ []) now next → Telling c b all old next
telling-more c b fs all f old now next e t x = (
  t.0 ++ x.0,
  x.1 ∙ (ap (λ v. v ++ x.0) t.1 ∙ append_assoc old t.0 x.0),
  subst (λ v. TellAll b c (counted_faults b v) (t.0 ++ x.0)) (sym e)
      (subst (λ v. TellAll b c v (t.0 ++ x.0)) (counted-join b fs (f ∷ []))
      (tell-join b c (counted_faults b fs) (counted_faults b (f ∷ [])) t.0 x.0 t.2 x.2)),
)

-- One edit more.
pub edits-more : (es : List Edit) (e : Edit) (xs : List FileEdit) (x : FileEdit) → TellEdits es xs
    → HasText e (string_bytes x.text) → TellEdits (es ++ e ∷ []) (xs ++ x ∷ [])
edits-more [] e [] x h k = (k, tt)
edits-more [] e (y ∷ ys) x h k = absurd h
edits-more (d ∷ ds) e [] x h k = absurd h
edits-more (d ∷ ds) e (y ∷ ys) x h k = (h.0, edits-more ds e ys x h.1 k)
