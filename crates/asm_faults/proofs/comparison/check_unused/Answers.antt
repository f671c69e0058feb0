use Rattle.std.proofs.Common.{◌≡◌, ◌++◌, ◌∙◌, ℕ, Bool, List, ap, false, get_or, map}
use Rattle.std.specs.List.{list_any}
use Rattle.asm_faults.specs.Comparison.{means, unused_faults, unused_from}
use Rattle.asm_faults.specs.Views.{seen_fault, seen_lookup, seen_operand}
use Rattle.asm_faults.proofs.Marking.{unused-same}
use Rattle.asm_faults.proofs.comparison.check_unused.Goals as goal

pub returns : goal.returns
returns c = λ ss h.
    let ls = map seen_lookup c.args.lookups.now in
    let marked : (i : ℕ) → get_or c.deref-2.result.now i false ≡ list_any (means ss i) ls
    = λ i. ap (λ (bs : List Bool). get_or bs i false) c.deref-2.ensures.value
    ∙ c.in_ok-marks.ensures ss h i in
    let slots : map seen_operand c.deref.result.now ≡ ss
    = ap (map seen_operand) c.deref.ensures.value ∙ h.slots in
    c.in_ok-push_unused.ensures
    ∙ ap (λ (is : List ℕ). map seen_fault c.args.faults.now.items ++ unused_faults is)
    (c.in_ok-unused_indices.ensures
    ∙ unused-same (λ i. get_or c.deref-2.result.now i false) (λ i. list_any (means ss i) ls) marked
    0 (map seen_operand c.deref.result.now)
    ∙ ap (unused_from (λ i. list_any (means ss i) ls) 0) slots)
