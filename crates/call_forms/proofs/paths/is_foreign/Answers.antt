use Rattle.std.proofs.Common.{◌∙◌, [], ap, reverse, take}
use Rattle.std.specs.Prelude.{◌&&◌, not}
use Rattle.std.proofs.lemmas.List.{take_min}
use Rattle.call_forms.specs.Paths.{has_known, is_foreign_after}
use Rattle.call_forms.proofs.paths.is_foreign.Goals as goal

pub returns-then-ends_path : goal.returns-then-ends_path
returns-then-ends_path c =
    let bs = c.as_bytes-bytes.result.now in
    let n = c.args.offset in
    let front = reverse (take c.min.result bs) in
    ap not c.has_known.ensures
    ∙ (ap (λ t. t && not (has_known [] front)) c.if-ends_path.ensures
    ∙ (ap (λ k. is_foreign_after (reverse (take k bs))) c.min.ensures
    ∙ (ap (λ v. is_foreign_after (reverse v)) (take_min n bs)
    ∙ ap (λ v. is_foreign_after (reverse (take n v))) c.as_bytes-bytes.ensures.value)))

pub returns-else-ends_path : goal.returns-else-ends_path
returns-else-ends_path c =
    let bs = c.as_bytes-bytes.result.now in
    let n = c.args.offset in
    let front = reverse (take c.min.result bs) in
    c.if-ends_path.false
    ∙ (ap (λ t. t && not (has_known [] front)) c.if-ends_path.ensures
    ∙ (ap (λ k. is_foreign_after (reverse (take k bs))) c.min.ensures
    ∙ (ap (λ v. is_foreign_after (reverse v)) (take_min n bs)
    ∙ ap (λ v. is_foreign_after (reverse (take n v))) c.as_bytes-bytes.ensures.value)))
