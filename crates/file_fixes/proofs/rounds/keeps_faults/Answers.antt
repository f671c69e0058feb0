use Rattle.std.proofs.Common.{◌∙◌, ap, refl, rules}
use Rattle.std.proofs.lemmas.Result.{IfOk-weaker}
use Rattle.file_fixes.specs.FaultSearch.{are_found}
use Rattle.file_fixes.specs.FileFixes.{AreGone, unmended_findings}
use Rattle.file_fixes.proofs.FaultLaws.{decides}
use Rattle.file_fixes.proofs.rounds.keeps_faults.Goals as goal

pub returns : goal.returns
returns c =
    let xs = c.args.faults.now in
    let gone : AreGone xs c.args.new.now.findings.items = search rules in
    IfOk-weaker c.keeps_unmended.result _ _
    (λ b h.
    let k = decides c.args.old.now c.args.new.now xs b (c.if-not-is_no_worse.ensures.0 refl)
    (h ∙ ap (are_found (unmended_findings 0 xs)) c.as_slice-2.ensures.value) in (
      λ t. let s = k.0 t in (s.0, s.1, gone),
      λ s. k.1 (s.0, s.1),
    ))
    c.keeps_unmended.ensures
