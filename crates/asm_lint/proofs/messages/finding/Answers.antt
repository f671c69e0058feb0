use Rattle.std.proofs.Common.{◌∙◌, ap}
use Rattle.std.proofs.lemmas.Result.{IfOk-weaker}
use Rattle.diagnostic.specs.Parts.{Diagnostic}
use Rattle.text_faults.specs.declared.spots.Spot.{Spot}
use Rattle.asm_lint.specs.Findings.{said_by}
use Rattle.asm_lint.proofs.Noting.{nothing_suggested}
use Rattle.asm_lint.proofs.messages.finding.Goals as goal

pub finding_of-requires : goal.finding_of-requires
finding_of-requires c = ap (λ (d : Diagnostic Spot). d.suggestions) c.in_ok-diagnostic.ensures
    ∙ nothing_suggested _ _

pub returns-clause-said : goal.returns-clause-said
returns-clause-said c = IfOk-weaker c.finding_of.result _ _
    (λ _ e. e ∙ ap (λ (d : Diagnostic Spot). said_by d) c.in_ok-diagnostic.ensures)
    c.finding_of.ensures.said
