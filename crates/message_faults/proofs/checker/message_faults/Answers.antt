use Rattle.std.proofs.Common.{◌∙◌}
use Rattle.std.proofs.lemmas.Result.{IfOk-weaker}
use Rattle.text_faults.specs.Texts.{text_fault}
use Rattle.message_faults.specs.Views.{start}
use Rattle.message_faults.proofs.Knowing.{same_faults}
use Rattle.message_faults.proofs.checker.message_faults.Goals as goal

pub returns : goal.returns
returns c = IfOk-weaker c.faults_of.result _ _ (λ _ e ps h. e
    ∙ same_faults ps c.args.message.parameters h (start c.args.message)
    (text_fault (start c.args.message))) c.faults_of.ensures
