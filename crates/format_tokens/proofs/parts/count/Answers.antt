use Rattle.std.proofs.Common.{codes, refl}
use Rattle.std.proofs.lemmas.Result.{IfOk-weaker}
use Rattle.format_tokens.proofs.Counts.{count-is, count-name, count-param}
use Rattle.format_tokens.proofs.parts.count.Goals as goal

pub returns-in-CountIs-clause-count : goal.returns-in-CountIs-clause-count
returns-in-CountIs-clause-count c =
    rw c.in-CountIs.is (IfOk-weaker c.take.result _ _
    (λ rest. count-is _ _ _ _ _ _ c.run_width.ensures)
    (rw c.integer_kind.ensures at c.take.ensures))

pub returns-in_ok-dollar-in-CountIsParam-clause-count :
    goal.returns-in_ok-dollar-in-CountIsParam-clause-count
returns-in_ok-dollar-in-CountIsParam-clause-count c =
    rw c.in-CountIsParam.is (IfOk-weaker c.take-in-CountIsParam-2.result _ _
    (λ rest. count-param _ _ _ _ _ _ _ _ c.run_width-in-CountIsParam.ensures
    (rw c.integer_kind-in-CountIsParam.ensures at c.in_ok-dollar-in-CountIsParam.ensures))
    c.take-in-CountIsParam-2.ensures)

pub returns-in_ok-dollar-in-CountIsName-clause-count :
    goal.returns-in_ok-dollar-in-CountIsName-clause-count
returns-in_ok-dollar-in-CountIsName-clause-count c =
    rw c.in-CountIsName.is (IfOk-weaker c.take-in-CountIsName-2.result _ _
    (λ rest. count-name _ _ _ _ _ _ _ _ c.width_of.ensures
    (rw c.word_kind-kind.ensures at c.in_ok-dollar-in-CountIsName.ensures))
    c.take-in-CountIsName-2.ensures)

pub returns-in-CountIsStar-clause-star : goal.returns-in-CountIsStar-clause-star
returns-in-CountIsStar-clause-star c =
    IfOk-weaker c.take-in-CountIsStar.result _ _ (λ rest h n r e v. h (codes "*") r e refl)
    c.take-in-CountIsStar.ensures
