use Rattle.std.proofs.Common.{rules, sym}
use Rattle.std.proofs.lemmas.Bool.{false≢true}
use Rattle.literal_faults.proofs.Cuts.{fault-cut, string-fault}
use Rattle.literal_faults.proofs.Literals.{no-ordinary, ordinary}
use Rattle.literal_faults.proofs.fault.string_fault.Goals as goal

pub returns-in_err-kind-clause-literal : goal.returns-in_err-kind-clause-literal
returns-in_err-kind-clause-literal c = (
  λ _. rw c.requires (ordinary _ _ c.after_units-stop.ensures c.in_err-kind.ensures),
  λ _. search rules,
)

pub overflow_sub-result : goal.overflow_sub-result
overflow_sub-result c =
    (fault-cut _ _ _ _ c.utf8.text c.after_quote.utf8 c.requires c.after_units-stop.ensures
    c.after_quote.ensures).1.within

pub returns-clause-literal : goal.returns-clause-literal
returns-clause-literal c = (
  λ e. absurd (false≢true (sym e)),
  λ o. absurd (no-ordinary _ _ _ c.after_units-stop.ensures c.in_ok-kind.ensures
      (rw c.requires at o)),
)

pub returns-clause-fault : goal.returns-clause-fault
returns-clause-fault c =
    string-fault _ _ _ _ _ c.utf8.text c.after_quote.utf8 c.requires c.after_units-stop.ensures
    c.after_quote.ensures c.in_ok-kind.ensures

pub returns-clause-boundary : goal.returns-clause-boundary
returns-clause-boundary c =
    (fault-cut _ _ _ _ c.utf8.text c.after_quote.utf8 c.requires c.after_units-stop.ensures
    c.after_quote.ensures).1.boundary
