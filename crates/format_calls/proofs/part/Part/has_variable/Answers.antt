use Rattle.format_calls.specs.declared.part.Target.TheVariants.{Variable}
use Rattle.format_calls.proofs.part.Part.has_variable.Goals as goal

pub returns : goal.returns
returns c =
    rw (← c.self.view_is)
    (c.holds_target.ensures Variable c.self.inside.source
    (rw c.deref.ensures.value c.self.invariant.0))
