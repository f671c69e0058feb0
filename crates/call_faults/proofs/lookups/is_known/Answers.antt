use Rattle.std.proofs.Common.{sym}
use Rattle.call_faults.proofs.Traits.{known-one}
use Rattle.call_faults.proofs.lookups.is_known.Goals as goal

pub returns-then-names_trait : goal.returns-then-names_trait
returns-then-names_trait c =
    rw (sym c.chars-characters.ensures.rest) (known-one _ _ c.in-Some.c
    c.next-then-names_trait.result
    c.is_none.result (rw c.chars-characters.ensures.rest c.utf8.ty) c.in-Some.ensures.steps.0
    c.next-then-names_trait.ensures.steps.2 c.is_none.ensures (sym c.if-names_trait.ensures))
