use Rattle.std.proofs.Common.{refl, subst}
use Rattle.macro_owners.specs.Facts.{HasMore}
use Rattle.macro_owners.specs.Names.{kept}
use Rattle.macro_owners.proofs.facts.Facts.with_name.Goals as goal

pub returns : goal.returns
returns c = record {
  given = subst (λ w. HasMore c.args.self.given (kept w) c.put.new.names) c.as_bytes.ensures.value
      c.in_ok-put.ensures;
  imported = refl;
  used = refl;
  spoiled = refl;
}
