use Rattle.std.proofs.Common.{subst}
use Rattle.macro_owners.specs.Facts.{HasMore}
use Rattle.macro_owners.specs.Names.{kept}
use Rattle.macro_owners.proofs.facts.add_token.Goals as goal

pub returns : goal.returns
returns c = record {
  given = subst (λ w. HasMore c.args.facts.now.given (kept w) c.put.new.names)
      c.given_name.ensures c.in_ok-put.ensures;
  imported = subst (λ w. HasMore c.args.facts.now.imported (kept w) c.put-2.new.names)
      c.imported_name.ensures c.in_ok-put-2.ensures;
  used = subst (λ w. HasMore c.args.facts.now.used (kept w) c.put-3.new.names)
      c.used_name.ensures c.in_ok-put-3.ensures;
  spoiled = subst (λ w. HasMore c.args.facts.now.spoiled (kept w) c.put-4.new.names)
      c.spoiled_name.ensures c.in_ok-put-4.ensures;
}
