use Rattle.std.proofs.Common.{◌∙◌, sym, subst, None, rules}
use Rattle.std.proofs.lemmas.List.{get_or_past, get_or_read}
use Rattle.rust_trees.specs.Forests.{ArePartners}
use Rattle.rust_trees.proofs.Partners.{is-partner}
use Rattle.rust_trees.proofs.source.Source.partner.Goals as goal

pub returns-then-index-len-clause-each : goal.returns-then-index-len-clause-each
returns-then-index-len-clause-each c j h =
    let e = is-partner _ _ _ _ c.self.invariant.is_complete
    (subst (λ w. ArePartners w c.args.index j) (sym c.self.view_is) h) in
    get_or_read c.self.inside.partners.items c.args.index c.index.result.now (search rules)
    c.index.ensures None ∙ e

pub returns-else-index-len-clause-each : goal.returns-else-index-len-clause-each
returns-else-index-len-clause-each c j h =
    let e = is-partner _ _ _ _ c.self.invariant.is_complete
    (subst (λ w. ArePartners w c.args.index j) (sym c.self.view_is) h) in
    sym (get_or_past c.self.inside.partners.items c.args.index None (search rules)) ∙ e
