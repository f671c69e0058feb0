use Rattle.std.proofs.Common.{◌∙◌, ◌≡◌, ap, drop, length, refl, rules, sym}
use Rattle.macro_owners.specs.Names.{has}
use Rattle.macro_owners.proofs.Finding.{name-end, name-found, name-later, texts}
use Rattle.macro_owners.proofs.names.find_name.Goals as goal

pub loop-name-init : goal.loop-name-init
loop-name-init c = refl

pub loop-name-preserved : goal.loop-name-preserved
loop-name-preserved c =
    name-later c.args.names.now c.loop-name.name-index _ _ _ _ (search rules)
    c.as_bytes.ensures.value c.if-eq.ensures c.loop-name.invariant

pub returns-then-eq-clause-found : goal.returns-then-eq-clause-found
returns-then-eq-clause-found c =
    name-found c.args.names.now c.loop-name.name-index _ _ _ _ (search rules)
    c.as_bytes.ensures.value c.if-eq.ensures c.loop-name.invariant

pub returns-clause-found : goal.returns-clause-found
returns-clause-found c =
    let n : c.loop-name.name-index ≡ length c.args.names.now = search rules in
    sym (c.loop-name.invariant
    ∙ (ap (λ i. has (texts (drop i c.args.names.now)) c.args.word.now) n
    ∙ name-end c.args.names.now c.args.word.now))
