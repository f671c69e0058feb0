use Rattle.std.proofs.Common.{ap, codes, map, refl, sym, ◌∙◌}
use Rattle.std.proofs.lemmas.Bool.{false≢true}
use Rattle.std.proofs.lemmas.Str.Pattern.{contains_text}
use Rattle.source_lint.proofs.Defining.{defines-all, defines-more, defines-none, has}
use Rattle.source_lint.proofs.Undefined.{undefined}
use Rattle.source_lint.proofs.macros.macro_names.Goals as goal

pub returns-then-not-contains : goal.returns-then-not-contains
returns-then-not-contains c =
    let word = codes "macro_rules" in
    let found = contains_text c.contains.result word c.args.text.now c.contains.ensures.cases in
    let d = undefined c.args.text.now c.utf8.text
    (λ h. false≢true (sym c.if-not-contains.true ∙ found.1 h)) in (
      d.0,
      d.1,
      λ n. ap (λ v. has (map (λ w. w.now) v) n) c.new-names.ensures.empty
          ∙ ap (λ v. has v n) (sym d.2),
    )

pub loop-token-init : goal.loop-token-init
loop-token-init c = defines-none _ _ (ap (λ v. map (λ w. w.now) v) c.new-names.ensures.empty)

pub loop-token-preserved : goal.loop-token-preserved
loop-token-preserved c =
    defines-more _ _ _ _ _ _ _ _ c.loop-token.invariant c.in-Some.ensures.some
    c.in_ok-put_definition.ensures

pub returns : goal.returns
returns c =
    let d = defines-all _ _ _ _ _ c.loop-token.invariant (c.in_default.ensures.none refl).0 in
    (d.0, c.new-rest.ensures.left d.0 d.1, d.2)
