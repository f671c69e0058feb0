use Rattle.std.proofs.Common.{◌∙◌, ◌++◌, ◌∷◌, [], List, ap, arith, length, refl, subst, sym}
use Rattle.std.proofs.lemmas.List.{append_assoc, append-nil, length-map}
use Rattle.rust_trees.specs.Leaves.{Leaf, leaf}
use Rattle.asm_lint.specs.Attributes.{ReadsItems}
use Rattle.asm_lint.proofs.attributes.read_attributes.Goals as goal

pub loop-index-init : goal.loop-index-init
loop-index-init c = record { read = ([], [], sym (append-nil _), λ ks others h. h); spans = λ h. h }

pub loop-index-preserved : goal.loop-index-preserved
loop-index-preserved c =
    let xs = c.args.source.now in
    let p = c.loop-index.invariant.read in
    let r = c.in_ok-read_item.ensures.read in
    let k = c.in_ok-front.front.end in
    record {
      read = (
        p.0 ++ k ∷ [],
        p.1 ++ r.0,
        r.1 ∙ (ap (λ v. v ++ r.0) p.2 ∙ append_assoc _ p.1 r.0),
        λ ks others h. subst (λ v. ReadsItems xs 0 v ((p.1 ++ r.0) ++ others))
            (sym (append_assoc p.0 (k ∷ []) ks))
            (subst (λ v. ReadsItems xs 0 (p.0 ++ k ∷ ks) v) (sym (append_assoc p.1 r.0 others))
            (p.3 (k ∷ ks) (r.0 ++ others) (
              r.0,
              others,
              c.in_ok-front.front.starts.items,
              refl,
              c.in_ok-front.ensures.item,
              r.2,
              h,
            ))),
      );
      spans = λ h. c.in_ok-read_item.ensures.spans (c.loop-index.invariant.spans h);
    }

pub returns-clause-read : goal.returns-clause-read
returns-clause-read c =
    let xs = c.args.source.now in
    let p = c.loop-index.invariant.read in
    let n = length-map c.tokens-count.result.now leaf in
    let m = ap (λ (v : List Leaf). length v) c.tokens-count.ensures in
    let f = c.loop-index-test.false in (
      p.0,
      p.1,
      p.2,
      subst (λ v. ReadsItems xs 0 v p.1) (append-nil p.0)
          (subst (λ v. ReadsItems xs 0 (p.0 ++ []) v) (append-nil p.1)
          (p.3 [] [] (omega (arith, n, m, f), refl))),
    )
