use Rattle.std.proofs.Common.{[], refl, subst}
use Rattle.std.proofs.lemmas.List.{append-nil}
use Rattle.asm_lint.specs.Attributes.{Fronts}
use Rattle.asm_lint.proofs.attributes.front_at.Goals as goal

pub returns-clause-item : goal.returns-clause-item
returns-clause-item c = record {
  parts = subst (λ v. Fronts c.args.source.now c.args.start v c.loop-next_end.end)
      (append-nil c.loop-next_end.starts.items)
      (c.loop-next_end.invariant.follow [] c.loop-next_end.end refl);
  is_all = c.in_default.ensures.none refl;
}
