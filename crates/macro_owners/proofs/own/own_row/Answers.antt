use Rattle.std.proofs.Common.{◌≡◌, Some, refl, subst, sym}
use Rattle.std.specs.Prelude.{slice_get}
use Rattle.rust_trees.specs.Leaves.{leaf}
use Rattle.macro_owners.proofs.own.own_row.Goals as goal

pub returns : goal.returns
returns c = λ es h. let x = leaf c.in_ok-token.token in record {
  calls = c.args.calls.now;
  are_calls = h;
  index = c.args.given.name;
  is_own = c.in_ok-rule.ensures;
  name = x;
  is_token = subst (λ v. slice_get v c.args.given.name ≡ Some x) c.tokens.ensures
      (sym c.in_ok-token.ensures.value);
  is_plain = sym c.if-not-is_plain.ensures;
  is_text = refl;
}
