use Rattle.std.proofs.Common.{◌≡◌, Bool, true, false, ◌||◌, [], refl, sym}
use Rattle.placeholder_check.specs.Collection.{is_noted}
use Rattle.placeholder_check.proofs.uses.add_name.Goals as goal

or-false : (b : Bool) → (b || false) ≡ b
or-false true = refl
or-false false = refl

pub returns : goal.returns
returns c = record {
  indices = λ n. sym (or-false (is_noted c.args.uses.now.indices n));
  names = λ ts f. c.in_ok-insert_name.ensures ts [] refl f;
}
