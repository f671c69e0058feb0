use Rattle.std.proofs.Common.{ap, ◌∙◌, Result, Ok, Err}
use Rattle.std.specs.Prelude.{IfOk}
use Rattle.std.specs.Int.{from_bool}
use Rattle.format_tokens.proofs.Counts.{precision-takes}
use Rattle.format_tokens.proofs.parts.precision.Goals as goal

if_three : {T E : Type 0} (r : Result T E) {P Q R S : T → Type 0}
    → ((x : T) → P x → Q x → R x → S x) → IfOk r P → IfOk r Q → IfOk r R → IfOk r S
if_three (Ok x) f p q s = f x p q s
if_three (Err e) f p q s = tt

pub returns : goal.returns
returns c = if_three c.count.result
    (λ rest. precision-takes _ _ _ _ _ _ _ _ (c.from.ensures ∙ ap from_bool c.begins.ensures)
    c.in_ok-rest_after.ensures)
    c.count.ensures.count c.count.ensures.star c.count.ensures.none
