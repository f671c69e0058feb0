use Rattle.std.proofs.Common.{get_or, refl, arith}
use Rattle.std.specs.Prelude.{◌==◌}
use Rattle.std.proofs.lemmas.Bool.{agree_below_at}
use Rattle.rust_tokens.specs.declared.bytes.TheConstants.{SORTS}
use Rattle.rust_tokens.specs.Bytes.{is_sign}
use Rattle.rust_tokens.proofs.bytes.is_sign.Goals as goal

pub returns : goal.returns
returns c =
    agree_below_at (λ b. get_or SORTS b 0 == 50) (is_sign) 256
    c.args.byte refl (omega arith)
