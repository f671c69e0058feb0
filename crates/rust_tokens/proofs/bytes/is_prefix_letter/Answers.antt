use Rattle.std.proofs.Common.{get_or, refl, arith}
use Rattle.std.specs.Prelude.{◌==◌}
use Rattle.std.proofs.lemmas.Bool.{agree_below_at}
use Rattle.rust_tokens.specs.declared.bytes.TheConstants.{SORTS}
use Rattle.rust_tokens.specs.Bytes.{is_prefix_letter}
use Rattle.rust_tokens.proofs.bytes.is_prefix_letter.Goals as goal

pub returns : goal.returns
returns c =
    agree_below_at (λ b. get_or SORTS b 0 == 52) (is_prefix_letter) 256
    c.args.byte refl (omega arith)
