use Rattle.std.proofs.Common.{get_or, refl, ◌∙◌, arith}
use Rattle.std.specs.Prelude.{◌==◌, ◌||◌, nat_le}
use Rattle.std.specs.Char.{is_ascii_alphabetic}
use Rattle.std.proofs.lemmas.Bool.{agree_below_at}
use Rattle.rust_tokens.specs.declared.bytes.TheConstants.{SORTS}
use Rattle.rust_tokens.proofs.AsciiRuns.{start-byte}
use Rattle.rust_tokens.proofs.bytes.is_start_byte.Goals as goal

pub returns : goal.returns
returns c =
    agree_below_at (λ b. nat_le 52 (get_or SORTS b 0))
    (λ b. (b == 95) || is_ascii_alphabetic b) 256 c.args.byte refl (omega arith)
    ∙ start-byte c.args.byte
