use Rattle.std.proofs.Common.{get_or, refl, ◌∙◌, arith}
use Rattle.std.specs.Prelude.{◌==◌, ◌||◌, nat_le}
use Rattle.std.specs.Char.{is_ascii_alphanumeric}
use Rattle.std.proofs.lemmas.Bool.{agree_below_at}
use Rattle.rust_tokens.specs.declared.bytes.TheConstants.{SORTS}
use Rattle.rust_tokens.proofs.AsciiRuns.{word-byte}
use Rattle.rust_tokens.proofs.bytes.is_word_byte.Goals as goal

pub returns : goal.returns
returns c =
    agree_below_at (λ b. nat_le 51 (get_or SORTS b 0))
    (λ b. is_ascii_alphanumeric b || (b == 95)) 256 c.args.byte refl (omega arith)
    ∙ word-byte c.args.byte
