-- A literal is longer than its hashes.
use Rattle.std.proofs.Common.{◌+◌, ◌<◌, ◌^◌, ℕ, List, Option, Some, None, chars, length}
use Rattle.std.proofs.Common.{IsUtf8, arith}
use Rattle.rustc_parse_format.specs.Characters.{Text}
use Rattle.rustc_parse_format.specs.Literal.{IsLiteral}
use Rattle.rustc_parse_format.specs.World.{hashes}
use Rattle.rustc_parse_format.proofs.Sources.Ends.{raw-room}

pub fewer-hashes : (style : Option ℕ) (bs : List ℕ) (t : Text) → IsUtf8 bs → length bs < 2 ^ 63
    → IsLiteral style (chars bs) t → hashes style + 1 < 2 ^ 63
fewer-hashes None bs t u n h = omega arith
fewer-hashes (Some m) bs t u n h = let r = raw-room m bs t u h in omega (arith, n, r)
