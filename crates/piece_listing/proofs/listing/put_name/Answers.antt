use Rattle.std.proofs.Common.{◌≡◌, encode_utf8_all, chars, arith}
use Rattle.std.proofs.lemmas.Str.{encodes-chars}
use Rattle.std.proofs.lemmas.Grind.{common_steps}
use Rattle.piece_listing.proofs.listing.put_name.Goals as goal

-- The bytes of a text are the UTF-8 of its characters.
pub returns : goal.returns
returns c =
    let e : encode_utf8_all (chars c.args.name.now) ≡ c.args.name.now =
    encodes-chars _ c.utf8.name in
    rw e (grind (arith, common_steps))
