use Rattle.std.proofs.Common.{chars}
use Rattle.rustc_parse_format.specs.Characters.{word}
use Rattle.rustc_parse_format.proofs.Bytes.WordBytes.{word-rest}
use Rattle.rustc_parse_format.proofs.characters.split_wide_word.Goals as goal

pub text_before-requires : goal.text_before-requires
text_before-requires c = let t = chars c.args.text.now in (
  word t,
  rw (c.after_while-rest.ensures.rest, c.after_first.ensures.rest)
      (word-rest t c.requires),
)

pub returns-clause-word : goal.returns-clause-word
returns-clause-word c = let t = chars c.args.text.now in
    c.text_before.ensures (word t)
    (rw (c.after_while-rest.ensures.rest, c.after_first.ensures.rest)
    (word-rest t c.requires))
