use Rattle.std.proofs.Common.{rules, chars}
use Rattle.rustc_parse_format.proofs.Readers.Steps.{counted_on, after_word-part}
use Rattle.rustc_parse_format.proofs.cursor.Cursor.word.Goals as goal

pub invariant_of-self : goal.invariant_of-self
invariant_of-self c =
    let m = c.word.ensures.moves in
    let part = after_word-part (chars c.self.inside.lookahead.rest.text.now) in (
      search rules,
      rw m.rest (counted_on _ _ _ _ _ m.made m.left part c.self.invariant.1),
    )
