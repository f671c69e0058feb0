use Rattle.std.proofs.Common.{rules, chars}
use Rattle.rustc_parse_format.proofs.Readers.Steps.{counted_on, after_first-part}
use Rattle.rustc_parse_format.proofs.cursor.Cursor.skip_char.Goals as goal

pub invariant_of-self : goal.invariant_of-self
invariant_of-self c =
    let m = c.skip_char.ensures.moves in
    let part = after_first-part (chars c.self.inside.lookahead.rest.text.now) in (
      search rules,
      rw m.rest (counted_on _ _ _ _ _ m.made m.left part c.self.invariant.1),
    )
