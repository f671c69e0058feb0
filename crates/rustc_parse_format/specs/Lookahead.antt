-- The moves over the rest of a text, as contracts see them.
use Rattle.std.specs.Prelude.{◌≡◌, ◌+◌, chars, length}
use Rattle.rustc_parse_format.specs.declared.parser.lookahead.Lookahead.{Lookahead}
use Rattle.rustc_parse_format.specs.Characters.{Text}

-- The rest is now t, and each character that was passed is counted.
pub record Moves (old new : Lookahead) (t : Text) : Type 0 where
  pub rest : chars new.rest.text.now ≡ t
  pub made : new.tally.pass_count + length t
      ≡ old.tally.pass_count + length (chars old.rest.text.now)
  pub left : new.tally.left_count ≡ old.tally.left_count
  pub undo_count : new.undo_count ≡ old.undo_count
