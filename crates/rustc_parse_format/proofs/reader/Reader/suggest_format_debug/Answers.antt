use Rattle.std.proofs.Common.{◌≡◌, true, false, rules}
use Rattle.rustc_parse_format.specs.Characters.{after_first, begins_with, first_passes}
use Rattle.rustc_parse_format.specs.Characters.{is_id_start}
use Rattle.rustc_parse_format.proofs.Readers.WordFronts.{late_nowhere}
use Rattle.rustc_parse_format.proofs.reader.Reader.suggest_format_debug.Goals as goal

pub returns-then-not-is_word_next-clause-state : goal.returns-then-not-is_word_next-clause-state
returns-then-not-is_word_next-clause-state c =
    let t = c.args.self.now.rest in
    let colon : begins_with 58 (after_first t) ≡ true = search rules in
    let none : first_passes is_id_start (after_first (after_first t)) ≡ false = search rules in
    rw (late_nowhere c.args.self.now.next t colon none) (search rules)
