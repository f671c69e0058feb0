-- The faults of an integer or a word at the start of a text, by its first character.
use Rattle.std.proofs.Common.{◌≡◌, ◌++◌, true, false, [], ◌∷◌, ap, ◌∙◌}
use Rattle.std.specs.Char.{is_ascii_digit}
use Rattle.std.proofs.lemmas.List.{append-nil}
use Rattle.rustc_parse_format.specs.Characters.{Text, is_id_start, first_passes}
use Rattle.rustc_parse_format.specs.PartFaults.{argument_faults, word_faults, number_faults}
use Rattle.rustc_parse_format.proofs.Grammar.CleanWords.{digit_word, no_digits, no_word}
use Rattle.rustc_parse_format.proofs.Grammar.CleanWords.{no_word_at_end, no_digits_at_end}

pub faults_at_digit : (t : Text) → first_passes is_ascii_digit t ≡ true
    → argument_faults t ≡ number_faults t
unfolding argument_faults
faults_at_digit [] h = cc h
faults_at_digit (c ∷ t) h = ap (λ fs. number_faults (c ∷ t) ++ fs) (digit_word c t h)
    ∙ append-nil (number_faults (c ∷ t))

pub faults_at_word : (t : Text) → first_passes is_ascii_digit t ≡ false
    → argument_faults t ≡ word_faults t
unfolding argument_faults
faults_at_word [] h = ap (λ fs. fs ++ word_faults []) no_digits_at_end
faults_at_word (c ∷ t) h = ap (λ fs. fs ++ word_faults (c ∷ t)) (no_digits c t h)

pub faults_nowhere : (t : Text) → first_passes is_ascii_digit t ≡ false
    → first_passes is_id_start t ≡ false → argument_faults t ≡ []
faults_nowhere [] h k = faults_at_word [] h ∙ no_word_at_end
faults_nowhere (c ∷ t) h k = faults_at_word (c ∷ t) h ∙ no_word c t k

pub ruleset tried_parts = (faults_at_digit, faults_at_word, faults_nowhere)
