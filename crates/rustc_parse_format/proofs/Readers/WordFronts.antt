-- The word at the start of a text, by whether one begins there.
use Rattle.std.proofs.Common.{◌≡◌, ℕ, true, false, [], ◌∷◌, chars, refl, ap, sym, ◌∙◌, Some}
use Rattle.std.proofs.lemmas.Bool.{false≢true}
use Rattle.std.proofs.lemmas.Str.{chars-nil}
use Rattle.rustc_parse_format.specs.Characters.{Text, begins_with, is_id_start, first_passes, word}
use Rattle.rustc_parse_format.specs.Characters.{after_first, after_word}
use Rattle.rustc_parse_format.specs.Marks.{over_first, up_to}
use Rattle.rustc_parse_format.specs.Meaning.{word_span}
use Rattle.rustc_parse_format.specs.Faults.{LateDebug}
use Rattle.rustc_parse_format.specs.Recovery.{finds, late_debug}
use Rattle.rustc_parse_format.specs.PartFaults.{word_faults}
use Rattle.rustc_parse_format.proofs.Grammar.CleanWords.{no_word, no_word_at_end, unnamed}
use Rattle.rustc_parse_format.proofs.Grammar.CleanWords.{word_first}

pub word_nowhere : (t : Text) → first_passes is_id_start t ≡ false → word t ≡ []
unfolding word
word_nowhere [] h = refl
word_nowhere (c ∷ t) h = rw h refl

pub text_nowhere : (t : Text) → first_passes is_id_start t ≡ false → chars [] ≡ word t
text_nowhere t h = chars-nil ∙ sym (word_nowhere t h)

pub after_nowhere : (t : Text) → first_passes is_id_start t ≡ false → after_word t ≡ t
unfolding after_word
after_nowhere [] h = refl
after_nowhere (c ∷ t) h = rw h refl

pub unfaulty_nowhere : (t : Text) → first_passes is_id_start t ≡ false → word_faults t ≡ []
unfaulty_nowhere [] h = no_word_at_end
unfaulty_nowhere (c ∷ t) h = no_word c t h

pub word_placed : (t : Text) → first_passes is_id_start t ≡ true
    → word_span t (word t) (after_word t) ≡ Some (up_to t (after_word t))
unfolding word
word_placed [] h = cc h
word_placed (c ∷ t) h = rw h refl

-- a word that does not begin with `_`
pub unfaulty_word : (t : Text) → begins_with 95 t ≡ false → word_faults t ≡ []
unfaulty_word [] h = no_word_at_end
unfaulty_word (c ∷ t) h =
    unnamed (c ∷ t) (λ e. false≢true (sym h ∙ ap (λ x. begins_with 95 (x ∷ t)) (word_first c t e)))

-- a colon after a `?` with no word after it
pub late_nowhere : (n : ℕ) (t : Text) → begins_with 58 (after_first t) ≡ true
    → first_passes is_id_start (after_first (after_first t)) ≡ false
    → late_debug n t
    ≡ finds n (LateDebug (chars []) (over_first t) ∷ []) (after_first (after_first t))
unfolding late_debug
late_nowhere n t colon none =
    let w = after_first (after_first t) in
    rw (colon, unfaulty_nowhere w none, text_nowhere w none, after_nowhere w none) refl

pub ruleset words_at_front = (
  word_nowhere,
  text_nowhere,
  after_nowhere,
  unfaulty_nowhere,
  word_placed,
  unfaulty_word,
)
