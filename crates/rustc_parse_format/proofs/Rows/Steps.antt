-- The count of steps: the steps that a word that is given back adds, and worked examples, each
-- computed.
use Rattle.std.proofs.Common.{◌≡◌, ◌+◌, ◌-◌, ℕ, List, [], ◌∷◌, length, length-append, arith, ap}
use Rattle.std.proofs.Common.{refl, codes, ◌∙◌}
use Rattle.rustc_parse_format.specs.Characters.{Text, word, after_word}
use Rattle.rustc_parse_format.specs.Rewinds.{Rewinds, given_back, nothing_back}
use Rattle.rustc_parse_format.specs.Steps.{position, reach, steps}
use Rattle.rustc_parse_format.specs.State.{State, state_after, after_all, calls, next_call}
use Rattle.rustc_parse_format.specs.Tries.{back_after}
use Rattle.rustc_parse_format.proofs.Grammar.Fronts.{word-rest_after}
use Rattle.rustc_parse_format.proofs.Rows.Definitions.{computing, start}

-- how many characters the words at these rests have
abbrev pub tried_length : List Text → ℕ
tried_length [] = 0
tried_length (t ∷ ts) = length (word t) + tried_length ts

-- Each word that is given back is read once more.
pub tried-again : (b : Rewinds) (ts : List Text)
    → (back_after b ts).count ≡ b.count + tried_length ts
tried-again b [] = omega arith
tried-again b (t ∷ ts) =
    let once : (b.count + (length t - length (after_word t))) + tried_length ts
    ≡ b.count + (length (word t) + tried_length ts) =
    omega (arith, ap length (word-rest_after t), length-append (word t) (after_word t)) in
    tried-again (given_back (after_word t) t b) ts ∙ once

-- So a call takes a step for each character that it passes, and one for each of a word that it
-- gives back.
pub call-steps : (s : State) → (state_after s (next_call s)).rewinds.count
    ≡ s.rewinds.count + tried_length (next_call s).tries
call-steps s = tried-again s.rewinds (next_call s).tries

-- the steps of all calls over an input
abbrev walked : Text → ℕ
walked t = let s = after_all (start t) (calls (start t)) in steps s.input s.rest s.rewinds

underscore-takes_5 : walked (codes "{:_}") ≡ 5
unfolding computing
underscore-takes_5 = refl

word-takes_9 : walked (codes "{:abc}") ≡ 9
unfolding computing
word-takes_9 = refl

width-takes_no_more : walked (codes "{a:b$}") ≡ 6
unfolding computing
width-takes_no_more = refl

-- after the word was given back
abbrev there : Rewinds
there = back_after (nothing_back (codes "{:abc}")) (codes "abc}" ∷ [])

word-given_back : steps (codes "{:abc}") (codes "abc}") there ≡ 5
unfolding computing
word-given_back = refl

word-position : position (codes "{:abc}") (codes "abc}") ≡ 2
word-position = refl

word-reach : reach (codes "{:abc}") (codes "abc}") there ≡ 5
unfolding computing
word-reach = refl
