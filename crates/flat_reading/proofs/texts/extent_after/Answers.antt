use Rattle.std.proofs.Common.{inl, inr, ℕ, List, ◌+◌, length, chars, IsUtf8}
use Rattle.std.proofs.lemmas.Str.{encodes-chars}
use Rattle.flat_reading.specs.Progress.{HasBytes, StandsAt, StandsAfter}
use Rattle.flat_reading.proofs.Cuts.{has_after, has_prefix, has_text}
use Rattle.flat_reading.proofs.texts.extent_after.Goals as goal
use Rattle.flat_reading.proofs.texts.extent_after.Goals.{else-has_bytes_at-via-then-has_bytes_at+else-has_bytes_at-2}
use Rattle.flat_reading.proofs.texts.extent_after.Goals.{else-has_bytes_at-via-else-has_bytes_at}

no_prefix : (bs prefix text : List ℕ) (from : ℕ) → IsUtf8 text
    → StandsAfter bs prefix from (chars text)
    → (HasBytes bs from prefix → HasBytes bs (from + length prefix) text → ⊥)
    → StandsAt bs from (chars text)
no_prefix bs prefix text from u (inl h) never = h
no_prefix bs prefix text from u (inr h) never =
    let all = rw (encodes-chars text u) at h in
    absurd (never (has_prefix bs prefix text from all) (has_after bs prefix text from all))

pub extent_of-requires : goal.extent_of-requires
extent_of-requires c =
    has_text c.args.input.now c.args.text.now _ c.utf8.text
    (rw c.as_bytes.ensures.value at c.has_bytes_at-then-has_bytes_at.ensures.yes
    c.if-has_bytes_at-2.true)

pub extent_of-requires-else-has_bytes_at : goal.extent_of-requires-else-has_bytes_at
extent_of-requires-else-has_bytes_at c = elim c.else-has_bytes_at.branch [
  | else-has_bytes_at-via-then-has_bytes_at+else-has_bytes_at-2 w ↦
      no_prefix c.args.input.now c.args.prefix.now c.args.text.now c.args.start c.utf8.text
      c.requires
      (λ one two. w.has_bytes_at-then-has_bytes_at.ensures.no w.if-has_bytes_at-2.false
      (rw w.as_bytes.ensures.value two))
  | else-has_bytes_at-via-else-has_bytes_at w ↦
      no_prefix c.args.input.now c.args.prefix.now c.args.text.now c.args.start c.utf8.text
      c.requires
      (λ one two. c.has_bytes_at.ensures.no w.if-has_bytes_at.false one)
]
