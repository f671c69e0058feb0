use Rattle.std.specs.Prelude.{if◌then◌else◌}
use Rattle.std.proofs.Common.{◌≡◌, ◌+◌, ◌++◌, [], ◌∷◌, ◌∙◌, ap, arith, chars, length, get_or, refl}
use Rattle.format_tokens.proofs.Ordinary.{no_read, ordinary-all, read-fits, read-next}
use Rattle.format_tokens.proofs.places.ordinary_starts.Goals as goal
use Rattle.format_tokens.proofs.places.ordinary_starts.Goals.{else-appended_newline}
use Rattle.format_tokens.proofs.places.ordinary_starts.Goals.{then-appended_newline+in_ok-push-2}

pub overflow_add-character : goal.overflow_add-character
overflow_add-character c =
    let read = rw (c.in-Some-2.is) at c.in_ok-characters.ensures.found in
    let f = read-fits c.args.snippet.now (chars c.in-Some.content.now)
    c.deref-character-items.result.now c.loop-character.character-index no_read c.utf8.snippet
    c.in-Some.ensures (rw c.deref-character-items.ensures.value read) c.loop-character-test.true in
    omega (arith, f.0, f.1)

pub overflow_add-end : goal.overflow_add-end
overflow_add-end c =
    let read = rw (c.in-Some-2.is) at c.in_ok-characters.ensures.found in
    let f = read-fits c.args.snippet.now (chars c.in-Some.content.now)
    c.deref-character-items.result.now c.loop-character.character-index no_read c.utf8.snippet
    c.in-Some.ensures (rw c.deref-character-items.ensures.value read) c.loop-character-test.true in
    omega (arith, f.1)

pub loop-character-preserved : goal.loop-character-preserved
loop-character-preserved c =
    let x = get_or c.deref-character-items.result.now c.loop-character.character-index no_read in
    read-next _ c.loop-character.character-index _ _ _ (x.span.start + 1) (x.span.end + 1)
    no_read c.loop-character.invariant
    c.loop-character-test.true c.in_ok-push.ensures.items (omega arith) (omega arith)

pub returns : goal.returns
returns c input source =
    let starts : c.if-appended_newline.starts.items ≡ (if c.args.appended_newline
    then c.loop-character.starts.items ++ c.loop-character.end ∷ []
    else c.loop-character.starts.items) =
    elim c.if-appended_newline.branch [
      | then-appended_newline+in_ok-push-2 v ↦ rw (v.if-appended_newline.true, v.starts-is)
          v.in_ok-push-2.ensures.items
      | else-appended_newline v ↦ rw (v.if-appended_newline.false, v.starts-is) refl
    ] in
    let places = rw c.in-Some-2.is at c.in_ok-characters.ensures.places in
    let all : c.loop-character.character-index ≡ length c.deref-character-items.result.now =
    omega arith in
    ordinary-all input _ (chars c.in-Some.content.now) c.deref-character-items.result.now
    c.args.appended_newline c.loop-character.starts.items _ c.loop-character.end c.in-Some.ensures
    (rw c.deref-character-items.ensures.value places)
    (rw all at c.loop-character.invariant)
    (c.in_ok-push-3.ensures.items ∙ ap (λ l. l ++ c.loop-character.end ∷ []) starts) source
