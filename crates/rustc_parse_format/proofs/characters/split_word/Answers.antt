use Rattle.rustc_parse_format.proofs.Bytes.ByteFronts.{left-rest_after}
use Rattle.rustc_parse_format.proofs.Bytes.WordBytes.{word-boundary, word-split}
use Rattle.rustc_parse_format.proofs.characters.split_word.Goals as goal

pub returns-clause-word : goal.returns-clause-word
returns-clause-word c =
    let front = rw c.as_bytes-bytes.ensures.value at c.word_width-width.ensures in
    let next = rw c.as_bytes-bytes.ensures.value at c.is_wide.ensures in
    rw c.split_at.ensures.front
    (word-split _ _ c.utf8.text c.requires front (next.0 c.if-is_wide.false)).0

pub returns-clause-rest : goal.returns-clause-rest
returns-clause-rest c =
    let front = rw c.as_bytes-bytes.ensures.value at c.word_width-width.ensures in
    let next = rw c.as_bytes-bytes.ensures.value at c.is_wide.ensures in
    rw c.split_at.ensures.back
    (word-split _ _ c.utf8.text c.requires front (next.0 c.if-is_wide.false)).1

pub returns-clause-left : goal.returns-clause-left
returns-clause-left c input l =
    let front = rw c.as_bytes-bytes.ensures.value at c.word_width-width.ensures in
    let next = rw c.as_bytes-bytes.ensures.value at c.is_wide.ensures in
    rw c.split_at.ensures.back
    (left-rest_after input _ _ (word-boundary _ _ front (next.0 c.if-is_wide.false)) l)
