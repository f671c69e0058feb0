use Rattle.std.proofs.Common.{◌≡◌, ◌-◌, ◌∙◌, ℕ, List, ap, drop, length, length-drop, sym, take}
use Rattle.std.proofs.Math.Seq.{take-length}
use Rattle.rustc_parse_format.proofs.Sources.Escapes.{byte-passed, letter-passed}
use Rattle.rustc_parse_format.proofs.source.anchor.next_start.Goals as goal

-- The slice from a byte on.
whole : (s : List ℕ) (at : ℕ) → drop at s ≡ take (length s - at) (drop at s)
whole s at = sym (ap (λ n. take n (drop at s)) (sym (length-drop at s)) ∙ take-length (drop at s))

pub returns-then-begins_byte_escape : goal.returns-then-begins_byte_escape
returns-then-begins_byte_escape c w rest h =
    let s = c.args.snippet.now in
    let found = c.begins_byte_escape.ensures c.if-begins_byte_escape.true in
    byte-passed s w rest c.args.at found.0 found.1 found.2 found.3 found.4 h
    (whole s c.args.at ∙ rw c.as_bytes-bytes.ensures.value at found.5) found.6

pub returns-then-begins_letter_escape : goal.returns-then-begins_letter_escape
returns-then-begins_letter_escape c w rest h =
    let s = c.args.snippet.now in
    let found = c.begins_letter_escape.ensures c.if-begins_letter_escape.true in
    letter-passed s w rest c.args.at found.0 found.1 found.2 found.3 h
    (whole s c.args.at ∙ rw c.as_bytes-bytes.ensures.value at found.4) found.5 found.6
