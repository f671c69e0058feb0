use Rattle.std.proofs.Common.{◌≡◌, ◌∙◌, ap, subst, not, chars, string_bytes, false, true, IfSome}
use Rattle.std.proofs.Common.{IfNone, IsUtf8}
use Rattle.rustc_parse_format.specs.Views.{seen_mode}
use Rattle.fault_fixes.specs.Edits.{edited_bytes, is_empty}
use Rattle.fault_fixes.proofs.EditLaws.{if_none, if_some, no-edits, some-edits}
use Rattle.fault_fixes.proofs.FixLaws.{literal_edits-are}
use Rattle.fault_fixes.proofs.fixes.edited_literal.Goals as goal

pub returns-then-not-has_edits-clause-none : goal.returns-then-not-has_edits-clause-none
returns-then-not-has_edits-clause-none c = λ some utf8.
    let e = literal_edits-are (seen_mode c.args.mode) (chars c.args.input.now) c.args.style _
    c.args.snippet.now c.args.appended_newline c.in_ok-parser.parser c.in_ok-parser.ensures.start
    c.in_ok-snippet_copy.ensures.ok in
    let h : false ≡ c.in_ok-bytes.field-0.has_edits = cc in
    some (no-edits _ (h ∙ c.in_ok-bytes.ensures.some ∙ ap (λ es. not (is_empty es)) e))

pub returns-clause-edits : goal.returns-clause-edits
returns-clause-edits c =
    let e = literal_edits-are (seen_mode c.args.mode) (chars c.args.input.now) c.args.style _
    c.args.snippet.now c.args.appended_newline c.in_ok-parser.parser c.in_ok-parser.ensures.start
    c.in_ok-snippet_copy.ensures.ok in
    let h : true ≡ c.in_ok-bytes.field-0.has_edits = cc in
    if_some (λ s. some-edits _ (h ∙ c.in_ok-bytes.ensures.some
    ∙ ap (λ es. not (is_empty es)) e)) c.text_of.result

pub returns-clause-some : goal.returns-clause-some
returns-clause-some c =
    let e = literal_edits-are (seen_mode c.args.mode) (chars c.args.input.now) c.args.style _
    c.args.snippet.now c.args.appended_newline c.in_ok-parser.parser c.in_ok-parser.ensures.start
    c.in_ok-snippet_copy.ensures.ok in
    subst (λ bs. IfSome c.text_of.result (λ s. string_bytes s ≡ bs))
    (c.in_ok-bytes.ensures.bytes ∙ ap (λ es. edited_bytes 0 es c.args.snippet.now) e)
    c.text_of.ensures.some

pub returns-clause-none : goal.returns-clause-none
returns-clause-none c =
    let e = literal_edits-are (seen_mode c.args.mode) (chars c.args.input.now) c.args.style _
    c.args.snippet.now c.args.appended_newline c.in_ok-parser.parser c.in_ok-parser.ensures.start
    c.in_ok-snippet_copy.ensures.ok in
    if_none (λ no some. no) c.text_of.result
    (subst (λ bs. IfNone c.text_of.result (IsUtf8 bs → ⊥))
    (c.in_ok-bytes.ensures.bytes ∙ ap (λ es. edited_bytes 0 es c.args.snippet.now) e)
    c.text_of.ensures.none)
