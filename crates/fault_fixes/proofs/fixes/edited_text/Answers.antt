use Rattle.std.proofs.Common.{◌≡◌, ◌∙◌, ap, subst, string_bytes, IfSome, IfNone, IsUtf8}
use Rattle.rustc_parse_format.specs.Views.{seen_mode}
use Rattle.fault_fixes.specs.Edits.{edited_bytes, edits}
use Rattle.fault_fixes.specs.Fixing.{all_errors}
use Rattle.fault_fixes.proofs.fixes.edited_text.Goals as goal

pub returns-clause-some : goal.returns-clause-some
returns-clause-some c =
    subst (λ bs. IfSome c.text_of.result (λ s. string_bytes s ≡ bs))
    (c.in_ok-bytes.ensures.bytes ∙ ap (λ s. edited_bytes 1
    (edits (seen_mode c.args.mode) (all_errors
    s)) c.args.input.now)
    c.in_ok-parser.ensures.start) c.text_of.ensures.some

pub returns-clause-none : goal.returns-clause-none
returns-clause-none c =
    subst (λ bs. IfNone c.text_of.result (IsUtf8 bs → ⊥))
    (c.in_ok-bytes.ensures.bytes ∙ ap (λ s. edited_bytes 1
    (edits (seen_mode c.args.mode) (all_errors
    s)) c.args.input.now)
    c.in_ok-parser.ensures.start) c.text_of.ensures.none
