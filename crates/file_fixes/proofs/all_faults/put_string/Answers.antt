use Rattle.std.proofs.Common.{◌≡◌, ◌∙◌, Some, ap, chars, false, map, rules, string_bytes, subst}
use Rattle.std.specs.List.{All}
use Rattle.rustc_parse_format.specs.State.{first_state}
use Rattle.rustc_parse_format.specs.Types.{Format}
use Rattle.rustc_parse_format.specs.Views.{seen_error}
use Rattle.fault_fixes.specs.Edits.{edits}
use Rattle.fault_fixes.specs.Fixing.{all_errors}
use Rattle.fault_fixes.specs.SeenEdits.{seen_edit}
use Rattle.file_fixes.specs.AllFaults.{HasOneOf, offered_edits}
use Rattle.file_fixes.proofs.AllFaultLaws.{around}
use Rattle.file_fixes.proofs.all_faults.put_string.Goals as goal

pub returns : goal.returns
returns c =
    let s = c.args.string.now in
    let f = c.in_ok-put_others.ensures in
    let b = c.in_ok-put_others-2.ensures in
    let errors : map seen_error c.as_slice.result.now ≡ all_errors (first_state Format
    (chars (string_bytes s.literal.text)) s.literal.style
    (Some (chars (string_bytes s.literal.snippet))) false) = search rules in
    let offered : map seen_edit c.in_ok-edits.edits.items ≡ offered_edits s.literal =
    c.in_ok-edits.ensures.edits ∙ ap (edits Format) errors in
    let front : map seen_edit c.as_slice-2.result.now ≡ offered_edits s.literal =
    ap (map seen_edit) c.as_slice-2.ensures.value ∙ offered in
    let back : map seen_edit c.as_slice-3.result.now ≡ offered_edits s.literal =
    ap (map seen_edit) c.as_slice-3.ensures.value ∙ offered in
    around (HasOneOf s.token.now s.start (offered_edits s.literal)) c.args.finding.now _ _ _ _
    (f.0, f.1, subst (λ es. All (HasOneOf s.token.now s.start es) f.0) front f.2)
    c.in_ok-put_copy.ensures
    (b.0, b.1, subst (λ es. All (HasOneOf s.token.now s.start es) b.0) back b.2)
