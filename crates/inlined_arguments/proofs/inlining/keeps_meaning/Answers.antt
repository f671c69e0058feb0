use Rattle.std.proofs.Common.{◌∙◌, ap, arith, chars, map, rules, string_bytes, sym}
use Rattle.std.proofs.lemmas.Result.{IfOk-weaker}
use Rattle.rustc_parse_format.specs.Views.{seen_piece}
use Rattle.call_faults.specs.Views.{seen_given}
use Rattle.inlined_arguments.specs.Values.{kept_slots, slot_argument}
use Rattle.inlined_arguments.specs.Views.{seen_call, seen_slot}
use Rattle.inlined_arguments.proofs.Keeping.{clean-there, never, one-text, other-style}
use Rattle.inlined_arguments.proofs.Widths.{short-hashes}
use Rattle.inlined_arguments.proofs.inlining.keeps_meaning.Goals as goal

pub returns-in_default : goal.returns-in_default
returns-in_default c = λ knows slots. never (λ h.
    (rw c.in_default.is at c.in_ok-text.ensures.found) _ h.text h.is_literal)

pub means_same_with-requires : goal.means_same_with-requires
means_same_with-requires c =
    let few = short-hashes c.in-Some.field-0.style c.args.literal.now
    (chars (string_bytes c.in-Some.field-0.text)) c.utf8.literal
    (rw c.in-Some.is at c.in_ok-text.ensures.found) in
    omega (arith, few, c.in_ok-put_newline.ensures.short, c.as_str.type_inv)

pub returns-then-not-is_same_style : goal.returns-then-not-is_same_style
returns-then-not-is_same_style c = λ knows slots. never (other-style (seen_call c.args.call)
    (map seen_piece c.args.old.pieces.now) (chars c.args.literal.now) _ c.in-Some.field-0.style
    (rw c.in-Some.is at c.in_ok-text.ensures.found)
    (λ e. let t = c.is_same_style.ensures.1 e in search rules))

pub returns : goal.returns
returns c = IfOk-weaker c.means_same_with.result _ _ (λ b h knows slots.
    let call = seen_call c.args.call in
    let pieces = map seen_piece c.args.old.pieces.now in
    let given = ap (map seen_given) c.as_slice.ensures.value ∙ c.in_ok-arguments.ensures
    ∙ ap (λ v. map slot_argument (map seen_slot v))
    (c.deref.ensures.value ∙ sym c.deref-2.ensures.value) in
    let kept = ap (map seen_slot) c.deref-2.ensures.value ∙ c.in_ok-slots.ensures
    ∙ ap (λ v. kept_slots v) slots in
    let same = clean-there call.captures_variables _ _ pieces _ _ _ _ slots kept
    (ap chars c.as_str.ensures.value ∙ c.in_ok-put_newline.ensures.text) (h knows given) in
    let both = one-text call pieces (chars c.args.literal.now)
    (chars (string_bytes c.in-Some.field-0.text)) c.in-Some.field-0.style
    (rw c.in-Some.is at c.in_ok-text.ensures.found)
    (c.is_same_style.ensures.0 (search rules)) in
    (λ e. both.0 (same.0 e), λ m. same.1 (both.1 m))) c.means_same_with.ensures
