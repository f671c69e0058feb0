use Rattle.std.proofs.Common.{◌∙◌, List, ap, map, refl, rules, string_bytes, subst, sym}
use Rattle.std.specs.Prelude.{option_map}
use Rattle.std.proofs.lemmas.Option.{none-some}
use Rattle.std.proofs.lemmas.Str.{IsUtf8-string_bytes}
use Rattle.rustc_parse_format.specs.Views.{seen_piece}
use Rattle.rustc_parse_format.specs.Types.{bare_piece}
use Rattle.call_faults.specs.Arguments.{FormatArgument}
use Rattle.inlined_arguments.specs.Inlining.{ReadsClean}
use Rattle.inlined_arguments.specs.Views.{seen_call, seen_edit, seen_slots}
use Rattle.inlined_arguments.specs.Values.{slot_argument}
use Rattle.inlined_arguments.proofs.CleanPieces.{same-snippet}
use Rattle.inlined_arguments.proofs.Keeping.{edits-are, keeps, no-text, other-meaning}
use Rattle.inlined_arguments.proofs.inlining.inline_with.Goals as goal

pub returns-in_default-3-clause-unchanged : goal.returns-in_default-3-clause-unchanged
returns-in_default-3-clause-unchanged c = λ mixed none.
    let call = seen_call c.args.call in
    let read = rw c.in-Some-2.is at c.in_ok-pieces.ensures in
    let are_read = subst (λ (gs : List FormatArgument). ReadsClean call.captures_variables gs
    call.text (map bare_piece (map seen_piece c.in-Some-2.pieces.items)))
    (c.requires.given ∙ ap (λ ss. map slot_argument ss) c.requires.slots) read.1 in
    let literal = ap (option_map (λ s. s.now)) c.in-Some.is in
    let edits = edits-are call (seen_slots c.in_ok-values.values)
    (map seen_piece c.in-Some-2.pieces.items) (map seen_edit c.in_ok-edits.edits.items)
    (rw c.deref.ensures.value at (c.in_ok-edits.ensures c.in_ok-values.ensures.knows))
    (c.in_ok-values.ensures.slots ∙ c.requires.slots) (read.0 ∙ same-snippet call.text call.style
    c.args.call.string.snippet call.appended_newline) in (
      (none, λ e. none-some c.in-Some.snippet.now (sym e ∙ literal)),
      are_read.0,
      no-text call c.in-Some.snippet.now (map seen_edit c.in_ok-edits.edits.items) literal edits
          ((rw (c.in_default-3.is, c.deref-2.ensures.value) at c.in_ok-literal.ensures.none) refl),
    )

pub returns-then-not-branch-clause-unchanged : goal.returns-then-not-branch-clause-unchanged
returns-then-not-branch-clause-unchanged c = λ mixed none.
    let call = seen_call c.args.call in
    let read = rw c.in-Some-2.is at c.in_ok-pieces.ensures in
    let are_read = subst (λ (gs : List FormatArgument). ReadsClean call.captures_variables gs
    call.text (map bare_piece (map seen_piece c.in-Some-2.pieces.items)))
    (c.requires.given ∙ ap (λ ss. map slot_argument ss) c.requires.slots) read.1 in
    let literal = ap (option_map (λ s. s.now)) c.in-Some.is in
    let slots = c.in_ok-values.ensures.slots ∙ c.requires.slots in
    let edits = edits-are call (seen_slots c.in_ok-values.values)
    (map seen_piece c.in-Some-2.pieces.items) (map seen_edit c.in_ok-edits.edits.items)
    (rw c.deref.ensures.value at (c.in_ok-edits.ensures c.in_ok-values.ensures.knows))
    slots (read.0 ∙ same-snippet call.text call.style
    c.args.call.string.snippet call.appended_newline) in
    let made = rw (c.in-Some-3.is, c.deref-2.ensures.value) at c.in_ok-literal.ensures.some in
    let same = rw (c.deref.ensures.value, c.deref-3.ensures)
    at (c.in_ok-keeps_meaning.ensures c.in_ok-values.ensures.knows slots) in (
      (none, λ e. none-some c.in-Some.snippet.now (sym e ∙ literal)),
      are_read.0,
      other-meaning call c.in-Some.snippet.now (string_bytes c.in-Some-3.literal)
          (map seen_edit c.in_ok-edits.edits.items) (map seen_piece c.in-Some-2.pieces.items)
          literal edits made.1 are_read.1 (λ m. let t = same.1 m in search rules),
    )

pub returns-clause-inlined : goal.returns-clause-inlined
returns-clause-inlined c = λ mixed none.
    let call = seen_call c.args.call in
    let read = rw c.in-Some-2.is at c.in_ok-pieces.ensures in
    let are_read = subst (λ (gs : List FormatArgument). ReadsClean call.captures_variables gs
    call.text (map bare_piece (map seen_piece c.in-Some-2.pieces.items)))
    (c.requires.given ∙ ap (λ ss. map slot_argument ss) c.requires.slots) read.1 in
    let literal = ap (option_map (λ s. s.now)) c.in-Some.is in
    let slots = c.in_ok-values.ensures.slots ∙ c.requires.slots in
    let edits = edits-are call (seen_slots c.in_ok-values.values)
    (map seen_piece c.in-Some-2.pieces.items) (map seen_edit c.in_ok-edits.edits.items)
    (rw c.deref.ensures.value at (c.in_ok-edits.ensures c.in_ok-values.ensures.knows))
    slots (read.0 ∙ same-snippet call.text call.style
    c.args.call.string.snippet call.appended_newline) in
    let made = rw (c.in-Some-3.is, c.deref-2.ensures.value) at c.in_ok-literal.ensures.some in
    let same = rw (c.deref.ensures.value, c.deref-3.ensures)
    at (c.in_ok-keeps_meaning.ensures c.in_ok-values.ensures.knows slots) in
    record {
      may_be = none;
      edits = edits;
      removed_indices = c.in_ok-removed_indices.ensures;
      keeps_meaning = keeps call c.in-Some.snippet.now (string_bytes c.in-Some-3.literal)
          (map seen_edit c.in_ok-edits.edits.items) (map seen_piece c.in-Some-2.pieces.items)
          literal edits made.0 made.1 (IsUtf8-string_bytes c.in-Some-3.literal) are_read
          (same.0 c.if-not-branch.false);
    }
