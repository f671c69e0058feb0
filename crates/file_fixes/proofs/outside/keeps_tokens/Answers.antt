use Rattle.std.proofs.Common.{◌≡◌, ◌∙◌, ap, false, map, sym, true}
use Rattle.std.specs.List.{list_all}
use Rattle.fault_fixes.specs.SeenEdits.{seen_edit}
use Rattle.rust_tokens.specs.Spans.{placed_tokens}
use Rattle.file_fixes.specs.Outside.{is_known, new_ranges, old_ranges, untouched_tokens}
use Rattle.file_fixes.specs.Walk.{from_start, new_parts, old_parts, walk}
use Rattle.file_fixes.proofs.WalkLaws.{walk-new, walk-old}
use Rattle.file_fixes.proofs.outside.keeps_tokens.Goals as goal

pub returns-then-not-are_known : goal.returns-then-not-are_known
returns-then-not-are_known c =
    let ys = c.in_ok-new_tokens.ensures.reads in
    let no : false ≡ list_all is_known (placed_tokens 0 ys.0) =
    c.if-not-are_known.ensures ∙ ap (list_all is_known) (c.as_slice.ensures.value ∙ ys.2) in (
      ys.0,
      ys.1,
      (λ h. absurd cc, λ h. let e : false ≡ true = no ∙ h.1 in absurd cc),
    )

pub returns : goal.returns
returns c =
    let xs = c.requires.tokens in
    let ys = c.in_ok-new_tokens.ensures.reads in
    let known : true ≡ list_all is_known (placed_tokens 0 ys.0) =
    c.if-not-are_known.ensures ∙ ap (list_all is_known) (c.as_slice.ensures.value ∙ ys.2) in
    let es = map seen_edit c.args.edits.now in
    let old : c.as_slice-5.result.now ≡ untouched_tokens (old_ranges es) c.args.old.now =
    c.as_slice-5.ensures.value ∙ (c.in_ok-old_others.ensures
    ∙ (ap (λ ps. walk (from_start ps) c.args.old.now)
    (c.as_slice-2.ensures.value ∙ c.in_ok-old_parts.ensures)
    ∙ (ap (walk (from_start (old_parts 0 es))) xs.1
    ∙ (walk-old es xs.0 c.requires.edits
    ∙ ap (untouched_tokens (old_ranges es)) (sym xs.1))))) in
    let new : c.as_slice-6.result.now
    ≡ untouched_tokens (new_ranges 0 0 es) (placed_tokens 0 ys.0) =
    c.as_slice-6.ensures.value ∙ (c.in_ok-new_others.ensures
    ∙ (ap (λ ps. walk (from_start ps) c.as_slice-4.result.now)
    (c.as_slice-3.ensures.value ∙ c.in_ok-new_parts.ensures)
    ∙ (ap (walk (from_start (new_parts 0 es))) (c.as_slice-4.ensures.value ∙ ys.2)
    ∙ walk-new es ys.0))) in (
      ys.0,
      ys.1,
      (
        λ h. (sym old ∙ (c.are_same.ensures.0 h ∙ new), sym known),
        λ h. c.are_same.ensures.1 (old ∙ (h.0 ∙ sym new)),
      ),
    )
