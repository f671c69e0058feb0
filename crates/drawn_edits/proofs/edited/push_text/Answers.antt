use Rattle.std.proofs.Common.{◌∙◌, List, ap, map, rules, sym}
use Rattle.std.proofs.lemmas.List.{map-append}
use Rattle.std.specs.List.{slice_split}
use Rattle.drawn_edits.specs.EditedLines.{seen_line, seen_page, seen_part, with_texts}
use Rattle.drawn_lines.specs.Painting.{Piece}
use Rattle.drawn_lines.specs.Places.{is_line_feed}
use Rattle.drawn_edits.proofs.EditLines.{lines-step}
use Rattle.drawn_edits.proofs.edited.push_text.Goals as goal

pub loop-line-preserved : goal.loop-line-preserved
loop-line-preserved c =
    let l = c.loop-line in
    let s = c.args.style in
    let rest_after = c.in-Some.rest_after.now in
    record {
      is_text = search rules;
      same = ap (λ p. with_texts s (slice_split is_line_feed rest_after) p) c.in_ok-end_line.ensures
          ∙ sym (lines-step s l.rest.now c.in-Some.line.now rest_after
          (seen_page l.lines.items l.row.items) c.in-Some.ensures.lines)
          ∙ l.invariant.same;
    }

pub returns : goal.returns
returns c =
    let l = c.loop-line in
    let s = c.args.style in
    let lines = map seen_line l.lines.items in
    ap (λ (xs : List Piece). record { lines = lines; row = xs })
    (ap (map seen_part) c.in_ok-push.ensures.items ∙ map-append seen_part l.row.items _)
    ∙ sym (ap (λ ts. with_texts s ts (seen_page l.lines.items l.row.items))
    c.in_default.ensures.lines)
    ∙ l.invariant.same
