use Rattle.std.proofs.Common.{◌≡◌, ◌∙◌, ◌+◌, ◌-◌, ◌++◌, ap, append_assoc, chars, false, length}
use Rattle.std.proofs.Common.{rules, string_bytes, sym, true}
use Rattle.std.specs.Prelude.{◌==◌}
use Rattle.std.specs.Str.{drop_trailing_whitespace, skip_leading_whitespace, trim_end, trim_start}
use Rattle.drawn_lines.specs.Glyphs.{run}
use Rattle.drawn_lines.specs.Painting.{painted_text}
use Rattle.drawn_lines.specs.declared.paint.Style.TheVariants.{Addition}
use Rattle.drawn_edits.specs.Helps.{columns_of}
use Rattle.drawn_edits.proofs.PlusColumns.{pluses-blank, pluses-some}
use Rattle.drawn_edits.proofs.WhiteSpace.{end-chars, start-chars, start-empty}
use Rattle.drawn_edits.proofs.changes.put_pluses.Goals as goal

pub returns-then-is_empty-clause-added : goal.returns-then-is_empty-clause-added
returns-then-is_empty-clause-added c =
    let o = string_bytes c.args.out.now in
    let p = c.args.palette in
    let n = c.args.gap in
    let bs = c.args.text.now in
    let empty : (length (trim_start bs) == 0) ≡ true = search rules in
    c.in_ok-put_painted_run.ensures
    ∙ ap (λ u. u ++ painted_text p Addition
    (run c.in_ok-columns.columns 43)) c.in_ok-put_run.ensures
    ∙ append_assoc o (run n 32) (painted_text p Addition (run c.in_ok-columns.columns 43))
    ∙ ap (λ k. o ++ (run n 32 ++ painted_text p Addition (run k 43))) c.in_ok-columns.ensures
    ∙ ap (λ u. o ++ u) (sym (pluses-blank p n (chars bs) (sym (start-empty bs) ∙ empty)))

pub returns-clause-added : goal.returns-clause-added
returns-clause-added c =
    let o = string_bytes c.args.out.now in
    let p = c.args.palette in
    let n = c.args.gap in
    let bs = c.args.text.now in
    let t = chars bs in
    let back = c.trim_start-trimmed_text.result.now in
    let empty : (length (trim_start bs) == 0) ≡ false = search rules in
    let starts : back ≡ trim_start bs = search rules in
    let ends : c.trim_end.result.now ≡ trim_end back = search rules in
    let rest : chars back ≡ skip_leading_whitespace t =
    ap chars starts ∙ start-chars bs c.utf8.text in
    let core : chars c.trim_end.result.now
    ≡ drop_trailing_whitespace (skip_leading_whitespace t) =
    ap chars ends ∙ end-chars back c.trim_start-trimmed_text.utf8
    ∙ ap drop_trailing_whitespace rest in
    let signs : c.in_ok-signs.signs
    ≡ columns_of 0 (drop_trailing_whitespace (skip_leading_whitespace t)) =
    c.in_ok-signs.ensures ∙ ap (columns_of 0) core in
    let before : c.in-Some.space_count ≡ n +
    (c.in_ok-columns.columns - c.in_ok-trimmed_columns.trimmed_columns) =
    search rules in
    c.in_ok-put_painted_run-2.ensures
    ∙ ap (λ u. u ++ painted_text p Addition (run c.in_ok-signs.signs 43)) c.in_ok-put_run-2.ensures
    ∙ append_assoc o (run c.in-Some.space_count 32)
    (painted_text p Addition (run c.in_ok-signs.signs 43))
    ∙ ap (λ k. o ++ (run c.in-Some.space_count 32 ++ painted_text p Addition (run k 43))) signs
    ∙ ap (λ k. o ++ (run k 32 ++ painted_text p Addition
    (run (columns_of 0 (drop_trailing_whitespace (skip_leading_whitespace t))) 43)))
    (before ∙ ap (λ k. n + (k - c.in_ok-trimmed_columns.trimmed_columns)) c.in_ok-columns.ensures
    ∙ ap (λ k. n + (columns_of 0 t - k)) (c.in_ok-trimmed_columns.ensures ∙ ap (columns_of 0) rest))
    ∙ ap (λ u. o ++ u) (sym (pluses-some p n t (sym (start-empty bs) ∙ empty)))
