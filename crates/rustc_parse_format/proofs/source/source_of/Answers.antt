use Rattle.std.proofs.Common.{◌≡◌, ◌&&◌, ◌∙◌, ap, sym, subst, if◌then◌else◌, None, chars}
use Rattle.std.specs.Prelude.{is_some, unwrap_or}
use Rattle.rustc_parse_format.specs.declared.source.Source.{Source}
use Rattle.rustc_parse_format.specs.Views.{seen_snippet}
use Rattle.rustc_parse_format.specs.SourceViews.{IsKeptIn, world_with}
use Rattle.rustc_parse_format.specs.LiteralReading.{is_longer}
use Rattle.rustc_parse_format.proofs.Sources.Worlds.{IsSourceWith, kept_of, source-world}
use Rattle.rustc_parse_format.proofs.Sources.Worlds.{source-kept}
use Rattle.rustc_parse_format.proofs.source.source_of.Goals.{then-is_literal, else-is_literal}
use Rattle.rustc_parse_format.proofs.source.source_of.Goals as goal

-- The source that is returned.
abbrev made : goal.After-input-1 → Source
made c = record {
  input = c.args.input;
  is_literal = c.is_some-is_literal.result;
  offset = c.quote_offset-offset.result;
  end = c.unwrap_or-end.result;
  kept_snippet = c.kept_if-kept_snippet.result;
}

-- and what is known of it, with what it keeps
made_with : (c : goal.After-input-1)
    → IsSourceWith (made c) c.args.style c.args.snippet
    c.args.appended_newline c.found_end-literal_end.result
made_with c = record {
  offset = c.quote_offset-offset.ensures;
  is_literal = c.is_some-is_literal.ensures;
  end = c.unwrap_or-end.ensures ∙ ap (unwrap_or c.found_end-literal_end.result) c.plain_end.ensures;
  found = c.found_end-literal_end.ensures;
}

kept : (c : goal.After-input-1) →
    c.kept_if-kept_snippet.result
    ≡ kept_of c.found_end-literal_end.result
    (chars c.args.input.now) c.args.style c.args.snippet c.args.appended_newline
kept c =
    let longer = is_longer (chars c.args.input.now) c.args.style
    (seen_snippet c.args.snippet) c.args.appended_newline in
    let is_kept : c.if-is_literal.is_kept ≡ (is_some c.found_end-literal_end.result && longer) =
    elim c.if-is_literal.branch [
      | then-is_literal w ↦ (w.is_kept-is ∙ w.is_longer-is_kept.ensures)
          ∙ ap (λ b. b && longer) (sym w.if-is_literal.true ∙ c.is_some-is_literal.ensures)
      | else-is_literal w ↦ w.is_kept-is
          ∙ (w.if-is_literal.false
          ∙ ap (λ b. b && longer) (sym w.if-is_literal.false ∙ c.is_some-is_literal.ensures))
    ] in
    c.kept_if-kept_snippet.ensures ∙ ap (λ b. if b then c.args.snippet else None) is_kept

pub returns-clause-world : goal.returns-clause-world
returns-clause-world c =
    ap (λ o. world_with o (made c)) (kept c)
    ∙ source-world (made c) c.args.style c.args.snippet c.args.appended_newline
    c.found_end-literal_end.result (made_with c)

pub returns-clause-kept : goal.returns-clause-kept
returns-clause-kept c =
    subst (λ o. IsKeptIn o (made c)) (sym (kept c))
    (source-kept (made c) c.args.style c.args.snippet c.args.appended_newline
    c.found_end-literal_end.result (made_with c))
