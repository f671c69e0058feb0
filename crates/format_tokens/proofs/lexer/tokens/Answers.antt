use Rattle.std.proofs.Common.{◌≡◌, ◌∙◌, ap, chars, refl, Some}
use Rattle.std.proofs.lemmas.Result.{IfOk-weaker}
use Rattle.rustc_parse_format.specs.Views.{seen_mode, seen_snippet}
use Rattle.format_tokens.specs.Spans.{tokens}
use Rattle.format_tokens.specs.Views.{seen_text}
use Rattle.format_tokens.proofs.InText.{text-of}
use Rattle.format_tokens.proofs.ReadingBack.{cover-of, reads_back-of}
use Rattle.format_tokens.proofs.lexer.tokens.Goals as goal
use Rattle.format_tokens.proofs.lexer.tokens.Goals.{in-None, in-Some}

pub returns-clause-tokens : goal.returns-clause-tokens
returns-clause-tokens c =
    let same : seen_text c.match-snippet.text ≡ seen_snippet c.args.snippet =
    elim c.match-snippet.branch [
      | in-None v ↦ rw (v.text-is, v.in-None.is) refl
      | in-Some v ↦ rw (v.text-is, v.in-Some.is)
          (ap (λ s. Some (chars s)) v.as_str.ensures.value)
    ] in
    IfOk-weaker c.place_labels.result (λ _. _ → _) _
    (λ v h. h (c.deref.ensures.value ∙ c.in_ok-labels.ensures)
    ∙ ap (λ s. tokens (seen_mode c.args.mode) (chars c.args.input.now) c.args.style s
    c.args.appended_newline) same)
    c.place_labels.ensures

pub returns-clause-cover : goal.returns-clause-cover
returns-clause-cover c =
    IfOk-weaker c.place_labels.result _ _ (λ v. cover-of _ _ _ _ _ _) (returns-clause-tokens c)

pub returns-clause-reads_back : goal.returns-clause-reads_back
returns-clause-reads_back c =
    IfOk-weaker c.place_labels.result _ _ (λ v. reads_back-of _ _ _ _ _ _) (returns-clause-tokens c)

pub returns-clause-in_text : goal.returns-clause-in_text
returns-clause-in_text c =
    IfOk-weaker c.place_labels.result _ _ (λ v. text-of _ _ _ _ _ _ c.utf8.input)
    (returns-clause-tokens c)
