use Rattle.std.proofs.Common.{rules, refl, Some}
use Rattle.format_lint.proofs.OneAnswer.{no-literal}
use Rattle.format_lint.proofs.outputs.outputs_of_literal.Goals as goal

pub returns-clause-outputs : goal.returns-clause-outputs
returns-clause-outputs c =
    let snippet = c.snippet_of-snippet.result in (
      record {
        text = c.as_str.result.now;
        style = c.in-Some.field-0.style;
        literal = Some snippet.text.now;
        lines = snippet.source.now;
        line_start = 1;
        start = snippet.start;
      },
      record {
        literal = snippet.text.now;
        is_snippet = c.snippet_of-snippet.ensures;
        is_literal = search rules;
        is_written = refl;
        is_first = refl;
        text_utf8 = search rules;
      },
      c.in_ok-outputs_of.ensures,
    )

pub returns-in_default-clause-not_literal : goal.returns-in_default-clause-not_literal
returns-in_default-clause-not_literal c _ s h =
    let none = rw c.in_default.is at c.in_ok-text.ensures.found in
    no-literal c.args.input.now _ _ _ c.snippet_of-snippet.ensures none s h
