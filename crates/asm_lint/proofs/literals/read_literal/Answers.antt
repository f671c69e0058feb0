use Rattle.std.proofs.Common.{◌≡◌, ◌∙◌, ap, arith, chars, string_bytes, subst}
use Rattle.rustc_parse_format.specs.Literal.{IsLiteral}
use Rattle.asm_lint.specs.Literals.{without_crs}
use Rattle.asm_lint.proofs.Widths.{short-hashes}
use Rattle.asm_lint.proofs.literals.read_literal.Goals as goal

pub returns-clause-read : goal.returns-clause-read
returns-clause-read c =
    let lines : chars c.as_str.result.now ≡ without_crs (chars c.args.token.now) =
    ap chars c.as_str.ensures.value ∙ c.in_ok-snippet.ensures in
    let literal = c.in-Some.field-0 in
    record {
      snippet = c.in_ok-snippet.ensures;
      stands_for = chars (string_bytes literal.text);
      is_literal = subst (λ v. IsLiteral literal.style v (chars (string_bytes literal.text)))
          lines (rw c.in-Some.is at c.in_ok-text.ensures.found);
      text = c.in_ok-put_newline.ensures.text;
    }

pub returns-clause-short : goal.returns-clause-short
returns-clause-short c =
    let literal = c.in-Some.field-0 in
    let s = short-hashes literal.style c.as_str.result.now (chars (string_bytes literal.text))
    c.as_str.utf8 (rw c.in-Some.is at c.in_ok-text.ensures.found) in
    omega (arith, s, c.in_ok-put_newline.ensures.short)
