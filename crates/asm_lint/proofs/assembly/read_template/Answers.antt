use Rattle.std.proofs.Common.{◌∙◌, Some, ap, chars, subst, sym}
use Rattle.std.proofs.lemmas.List.{append-nil}
use Rattle.rustc_parse_format.specs.Literal.{IsLiteral}
use Rattle.rust_trees.specs.Leaves.{leaf}
use Rattle.asm_lint.specs.Literals.{without_crs}
use Rattle.asm_lint.proofs.assembly.read_template.Goals as goal

pub returns-in_default-clause-read : goal.returns-in_default-clause-read
returns-in_default-clause-read c = (
  leaf c.first_token-token.result,
  c.first_token-token.ensures,
  rw c.in_default.is at c.in_ok-literal.ensures.read,
)

pub returns-clause-read : goal.returns-clause-read
returns-clause-read c =
    let r = rw c.in-Some.is at c.in_ok-literal.ensures.read in
    let x = leaf c.first_token-token.result in
    record {
      literal = x;
      is_there = c.first_token-token.ensures;
      is_literal = subst (λ v. IsLiteral c.in-Some.literal.style (without_crs (chars x.text)) v)
          (sym (r.text ∙ append-nil r.stands_for)) r.is_literal;
      snippet = ap (λ v. Some v) r.snippet;
    }
