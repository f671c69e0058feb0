use Rattle.std.proofs.Common.{◌≡◌, ◌++◌, ◌∙◌, ap, chars, refl, rules, subst, sym, string_bytes}
use Rattle.std.specs.Prelude.{not}
use Rattle.std.proofs.lemmas.Str.{IsUtf8-string_bytes}
use Rattle.rustc_parse_format.specs.Literal.{newline}
use Rattle.rustc_parse_format.proofs.Literals.Texts.{chars-push}
use Rattle.format_literal.proofs.values.Literal.with_newline.Goals as goal

pub returns : goal.returns
returns c = record {
  text = subst (λ b. chars (string_bytes c.push.new.self)
      ≡ chars (string_bytes c.args.self.text) ++ newline (not b)) (sym c.if-self.false)
      (ap chars c.in_ok-push.ensures.bytes
      ∙ chars-push (string_bytes c.args.self.text) 10 (IsUtf8-string_bytes c.args.self.text)
      (search rules));
  appended = refl;
  style = refl;
  snippet = refl;
  mode = refl;
}
