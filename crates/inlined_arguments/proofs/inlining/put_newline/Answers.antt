use Rattle.std.proofs.Common.{◌≡◌, ◌∙◌, ◌++◌, ap, chars, rules, string_bytes, subst, sym}
use Rattle.std.proofs.lemmas.Str.{IsUtf8-string_bytes}
use Rattle.rustc_parse_format.specs.Literal.{newline}
use Rattle.rustc_parse_format.proofs.Literals.Texts.{chars-push}
use Rattle.inlined_arguments.proofs.inlining.put_newline.Goals as goal

pub returns-then-appends_newline-clause-text : goal.returns-then-appends_newline-clause-text
returns-then-appends_newline-clause-text c =
    subst (λ b. chars (string_bytes c.push.new.self)
    ≡ chars (string_bytes c.args.text.now) ++ newline b) (sym c.if-appends_newline.true)
    (ap chars c.in_ok-push.ensures.bytes
    ∙ chars-push (string_bytes c.args.text.now) 10 (IsUtf8-string_bytes c.args.text.now)
    (search rules))
