use Rattle.std.proofs.Common.{ap, ◌∙◌, false}
use Rattle.std.proofs.lemmas.Str.{chars-nil}
use Rattle.rust_tokens.proofs.first.closed_token.Goals as goal

pub returns-in-None : goal.returns-in-None
returns-in-None c =
    c.unended_token.ensures ∙ rw (c.in-None.is) (ap (λ t. (c.args.kind, false, t)) chars-nil)
