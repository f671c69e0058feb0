use denote.Ref.{Bor}
use Rattle.std.proofs.Common.{◌≡◌, ◌∙◌, ℕ, List, Option, Some, None, ap, chars, false, refl}
use Rattle.std.specs.Prelude.{option_map}
use Rattle.rustc_parse_format.specs.Views.{seen_mode}
use Rattle.format_tokens.specs.Spans.{tokens}
use Rattle.format_tokens.specs.Views.{seen_text}
use Rattle.format_lint.proofs.faults.tokens_in.Goals as goal

literal-seen : (literal : Option (Bor (List ℕ)))
    → seen_text literal
    ≡ option_map (λ (l : List ℕ). chars l) (option_map (λ (l : Bor (List ℕ)). l.now) literal)
literal-seen None = refl
literal-seen (Some l) = refl

pub returns-clause-tokens : goal.returns-clause-tokens
returns-clause-tokens c =
    c.in_ok-tokens.ensures
    (c.as_slice.ensures.value ∙ c.in_ok-labels.ensures.labels)
    ∙ ap (λ s. tokens (seen_mode c.args.mode) (chars c.args.source.text.now) c.args.source.style s
    false) (literal-seen c.args.source.literal)
