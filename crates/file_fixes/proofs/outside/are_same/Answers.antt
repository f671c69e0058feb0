use Rattle.std.proofs.Common.{◌≡◌, ◌∙◌, ℕ, Bool, ap}
use Rattle.std.specs.Bool.{Decides}
use Rattle.std.specs.Cmp.{booleans_Decides}
use Rattle.std.proofs.lemmas.Bool.Decides.{Decides-and, Decides-eqb, Decides-like}
use Rattle.std.proofs.lemmas.Slice.Eq.{slice_eq-Decides}
use denote.Enum.Bare.{same_true, sameb, true_same}
use Rattle.rust_tokens.specs.declared.kinds.Kind.{Kind}
use Rattle.rust_tokens.specs.declared.kinds.Token.{Token}
use Rattle.rust_tokens.specs.contracts.kinds.Kind.{the_type}
use Rattle.rust_tokens.specs.contracts.kinds.TokenPartialEq.TheImpl.{eq-value}
use Rattle.file_fixes.proofs.outside.are_same.Goals as goal

kind-decides : (a b : Kind) → Decides (sameb the_type a b) (a ≡ b)
kind-decides a b = (same_true the_type tt a b, true_same the_type a b)

-- The token with these fields.
abbrev token : ℕ → ℕ → ℕ → Kind → Bool → Token
token start end suffix kind ended = record {
  span = record { start = start; end = end };
  suffix_start = suffix;
  kind = kind;
  is_ended = ended;
}

token-decides : (a b : Token) → Decides (eq-value.it a b) (a ≡ b)
token-decides a b = Decides-like (eq-value.it a b)
    (λ h. ap (λ v. token v a.span.end a.suffix_start a.kind a.is_ended) h.0.0
    ∙ (ap (λ v. token b.span.start v a.suffix_start a.kind a.is_ended) h.0.1
    ∙ (ap (λ v. token b.span.start b.span.end v a.kind a.is_ended) h.1.0
    ∙ (ap (λ v. token b.span.start b.span.end b.suffix_start v a.is_ended) h.1.1.0
    ∙ ap (λ v. token b.span.start b.span.end b.suffix_start b.kind v) h.1.1.1))))
    (λ e. (
      (ap (λ t. t.span.start) e, ap (λ t. t.span.end) e),
      (
        ap (λ t. t.suffix_start) e,
        (ap (λ t. t.kind) e, ap (λ t. t.is_ended) e),
      ),
    ))
    (Decides-and _ _ (Decides-and _ _ (Decides-eqb a.span.start b.span.start)
    (Decides-eqb a.span.end b.span.end)) (Decides-and _ _
    (Decides-eqb a.suffix_start b.suffix_start) (Decides-and _ _ (kind-decides a.kind b.kind)
    (booleans_Decides a.is_ended b.is_ended))))

pub returns : goal.returns
returns c = slice_eq-Decides token-decides _ _ _ c.eq.ensures
