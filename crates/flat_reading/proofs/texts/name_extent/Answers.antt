use Rattle.std.proofs.Common.{◌≡◌, ℕ, ◌+◌, ◌≤◌, List, inl, inr, length, codes, sym, subst, arith}
use Rattle.rustc_parse_format.specs.Characters.{Text}
use Rattle.flat_reading.specs.Progress.{HasBytes, StandsAfter, StandsAt}
use Rattle.flat_reading.proofs.Cuts.{has_after, has_prefix}
use Rattle.flat_reading.proofs.texts.name_extent.Goals as goal

no_hash : (bs : List ℕ) (from : ℕ) (t : Text) → StandsAfter bs (codes "r#") from t
    → (from + 2 ≤ length bs → HasBytes bs (from + 1) (codes "#") → ⊥)
    → StandsAt bs from t
no_hash bs from t (inl h) never = h
no_hash bs from t (inr h) never =
    let raw = has_prefix bs (codes "r#") _ from h in
    absurd (never raw.0 (has_after bs (codes "r") (codes "#") from raw))

pub raw_extent-requires : goal.raw_extent-requires
raw_extent-requires c = rw c.saturating_sub-start.ensures (rw c.in-ArgumentNamed.is at c.requires)

pub extent_of-requires : goal.extent_of-requires
extent_of-requires c =
    let from = c.saturating_sub-start.result in
    no_hash c.args.input.now from _
    (rw c.saturating_sub-start.ensures (rw c.in-ArgumentNamed.is at c.requires))
    (λ long hash.
    let second : c.saturating_add.result ≡ from + 1 =
    omega (arith, c.saturating_add.ensures, long) in
    c.has_bytes_at.ensures.no c.if-has_bytes_at.false
    (subst (λ n. HasBytes c.args.input.now n (codes "#")) (sym second) hash))
