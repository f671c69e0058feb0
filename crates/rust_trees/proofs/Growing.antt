-- The facts that stay as tokens are added, and the pairs that come with one more.
use Rattle.std.proofs.Common.{◌≡◌, ◌++◌, ◌⊎◌, ℕ, ◌+◌, ◌<◌, List, [], ◌∷◌, Option, Some, None}
use Rattle.std.proofs.Common.{inl, inr, refl, ap, sym, ◌∙◌, subst, length, arith}
use Rattle.std.proofs.lemmas.List.{append_assoc}
use Rattle.std.proofs.lemmas.Option.{none-some, same_Some}
use Rattle.rust_trees.specs.declared.sides.Delimiter.{Delimiter}
use Rattle.rust_trees.specs.declared.sides.Side.TheVariants.{Opens}
use Rattle.rust_trees.specs.Leaves.{Leaf, side}
use Rattle.rust_trees.specs.Scans.{open_after, scan}
use Rattle.rust_trees.specs.Forests.{IsForest, IsPair, ArePartners, Pairs}
use Rattle.rust_trees.proofs.Lists.{at-end, length-at}
use Rattle.rust_trees.proofs.Scanning.{scan-append, scan-none, scan-forest, below}

-- After an opening delimiter within a forest the tokens break.
pub dead-inside : (g v : List Leaf) (a : Leaf) (d : Delimiter)
    → scan (Some []) (g ++ a ∷ v) ≡ Some [] → side a ≡ Opens d → scan (Some []) v ≡ None
dead-inside g v a d h o = by_front (scan (Some []) g) refl
  where
    on : (s : Option (List Delimiter)) → scan (Some []) g ≡ s
        → scan (open_after (side a) s) v ≡ Some []
    on s e = ap (λ t. scan (open_after (side a) t) v) (sym e)
        ∙ (sym (scan-append (Some []) g (a ∷ v)) ∙ h)

    by_rest : (ds : List Delimiter) → scan (Some (d ∷ ds)) v ≡ Some []
        → (s : Option (List Delimiter)) → scan (Some []) v ≡ s → s ≡ None
    by_rest ds e None f = refl
    by_rest ds e (Some es) f =
        let more : es ++ d ∷ ds ≡ [] =
        same_Some (es ++ d ∷ ds) [] (sym (below v [] es (d ∷ ds) f) ∙ e) in
        absurd (omega (arith, ap (λ xs. length xs) more, length-at es ds d))

    by_front : (s : Option (List Delimiter)) → scan (Some []) g ≡ s → scan (Some []) v ≡ None
    by_front None e = absurd (none-some [] (sym (scan-none v) ∙ on None e))
    by_front (Some ds) e =
        by_rest ds (ap (λ t. scan (open_after t (Some ds)) v) (sym o) ∙ on (Some ds) e)
        (scan (Some []) v) refl

-- A pair stays one.
pub pair-more : (w ys : List Leaf) (i j : ℕ) → IsPair w i j → IsPair (w ++ ys) i j
pair-more w ys i j p = record {
  before = p.before;
  opening = p.opening;
  inside = p.inside;
  closing = p.closing;
  after = p.after ++ ys;
  joins = ap (λ t. t ++ ys) p.joins
      ∙ (append_assoc p.before (p.opening ∷ (p.inside ++ p.closing ∷ p.after)) ys
      ∙ ap (λ t. p.before ++ p.opening ∷ t) (append_assoc p.inside (p.closing ∷ p.after) ys));
  starts = p.starts;
  ends = p.ends;
  pairs = p.pairs;
  is_forest = p.is_forest;
}

pub partners-more : (w ys : List Leaf) (i j : ℕ) → ArePartners w i j → ArePartners (w ++ ys) i j
partners-more w ys i j (inl p) = inl (pair-more w ys i j p)
partners-more w ys i j (inr p) = inr (pair-more w ys j i p)

-- A pair that the last token closes.
pub record EndsPair (w : List Leaf) (x : Leaf) (i j : ℕ) : Type 0 where
  pub before : List Leaf
  pub opening : Leaf
  pub inside : List Leaf
  pub joins : w ≡ before ++ opening ∷ inside
  pub starts : i ≡ length before
  pub ends : j ≡ length w
  pub pairs : Pairs opening x
  pub is_forest : IsForest inside

pub pair-parts : (w : List Leaf) (x : Leaf) (i j : ℕ) → IsPair (w ++ x ∷ []) i j
    → IsPair w i j ⊎ EndsPair w x i j
pair-parts w x i j p = by_end (at-end (p.before ++ p.opening ∷ p.inside) p.after p.closing w x
    (p.joins ∙ sym (append_assoc p.before (p.opening ∷ p.inside) (p.closing ∷ p.after))))
  where
    front : List Leaf
    front = p.before ++ p.opening ∷ p.inside

    by_end : ((p.after ≡ []) × (p.closing ≡ x) × (front ≡ w))
        ⊎ ((r : List Leaf) × (p.after ≡ r ++ x ∷ []) × (w ≡ front ++ p.closing ∷ r))
        → IsPair w i j ⊎ EndsPair w x i j
    by_end (inl e) = inr (record {
      before = p.before;
      opening = p.opening;
      inside = p.inside;
      joins = sym e.2;
      starts = p.starts;
      ends = omega (
        arith,
        p.ends,
        p.starts,
        length-at p.before p.inside p.opening,
        ap (λ t. length t) e.2,
      );
      pairs = subst (λ t. Pairs p.opening t) e.1 p.pairs;
      is_forest = p.is_forest;
    })
    by_end (inr e) = inl (record {
      before = p.before;
      opening = p.opening;
      inside = p.inside;
      closing = p.closing;
      after = e.0;
      joins = e.2 ∙ append_assoc p.before (p.opening ∷ p.inside) (p.closing ∷ e.0);
      starts = p.starts;
      ends = p.ends;
      pairs = p.pairs;
      is_forest = p.is_forest;
    })

-- Within the tokens both are, and after the first one they break.
pub pair-within : (w : List Leaf) (i j : ℕ) → IsPair w i j → (i < length w) × (j < length w)
pair-within w i j p =
    let n = ap (λ t. length t) p.joins
    ∙ length-at p.before (p.inside ++ p.closing ∷ p.after) p.opening in
    let m = length-at p.inside p.after p.closing in
    (omega (arith, n, m, p.starts), omega (arith, n, m, p.starts, p.ends))

pub pair-first_break : (w : List Leaf) (i j : ℕ) (p : IsPair w i j)
    → scan (Some []) (p.inside ++ p.closing ∷ p.after) ≡ None
pair-first_break w i j p =
    scan-append (Some []) p.inside (p.closing ∷ p.after)
    ∙ (ap (λ o. scan o (p.closing ∷ p.after)) (scan-forest p.inside p.is_forest)
    ∙ (ap (λ s. scan (open_after s (Some [])) p.after) p.pairs.2 ∙ scan-none p.after))

-- Nothing stands among no tokens.
pub no-place : {B : Type 0} (u v : List Leaf) (a : Leaf) → [] ≡ u ++ a ∷ v → B
no-place u v a h =
    let n : 0 ≡ length u + (1 + length v) = ap (λ t. length t) h ∙ length-at u v a in
    absurd (omega (arith, n))

pub no-pair-in-none : {B : Type 0} (i j : ℕ) → IsPair [] i j → B
no-pair-in-none i j p = no-place p.before (p.inside ++ p.closing ∷ p.after) p.opening p.joins
