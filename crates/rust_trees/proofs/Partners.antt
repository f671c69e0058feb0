-- The partners that are noted, as tokens are added.
use Rattle.std.proofs.Common.{◌≡◌, ◌≢◌, ◌++◌, ◌⊎◌, ℕ, zero, suc, ◌<◌, ◌≤◌, List, []}
use Rattle.std.proofs.Common.{◌∷◌, Option, Some, None, inl, inr, refl, ap, sym, ◌∙◌, subst, length}
use Rattle.std.proofs.Common.{arith}
use Rattle.std.proofs.Common.{set}
use Rattle.std.proofs.lemmas.Bool.{false≢true, cases_eq, cases_lt}
use Rattle.std.proofs.lemmas.List.{get_or_append_left, get_or-set_same, get_or-set_other}
use Rattle.std.proofs.lemmas.List.{get_or_push}
use Rattle.std.proofs.lemmas.List.{get_or_past, length-set, length-append, append_assoc}
use Rattle.std.proofs.lemmas.Option.{none-some, same_Some}
use Rattle.rust_trees.specs.declared.sides.Delimiter.{Delimiter}
use Rattle.rust_trees.specs.declared.sides.Side.TheVariants.{Closes}
use Rattle.rust_trees.specs.declared.matching.Opening.{Opening}
use Rattle.rust_trees.specs.Sides.{is_same}
use Rattle.rust_trees.specs.Leaves.{Leaf, side}
use Rattle.rust_trees.specs.Scans.{scan}
use Rattle.rust_trees.specs.Forests.{IsPair, ArePartners}
use Rattle.rust_trees.specs.Matching.{Alive, partner, IsSound, IsComplete}
use Rattle.rust_trees.proofs.Lists.{length-at, same-place, same-first, no-cons}
use Rattle.rust_trees.proofs.Scanning.{same-same, scan-forest, forest-scan}
use Rattle.rust_trees.proofs.Growing.{partners-more, pair-parts, pair-within, pair-first_break}
use Rattle.rust_trees.proofs.Growing.{EndsPair}
use Rattle.rust_trees.proofs.Stacks.{Fate, Dead, Top, Under, fate, joins-more, Mismatches, mismatch}
use Rattle.rust_trees.proofs.Stacks.{no-open-close}

pub partner-none : (ps : List (Option ℕ)) (i : ℕ) → partner (ps ++ None ∷ []) i ≡ partner ps i
partner-none [] zero = refl
partner-none [] (suc i) = refl
partner-none (p ∷ ps) zero = refl
partner-none (p ∷ ps) (suc i) = partner-none ps i

-- A token without a partner in front of it.
pub sound-none : (w : List Leaf) (x : Leaf) (ps : List (Option ℕ)) → IsSound w ps
    → IsSound (w ++ x ∷ []) (ps ++ None ∷ [])
sound-none w x ps s i j h = partners-more w (x ∷ []) i j (s i j (sym (partner-none ps i) ∙ h))

pub complete-none : (w : List Leaf) (x : Leaf) (ps : List (Option ℕ))
    → ((i j : ℕ) → EndsPair w x i j → ⊥) → IsComplete w ps
    → IsComplete (w ++ x ∷ []) (ps ++ None ∷ [])
complete-none w x ps shut c i j p = by_parts (pair-parts w x i j p)
  where
    by_parts : IsPair w i j ⊎ EndsPair w x i j
        → (partner (ps ++ None ∷ []) i ≡ Some j) × (partner (ps ++ None ∷ []) j ≡ Some i)
    by_parts (inl q) =
        let old = c i j q in
        (partner-none ps i ∙ old.0, partner-none ps j ∙ old.1)
    by_parts (inr e) = absurd (shut i j e)

same-closes : (d e : Delimiter) → Closes d ≡ Closes e → d ≡ e
same-closes d e h = cc

-- A closing delimiter that does not fit ends no pair.
pub ends-none : (os : List Opening) (w : List Leaf) (x : Leaf) (d : Delimiter)
    → side x ≡ Closes d → Mismatches os d → Alive os w → (i j : ℕ) → EndsPair w x i j → ⊥
ends-none os w x d s m l i j e =
    by_fate (fate os w e.before e.inside e.opening e.pairs.0 l e.joins e.pairs.1)
  where
    by_fate : Fate os e.before e.inside e.pairs.0 → ⊥
    by_fate (Dead f) = none-some [] (sym f ∙ scan-forest e.inside e.is_forest)
    by_fate (Top o rest f g h k) =
        let same : o.delimiter ≡ d = k ∙ same-closes e.pairs.0 d (sym e.pairs.2 ∙ s) in
        false≢true (sym (mismatch os rest o d m f)
        ∙ (ap (λ t. is_same t d) same ∙ same-same d))
    by_fate (Under o rest ds f g) = no-cons o.delimiter ds
        (same_Some [] (o.delimiter ∷ ds) (sym (scan-forest e.inside e.is_forest) ∙ g))

-- The partners with a new pair from k to n.
abbrev pub with_pair : List (Option ℕ) → ℕ → ℕ → List (Option ℕ)
with_pair ps k n = set ps k (Some n) ++ Some k ∷ []

at-opening : (ps : List (Option ℕ)) (k n : ℕ) → length ps ≡ n → k < n
    → partner (with_pair ps k n) k ≡ Some n
at-opening ps k n e h =
    let here : k < length ps = omega (arith, e, h) in
    let within : k < length (set ps k (Some n)) = omega (arith, length-set ps k (Some n), here) in
    get_or_append_left (set ps k (Some n)) (Some k ∷ []) None k within
    ∙ get_or-set_same ps k (Some n) None here

at-closing : (ps : List (Option ℕ)) (k n : ℕ) → length ps ≡ n
    → partner (with_pair ps k n) n ≡ Some k
at-closing ps k n e =
    get_or_push (set ps k (Some n)) (Some k) None n (length-set ps k (Some n) ∙ e)

elsewhere : (ps : List (Option ℕ)) (k n i : ℕ) → length ps ≡ n → i ≢ k → i ≢ n
    → partner (with_pair ps k n) i ≡ partner ps i
elsewhere ps k n i e f g = by_order (cases_lt i n)
  where
    m : length (set ps k (Some n)) ≡ n
    m = length-set ps k (Some n) ∙ e

    by_order : (i < n) ⊎ (n ≤ i) → partner (with_pair ps k n) i ≡ partner ps i
    by_order (inl h) =
        get_or_append_left (set ps k (Some n)) (Some k ∷ []) None i (omega (arith, m, h))
        ∙ get_or-set_other ps k i (Some n) None f
    by_order (inr h) =
        let beyond : n < i =
        elim (cases_lt n i) [ inl a ↦ a | inr a ↦ absurd (g (omega (arith, a, h))) ] in
        get_or_past (with_pair ps k n) i None
        (omega (arith, length-append (set ps k (Some n)) (Some k ∷ []), m, beyond))
        ∙ sym (get_or_past ps i None (omega (arith, e, h)))

-- The pair that a closing delimiter ends.
pub pair-new : (os : List Opening) (o : Opening) (w : List Leaf) (x : Leaf)
    → side x ≡ Closes o.delimiter → Alive (o ∷ os) w → IsPair (w ++ x ∷ []) o.position (length w)
pair-new os o w x s l = record {
  before = l.0;
  opening = l.2;
  inside = l.1;
  closing = x;
  after = [];
  joins = joins-more w l.0 l.1 l.2 x l.3;
  starts = l.4;
  ends = omega (arith, ap (λ t. length t) l.3, length-at l.0 l.1 l.2, l.4);
  pairs = (o.delimiter, l.5, s);
  is_forest = forest-scan l.1 l.6;
}

pub opening-within : (os : List Opening) (o : Opening) (w : List Leaf) → Alive (o ∷ os) w
    → o.position < length w
opening-within os o w l = omega (arith, ap (λ t. length t) l.3, length-at l.0 l.1 l.2, l.4)

pub sound-pair : (os : List Opening) (o : Opening) (w : List Leaf) (x : Leaf)
    (ps : List (Option ℕ)) (n : ℕ) → side x ≡ Closes o.delimiter → Alive (o ∷ os) w
    → length ps ≡ n → length w ≡ n → IsSound w ps
    → IsSound (w ++ x ∷ []) (with_pair ps o.position n)
sound-pair os o w x ps n s l e f sound i j h =
    by_cases (cases_eq i o.position) (cases_eq i n)
  where
    new : IsPair (w ++ x ∷ []) o.position n
    new = subst (λ t. IsPair (w ++ x ∷ []) o.position t) f (pair-new os o w x s l)

    within : o.position < n
    within = omega (arith, opening-within os o w l, f)

    by_cases : (i ≡ o.position) ⊎ (i ≡ o.position → ⊥) → (i ≡ n) ⊎ (i ≡ n → ⊥)
        → ArePartners (w ++ x ∷ []) i j
    by_cases (inl g) k =
        let same : j ≡ n = same_Some j n (sym h ∙ (ap (λ t. partner (with_pair ps o.position n) t) g
        ∙ at-opening ps o.position n e within)) in
        inl (subst (λ t. IsPair (w ++ x ∷ []) t j) (sym g)
        (subst (λ t. IsPair (w ++ x ∷ []) o.position t) (sym same) new))
    by_cases (inr g) (inl k) =
        let same : j ≡ o.position = same_Some j o.position (sym h
        ∙ (ap (λ t. partner (with_pair ps o.position n) t) k ∙ at-closing ps o.position n e)) in
        inr (subst (λ t. IsPair (w ++ x ∷ []) j t) (sym k)
        (subst (λ t. IsPair (w ++ x ∷ []) t n) (sym same) new))
    by_cases (inr g) (inr k) =
        partners-more w (x ∷ []) i j (sound i j (sym (elsewhere ps o.position n i e g k) ∙ h))

pub complete-pair : (os : List Opening) (o : Opening) (w : List Leaf) (x : Leaf)
    (ps : List (Option ℕ)) (n : ℕ) → side x ≡ Closes o.delimiter → Alive (o ∷ os) w
    → length ps ≡ n → length w ≡ n → IsComplete w ps
    → IsComplete (w ++ x ∷ []) (with_pair ps o.position n)
complete-pair os o w x ps n s l e f c i j p = by_parts (pair-parts w x i j p)
  where
    within : o.position < n
    within = omega (arith, opening-within os o w l, f)

    not-opening : (q : IsPair w i j) → i ≡ o.position → ⊥
    not-opening q h =
        let same = same-place q.before (q.inside ++ q.closing ∷ q.after) q.opening l.0 l.1 l.2
        (sym q.joins ∙ l.3) (sym q.starts ∙ (h ∙ l.4)) in
        none-some [] (sym (pair-first_break w i j q) ∙ (ap (λ t. scan (Some []) t) same.2 ∙ l.6))

    not-closing : (q : IsPair w i j) → j ≡ o.position → ⊥
    not-closing q h =
        let place : length (q.before ++ q.opening ∷ q.inside) ≡ length l.0 =
        omega (arith, length-at q.before q.inside q.opening, q.starts, q.ends, h, l.4) in
        let same = same-place (q.before ++ q.opening ∷ q.inside) q.after q.closing l.0 l.1 l.2
        (append_assoc q.before (q.opening ∷ q.inside)
        (q.closing ∷ q.after) ∙ (sym q.joins ∙ l.3)) place in
        no-open-close o.delimiter q.pairs.0 (sym l.5 ∙ (ap (λ t. side t) (sym same.1) ∙ q.pairs.2))

    by_old : (q : IsPair w i j) → (partner (with_pair ps o.position n) i ≡ Some j)
        × (partner (with_pair ps o.position n) j ≡ Some i)
    by_old q =
        let old = c i j q in
        let in_w = pair-within w i j q in (
          elsewhere ps o.position n i e (not-opening q) (λ h. omega (arith, h, in_w.0, f)) ∙ old.0,
          elsewhere ps o.position n j e (not-closing q) (λ h. omega (arith, h, in_w.1, f)) ∙ old.1,
        )

    at-top : (q : EndsPair w x i j) → Fate (o ∷ os) q.before q.inside q.pairs.0 → i ≡ o.position
    at-top q (Dead g) = absurd (none-some [] (sym g ∙ scan-forest q.inside q.is_forest))
    at-top q (Top a rest g h k m) =
        q.starts ∙ (sym k ∙ ap (λ t. t.position) (sym (same-first o a os rest g)))
    at-top q (Under a rest ds g h) = no-cons a.delimiter ds
        (same_Some [] (a.delimiter ∷ ds) (sym (scan-forest q.inside q.is_forest) ∙ h))

    by_new : EndsPair w x i j → (partner (with_pair ps o.position n) i ≡ Some j)
        × (partner (with_pair ps o.position n) j ≡ Some i)
    by_new q =
        let k : i ≡ o.position = at-top q
        (fate (o ∷ os) w q.before q.inside q.opening q.pairs.0 l q.joins q.pairs.1) in
        let m : j ≡ n = q.ends ∙ f in (
          ap (λ t. partner (with_pair ps o.position n) t) k
              ∙ (at-opening ps o.position n e within ∙ ap (λ t. Some t) (sym m)),
          ap (λ t. partner (with_pair ps o.position n) t) m
              ∙ (at-closing ps o.position n e ∙ ap (λ t. Some t) (sym k)),
        )

    by_parts : IsPair w i j ⊎ EndsPair w x i j → (partner (with_pair ps o.position n) i ≡ Some j)
        × (partner (with_pair ps o.position n) j ≡ Some i)
    by_parts (inl q) = by_old q
    by_parts (inr q) = by_new q

-- A partner of a token is the one that was noted.
pub is-partner : (w : List Leaf) (ps : List (Option ℕ)) (i j : ℕ) → IsComplete w ps
    → ArePartners w i j → partner ps i ≡ Some j
is-partner w ps i j c (inl p) = (c i j p).0
is-partner w ps i j c (inr p) = (c j i p).1
