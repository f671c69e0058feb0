-- A group of tokens keeps its pairs.
use Rattle.std.proofs.Common.{◌≡◌, ◌++◌, ◌⊎◌, ℕ, ◌+◌, ◌<◌, ◌≤◌, List, [], ◌∷◌, Some}
use Rattle.std.proofs.Common.{inl, inr, refl, ap, sym, ◌∙◌, subst, length, length-append, arith}
use Rattle.std.proofs.lemmas.Bool.{cases_lt}
use Rattle.std.proofs.lemmas.Option.{none-some}
use Rattle.std.specs.Prelude.{reverse}
use Rattle.std.proofs.lemmas.List.{append_assoc}
use Rattle.rust_trees.specs.declared.sides.Delimiter.{Delimiter}
use Rattle.rust_trees.specs.declared.sides.Side.TheVariants.{Closes}
use Rattle.rust_trees.specs.declared.matching.Matching.{Matching}
use Rattle.rust_trees.specs.Leaves.{AreLeft, Leaf, Remainder, side}
use Rattle.rust_trees.specs.Scans.{scan}
use Rattle.rust_trees.specs.Forests.{IsGroup, IsPair}
use Rattle.rust_trees.specs.Matching.{Alive, IsMatched, Sealed}
use Rattle.rust_trees.proofs.Lists.{same-first, same-rest}
use Rattle.rust_trees.proofs.Scanning.{scan-forest, stays-first_break}

-- A list that is not longer than the first of two is its front.
pub cut-list : {A : Type 0} (a b c d : List A) → a ++ b ≡ c ++ d → length c ≤ length a
    → (r : List A) × (a ≡ c ++ r) × (r ++ b ≡ d)
cut-list a b [] d h l = (a, refl, h)
cut-list [] b (x ∷ c) d h l = absurd (omega (arith, l))
cut-list (y ∷ a) b (x ∷ c) d h l =
    let t = cut-list a b c d (same-rest y x (a ++ b) (c ++ d) h) (omega (arith, l)) in
    (t.0, ap (λ z. z ∷ a) (same-first y x (a ++ b) (c ++ d) h) ∙ ap (λ z. x ∷ z) t.1, t.2)

pub keeps-pairs : (w ys : List Leaf) (i j : ℕ) → Sealed w → IsPair (w ++ ys) i j → i < length w
    → j < length w
keeps-pairs w ys i j sealed p h =
    let c = cut-list w ys p.before (p.opening ∷ (p.inside ++ p.closing ∷ p.after)) p.joins
    (omega (arith, p.starts, h)) in
    by_rest c.0 c.1 c.2
  where
    by_size : (v : List Leaf) → w ≡ p.before ++ p.opening ∷ v
        → v ++ ys ≡ p.inside ++ p.closing ∷ p.after
        → (length p.inside < length v) ⊎ (length v ≤ length p.inside) → j < length w
    by_size v e f (inl l) =
        let n = ap (λ t. length t) e ∙ length-append p.before (p.opening ∷ v) in
        omega (arith, n, l, p.starts, p.ends)
    by_size v e f (inr l) =
        let c = cut-list p.inside (p.closing ∷ p.after) v ys (sym f) l in
        absurd (none-some [] (sym (ap (λ t. scan (Some []) t) c.1
        ∙ stays-first_break (Some []) v c.0 (sealed p.before v p.opening p.pairs.0 e p.pairs.1))
        ∙ scan-forest p.inside p.is_forest))

    by_rest : (r : List Leaf) → w ≡ p.before ++ r
        → r ++ ys ≡ p.opening ∷ (p.inside ++ p.closing ∷ p.after) → j < length w
    by_rest [] e f =
        let n = ap (λ t. length t) e ∙ length-append p.before [] in
        absurd (omega (arith, n, p.starts, h))
    by_rest (a ∷ v) e f =
        let s = same-first a p.opening (v ++ ys) (p.inside ++ p.closing ∷ p.after) f in
        let t = same-rest a p.opening (v ++ ys) (p.inside ++ p.closing ∷ p.after) f in
        by_size v (e ∙ ap (λ x. p.before ++ x ∷ v) s) t (cases_lt (length p.inside) (length v))

-- Tokens that were read, with one more.
pub joins-more : (old cur new : Remainder) (front xs : List Leaf) (x : Leaf)
    → ((ls : List Leaf) → AreLeft new ls → AreLeft cur (x ∷ ls))
    → (more : List Leaf) × (xs ≡ front ++ more)
    × ((ls : List Leaf) → AreLeft cur ls → AreLeft old (more ++ ls))
    → (more : List Leaf) × (xs ++ x ∷ [] ≡ front ++ more)
    × ((ls : List Leaf) → AreLeft new ls → AreLeft old (more ++ ls))
joins-more old cur new front xs x step h = (
  h.0 ++ x ∷ [],
  ap (λ t. t ++ x ∷ []) h.1 ∙ append_assoc front h.0 (x ∷ []),
  λ ls l. subst (AreLeft old) (sym (append_assoc h.0 (x ∷ []) ls)) (h.2 (x ∷ ls) (step ls l)),
)

-- Tokens are a group where the last one closes and no delimiter is open after it.
pub group : (w : List Leaf) (x : Leaf) (d : Delimiter) (m : Matching) → side x ≡ Closes d
    → IsMatched (w ++ x ∷ []) m → m.openings.items ≡ [] → IsGroup (w ++ x ∷ [])
group w x d m c h e =
    let sealed : Sealed (w ++ x ∷ []) =
    subst (λ os. Alive (reverse os) (w ++ x ∷ [])) e h.has_open.alive in
    record {
      front = w;
      closing = x;
      delimiter = d;
      joins = refl;
      closes = c;
      keeps = λ ys i j p l. keeps-pairs (w ++ x ∷ []) ys i j sealed p l;
    }

-- A pair after other tokens, and without them.
pub pair-shift : (f xs : List Leaf) (i j : ℕ) → IsPair xs i j
    → IsPair (f ++ xs) (length f + i) (length f + j)
pair-shift f xs i j p =
    let n = length-append f p.before in record {
      before = f ++ p.before;
      opening = p.opening;
      inside = p.inside;
      closing = p.closing;
      after = p.after;
      joins = ap (λ t. f ++ t) p.joins
          ∙ sym (append_assoc f p.before (p.opening ∷ (p.inside ++ p.closing ∷ p.after)));
      starts = omega (arith, n, p.starts);
      ends = omega (arith, p.ends);
      pairs = p.pairs;
      is_forest = p.is_forest;
    }

pub pair-unshift : (f xs : List Leaf) (i j : ℕ) → IsPair (f ++ xs) (length f + i) (length f + j)
    → IsPair xs i j
pair-unshift f xs i j p =
    let c = cut-list p.before (p.opening ∷ (p.inside ++ p.closing ∷ p.after)) f xs (sym p.joins)
    (omega (arith, p.starts)) in
    let n = ap (λ t. length t) c.1 ∙ length-append f c.0 in
    record {
      before = c.0;
      opening = p.opening;
      inside = p.inside;
      closing = p.closing;
      after = p.after;
      joins = sym c.2;
      starts = omega (arith, n, p.starts);
      ends = omega (arith, p.ends);
      pairs = p.pairs;
      is_forest = p.is_forest;
    }

-- A pair without tokens after it.
pub pair-less : (xs ys : List Leaf) (i j : ℕ) → IsPair (xs ++ ys) i j → j < length xs
    → IsPair xs i j
pair-less xs ys i j p h =
    let end = p.closing ∷ [] in
    let front = p.before ++ p.opening ∷ (p.inside ++ end) in
    let e : xs ++ ys ≡ front ++ p.after =
    p.joins
    ∙ (ap (λ t. p.before ++ p.opening ∷ t) (sym (append_assoc p.inside end p.after))
    ∙ sym (append_assoc p.before (p.opening ∷ (p.inside ++ end)) p.after)) in
    let n = length-append p.before (p.opening ∷ (p.inside ++ end)) in
    let m = length-append p.inside end in
    let c = cut-list xs ys front p.after e (omega (arith, n, m, h, p.starts, p.ends)) in
    record {
      before = p.before;
      opening = p.opening;
      inside = p.inside;
      closing = p.closing;
      after = c.0;
      joins = c.1 ∙ (append_assoc p.before (p.opening ∷ (p.inside ++ end)) c.0
          ∙ ap (λ t. p.before ++ p.opening ∷ t) (append_assoc p.inside end c.0));
      starts = p.starts;
      ends = p.ends;
      pairs = p.pairs;
      is_forest = p.is_forest;
    }
