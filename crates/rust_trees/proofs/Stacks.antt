-- The delimiters that may still be closed, as tokens are added.
use Rattle.std.proofs.Common.{◌≡◌, ◌++◌, ◌⊎◌, false, List, [], ◌∷◌, Option, Some, None}
use Rattle.std.proofs.Common.{inl, inr, refl, ap, sym, ◌∙◌, subst, length}
use Rattle.std.specs.Prelude.{if◌then◌else◌}
use Rattle.std.proofs.lemmas.List.{append_assoc}
use Rattle.rust_trees.specs.declared.sides.Delimiter.{Delimiter}
use Rattle.rust_trees.specs.declared.sides.Side.{Side}
use Rattle.rust_trees.specs.declared.sides.Side.TheVariants.{Opens, Closes, Neither}
use Rattle.rust_trees.specs.declared.matching.Opening.{Opening}
use Rattle.rust_trees.specs.Sides.{is_same}
use Rattle.rust_trees.specs.Leaves.{Leaf, side}
use Rattle.rust_trees.specs.Scans.{open_after, scan}
use Rattle.rust_trees.specs.Matching.{Sealed, Alive}
use Rattle.rust_trees.proofs.Lists.{Order, Front, Same, After, order, at-end}
use Rattle.rust_trees.proofs.Scanning.{scan-append, stays-first_break, below, closes-top}
use Rattle.rust_trees.proofs.Growing.{dead-inside}

-- No side is two things.
pub no-open-neither : {B : Type 0} (d : Delimiter) → Opens d ≡ Neither → B
no-open-neither d h = absurd (cc)

pub no-open-close : {B : Type 0} (d e : Delimiter) → Opens d ≡ Closes e → B
no-open-close d e h = absurd (cc)

pub no-close-neither : {B : Type 0} (d : Delimiter) → Closes d ≡ Neither → B
no-close-neither d h = absurd (cc)

-- The fate of an opening delimiter with v after it: it is dead, it is the last that may be closed,
-- or it stands below that one.
pub data Fate (os : List Opening) (u v : List Leaf) (d : Delimiter) : Type 0 where
  Dead : scan (Some []) v ≡ None → Fate os u v d
  Top : (o : Opening) (rest : List Opening) → os ≡ o ∷ rest → scan (Some []) v ≡ Some []
      → o.position ≡ length u → o.delimiter ≡ d → Fate os u v d
  Under : (o : Opening) (rest : List Opening) (ds : List Delimiter) → os ≡ o ∷ rest
      → scan (Some []) v ≡ Some (o.delimiter ∷ ds) → Fate os u v d

same-opens : (d e : Delimiter) → Opens d ≡ Opens e → d ≡ e
same-opens d e h = cc

-- Below an opening delimiter with a forest after it.
over-top : (r q : List Leaf) (b : Leaf) (d : Delimiter) (s : Option (List Delimiter))
    → scan (Some []) r ≡ s → side b ≡ Opens d → scan (Some []) q ≡ Some []
    → (scan (Some []) (r ++ b ∷ q) ≡ None)
    ⊎ ((ds : List Delimiter) × (scan (Some []) (r ++ b ∷ q) ≡ Some (d ∷ ds)))
over-top r q b d None e o h = inl (stays-first_break (Some []) r (b ∷ q) e)
over-top r q b d (Some ds) e o h = inr (
  ds,
  scan-append (Some []) r (b ∷ q) ∙ (ap (λ t. scan (open_after (side b) t) q) e
      ∙ (ap (λ t. scan (open_after t (Some ds)) q) o ∙ below q [] [] (d ∷ ds) h)),
)

pub fate : (os : List Opening) (w u v : List Leaf) (a : Leaf) (d : Delimiter) → Alive os w
    → w ≡ u ++ a ∷ v → side a ≡ Opens d → Fate os u v d
fate [] w u v a d l e s = Dead (l u v a d e s)
fate (o ∷ os) w u v a d l e s = by_order (order u v a l.0 l.1 l.2 (sym e ∙ l.3))
  where
    by_over : (r : List Leaf) → v ≡ r ++ l.2 ∷ l.1 → (scan (Some []) (r ++ l.2 ∷ l.1) ≡ None)
        ⊎ ((ds : List Delimiter) × (scan (Some []) (r ++ l.2 ∷ l.1) ≡ Some (o.delimiter ∷ ds)))
        → Fate (o ∷ os) u v d
    by_over r f (inl g) = Dead (ap (λ t. scan (Some []) t) f ∙ g)
    by_over r f (inr g) = Under o os g.0 refl (ap (λ t. scan (Some []) t) f ∙ g.1)

    by_order : Order u v a l.0 l.1 l.2 → Fate (o ∷ os) u v d
    by_order (Front r f g) =
        by_over r g (over-top r l.1 l.2 o.delimiter (scan (Some []) r) refl l.5 l.6)
    by_order (Same f g h) = Top o os refl (ap (λ t. scan (Some []) t) h ∙ l.6)
        (l.4 ∙ ap (λ t. length t) (sym f))
        (same-opens o.delimiter d (sym l.5 ∙ (ap (λ t. side t) (sym g) ∙ s)))
    by_order (After r f g) =
        Dead (dead-inside r v a d (ap (λ t. scan (Some []) t) (sym g) ∙ l.6) s)

-- One more token after tokens that break.
first_break-more : (v r : List Leaf) (x : Leaf) → v ≡ r ++ x ∷ [] → scan (Some []) r ≡ None
    → scan (Some []) v ≡ None
first_break-more v r x e h = ap (λ t. scan (Some []) t) e ∙ stays-first_break (Some []) r (x ∷ []) h

-- One more token after tokens that do not.
pub last-token : (v r : List Leaf) (x : Leaf) (o : Option (List Delimiter)) → v ≡ r ++ x ∷ []
    → scan (Some []) r ≡ o → scan (Some []) v ≡ open_after (side x) o
last-token v r x o e h = ap (λ t. scan (Some []) t) e
    ∙ (scan-append (Some []) r (x ∷ []) ∙ ap (λ t. open_after (side x) t) h)

-- Tokens are sealed if after each opening delimiter but the last token they break.
pub seal : (w : List Leaf) (x : Leaf) → ((d : Delimiter) → side x ≡ Opens d → ⊥)
    → ((u v r : List Leaf) (a : Leaf) (d : Delimiter) → w ≡ u ++ a ∷ r → side a ≡ Opens d
    → v ≡ r ++ x ∷ [] → scan (Some []) v ≡ None) → Sealed (w ++ x ∷ [])
seal w x shut more u v a d e s = by_end (at-end u v a w x e)
  where
    by_end : ((v ≡ []) × (a ≡ x) × (u ≡ w))
        ⊎ ((r : List Leaf) × (v ≡ r ++ x ∷ []) × (w ≡ u ++ a ∷ r)) → scan (Some []) v ≡ None
    by_end (inl f) = absurd (shut d (ap (λ t. side t) (sym f.1) ∙ s))
    by_end (inr f) = more u v f.0 a d f.2 s f.1

pub joins-more : (w u v : List Leaf) (a x : Leaf) → w ≡ u ++ a ∷ v
    → w ++ x ∷ [] ≡ u ++ a ∷ (v ++ x ∷ [])
joins-more w u v a x e = ap (λ t. t ++ x ∷ []) e ∙ append_assoc u (a ∷ v) (x ∷ [])

pub alive-token : (os : List Opening) (w : List Leaf) (x : Leaf) → side x ≡ Neither → Alive os w
    → Alive os (w ++ x ∷ [])
alive-token [] w x s l = seal w x (λ d e. no-open-neither d (sym e ∙ s))
    (λ u v r a d e t f. first_break-more v r x f (l u r a d e t))
alive-token (o ∷ os) w x s l = (
  l.0,
  l.1 ++ x ∷ [],
  l.2,
  joins-more w l.0 l.1 l.2 x l.3,
  l.4,
  l.5,
  last-token (l.1 ++ x ∷ []) l.1 x (Some []) refl l.6
      ∙ ap (λ t. open_after t (Some [])) s,
  l.7,
)

pub alive-open : (os : List Opening) (o : Opening) (w : List Leaf) (x : Leaf)
    → side x ≡ Opens o.delimiter → o.position ≡ length w → Alive os w → Alive (o ∷ os) (w ++ x ∷ [])
alive-open os o w x s n l = (w, [], x, refl, n, s, refl, l)

pub alive-close : (os : List Opening) (o : Opening) (w : List Leaf) (x : Leaf)
    → side x ≡ Closes o.delimiter → Alive (o ∷ os) w → Alive os (w ++ x ∷ [])
alive-close [] o w x s l = seal w x (λ d e. no-open-close d o.delimiter (sym e ∙ s))
    (λ u v r a d e t f. by_order u v r a d t f (order u r a l.0 l.1 l.2 (sym e ∙ l.3)))
  where
    by_order : (u v r : List Leaf) (a : Leaf) (d : Delimiter) → side a ≡ Opens d → v ≡ r ++ x ∷ []
        → Order u r a l.0 l.1 l.2 → scan (Some []) v ≡ None
    by_order u v r a d t f (Front p g h) = first_break-more v r x f
        (ap (λ q. scan (Some []) q) h
        ∙ stays-first_break (Some []) p (l.2 ∷ l.1) (l.7 u p a d g t))
    by_order u v r a d t f (Same g h k) =
        last-token v r x (Some []) f (ap (λ q. scan (Some []) q) k ∙ l.6)
        ∙ ap (λ q. open_after q (Some [])) s
    by_order u v r a d t f (After p g h) = first_break-more v r x f
        (dead-inside p r a d (ap (λ q. scan (Some []) q) (sym h) ∙ l.6) t)
alive-close (n ∷ os) o w x s l =
    let m = l.7 in (
      m.0,
      m.1 ++ l.2 ∷ (l.1 ++ x ∷ []),
      m.2,
      joins-more w l.0 l.1 l.2 x l.3 ∙ (ap (λ t. t ++ l.2 ∷ (l.1 ++ x ∷ [])) m.3
          ∙ append_assoc m.0 (m.2 ∷ m.1) (l.2 ∷ (l.1 ++ x ∷ []))),
      m.4,
      m.5,
      scan-append (Some []) m.1 (l.2 ∷ (l.1 ++ x ∷ []))
          ∙ (ap (λ t. scan (open_after (side l.2) t) (l.1 ++ x ∷ [])) m.6
          ∙ (ap (λ t. scan (open_after t (Some [])) (l.1 ++ x ∷ [])) l.5
          ∙ (scan-append (Some (o.delimiter ∷ [])) l.1 (x ∷ [])
          ∙ (ap (λ t. open_after (side x) t) (below l.1 [] [] (o.delimiter ∷ []) l.6)
          ∙ closes-top (side x) o.delimiter [] s)))),
      m.7,
    )

-- The delimiter does not close the last one that may be closed.
abbrev pub Mismatches : List Opening → Delimiter → Type 0
Mismatches [] d = Unit {0}
Mismatches (o ∷ os) d = is_same o.delimiter d ≡ false

pub mismatch : (os rest : List Opening) (o : Opening) (d : Delimiter) → Mismatches os d
    → os ≡ o ∷ rest → is_same o.delimiter d ≡ false
mismatch os rest o d m e = subst (λ t. Mismatches t d) e m

pub breaks-top : (s : Side) (e d : Delimiter) (ds : List Delimiter) → s ≡ Closes d
    → is_same e d ≡ false → open_after s (Some (e ∷ ds)) ≡ None
breaks-top s e d ds h f = ap (λ t. open_after t (Some (e ∷ ds))) h
    ∙ ap (λ b. if b then Some ds else None) f

pub alive-break : (os : List Opening) (w : List Leaf) (x : Leaf) (d : Delimiter)
    → side x ≡ Closes d → Mismatches os d → Alive os w → Sealed (w ++ x ∷ [])
alive-break os w x d s m l = seal w x (λ e f. no-open-close e d (sym f ∙ s))
    (λ u v r a e f g h. by_fate v r h u e (fate os w u r a e l f g))
  where
    by_fate : (v r : List Leaf) → v ≡ r ++ x ∷ [] → (u : List Leaf) (e : Delimiter)
        → Fate os u r e → scan (Some []) v ≡ None
    by_fate v r h u e (Dead f) = first_break-more v r x h f
    by_fate v r h u e (Top o rest f g j k) = last-token v r x (Some []) h g
        ∙ ap (λ q. open_after q (Some [])) s
    by_fate v r h u e (Under o rest ds f g) = last-token v r x (Some (o.delimiter ∷ ds)) h g
        ∙ breaks-top (side x) o.delimiter d ds s (mismatch os rest o d m f)
