-- Tokens are a forest in one way, or they break at one place.
use Rattle.std.proofs.Common.{◌≡◌, ◌++◌, ℕ, List, [], ◌∷◌, Option, Some, None, refl, ap}
use Rattle.std.proofs.Common.{sym, ◌∙◌, subst, length}
use Rattle.std.proofs.lemmas.List.{append_assoc, append-nil}
use Rattle.std.proofs.lemmas.Option.{none-some}
use Rattle.rust_trees.specs.declared.sides.Delimiter.{Delimiter}
use Rattle.rust_trees.specs.declared.sides.Side.TheVariants.{Opens, Closes, Neither}
use Rattle.rust_trees.specs.declared.matching.DelimiterBreak.{DelimiterBreak}
use Rattle.rust_trees.specs.declared.matching.DelimiterBreak.TheVariants.{Unclosed, Unexpected}
use Rattle.rust_trees.specs.Leaves.{Leaf, side}
use Rattle.rust_trees.specs.Scans.{scan}
use Rattle.rust_trees.specs.Forests.{Forest, Empty, Token, Pair, spelling, IsWell, IsForest}
use Rattle.rust_trees.specs.Breaks.{Breaks, IsFront, IsUnexpected, IsUnclosed}
use Rattle.rust_trees.proofs.Lists.{Order, Front, Same, After, order, same-first, same-rest}
use Rattle.rust_trees.proofs.Lists.{no-cons}
use Rattle.rust_trees.proofs.Scanning.{scan-forest}
use Rattle.rust_trees.proofs.Growing.{dead-inside}
use Rattle.rust_trees.proofs.Stacks.{no-open-neither, no-open-close, no-close-neither}

-- Nothing is left, or a closing delimiter is next.
abbrev Ends : List Leaf → Type 0
Ends [] = Unit {0}
Ends (x ∷ xs) = (d : Delimiter) × (side x ≡ Closes d)

no-token-ends : {B : Type 0} (x : Leaf) (xs r : List Leaf) → side x ≡ Neither → Ends r
    → r ≡ x ∷ xs → B
no-token-ends x xs [] n e h = no-cons x xs h
no-token-ends x xs (y ∷ r) n e h =
    no-close-neither e.0 (sym e.1 ∙ (ap (λ z. side z) (same-first y x r xs h) ∙ n))

no-open-ends : {B : Type 0} (x : Leaf) (xs r : List Leaf) (d : Delimiter) → side x ≡ Opens d
    → Ends r → r ≡ x ∷ xs → B
no-open-ends x xs [] d o e h = no-cons x xs h
no-open-ends x xs (y ∷ r) d o e h =
    no-open-close d e.0 (sym o ∙ (ap (λ z. side z) (sym (same-first y x r xs h)) ∙ e.1))

-- Two forests in front of what ends them.
both : (f g : Forest) (r s : List Leaf) → IsWell f → IsWell g → Ends r → Ends s
    → spelling f ++ r ≡ spelling g ++ s → (f ≡ g) × (r ≡ s)
both Empty Empty r s u v d e h = (refl, h)
both Empty (Token x g) r s u v d e h = no-token-ends x (spelling g ++ s) r v.0 d h
both Empty (Pair a g b k) r s u v d e h =
    no-open-ends a ((spelling g ++ b ∷ spelling k) ++ s) r v.0.0 v.0.1 d h
both (Token x f) Empty r s u v d e h = no-token-ends x (spelling f ++ r) s u.0 e (sym h)
both (Token x f) (Token y g) r s u v d e h =
    let first = same-first x y (spelling f ++ r) (spelling g ++ s) h in
    let more = both f g r s u.1 v.1 d e (same-rest x y (spelling f ++ r) (spelling g ++ s) h) in
    (rw (first, more.0) refl, more.1)
both (Token x f) (Pair a g b k) r s u v d e h =
    no-open-neither v.0.0 (sym v.0.1 ∙ (ap (λ z. side z) (sym (same-first x a (spelling f ++ r)
    ((spelling g ++ b ∷ spelling k) ++ s) h)) ∙ u.0))
both (Pair a f b g) Empty r s u v d e h =
    no-open-ends a ((spelling f ++ b ∷ spelling g) ++ r) s u.0.0 u.0.1 e (sym h)
both (Pair a f b g) (Token y k) r s u v d e h =
    no-open-neither u.0.0 (sym u.0.1 ∙ (ap (λ z. side z) (same-first a y
    ((spelling f ++ b ∷ spelling g) ++ r) (spelling k ++ s) h) ∙ v.0))
both (Pair a f b g) (Pair x k y m) r s u v d e h =
    let first = same-first a x ((spelling f ++ b ∷ spelling g) ++ r)
    ((spelling k ++ y ∷ spelling m) ++ s) h in
    let rest = same-rest a x ((spelling f ++ b ∷ spelling g) ++ r)
    ((spelling k ++ y ∷ spelling m) ++ s) h in
    let inner = both f k (b ∷ (spelling g ++ r)) (y ∷ (spelling m ++ s)) u.1 v.1
    (u.0.0, u.0.2) (v.0.0, v.0.2)
    (sym (append_assoc (spelling f) (b ∷ spelling g) r) ∙ (rest
    ∙ append_assoc (spelling k) (y ∷ spelling m) s)) in
    let last = same-first b y (spelling g ++ r) (spelling m ++ s) inner.1 in
    let outer = both g m r s u.2 v.2 d e
    (same-rest b y (spelling g ++ r) (spelling m ++ s) inner.1) in
    (rw (first, inner.0, last, outer.0) refl, outer.1)

pub one-forest : (f g : Forest) → IsWell f → IsWell g → spelling f ≡ spelling g → f ≡ g
one-forest f g u v h =
    (both f g [] [] u v tt tt (append-nil (spelling f) ∙ (h ∙ sym (append-nil (spelling g))))).0

-- A front of a front is one.
front-front : (w u v : List Leaf) → w ≡ u ++ v → IsFront w → IsFront u
front-front w u v e f =
    (v ++ f.0, subst (λ t. IsForest t) (ap (λ t. t ++ f.0) e ∙ append_assoc u v f.0) f.1)

-- Tokens that break at a closing delimiter are no front of a forest.
unexpected-no-front : (w : List Leaf) (k : ℕ) → IsUnexpected w k → IsFront w → ⊥
unexpected-no-front w k u f = u.breaks (front-front w (u.before ++ u.closing ∷ []) u.after
    (u.joins ∙ sym (append_assoc u.before (u.closing ∷ []) u.after)) f)

forest-front : (w : List Leaf) → IsForest w → IsFront w
forest-front w f = ([], subst (λ t. IsForest t) (sym (append-nil w)) f)

-- After the last delimiter that is open there is a forest, and so they are no forest.
unclosed-no-forest : (w : List Leaf) (k : ℕ) → IsUnclosed w k → IsForest w → ⊥
unclosed-no-forest w k u f = none-some [] (sym (dead-inside u.before u.after u.opening u.delimiter
    (ap (λ t. scan (Some []) t) (sym u.joins) ∙ scan-forest w f) u.opens)
    ∙ scan-forest u.after u.is_forest)

one-unexpected : (w : List Leaf) (j k : ℕ) → IsUnexpected w j → IsUnexpected w k → j ≡ k
one-unexpected w j k u v =
    by_order (order u.before u.after u.closing v.before v.after v.closing (sym u.joins ∙ v.joins))
  where
    by_order : Order u.before u.after u.closing v.before v.after v.closing → j ≡ k
    by_order (Front r h m) = absurd (u.breaks (front-front v.before (u.before ++ u.closing ∷ []) r
        (h ∙ sym (append_assoc u.before (u.closing ∷ []) r)) v.is_front))
    by_order (Same f g h) = u.place ∙ (ap (λ t. length t) f ∙ sym v.place)
    by_order (After r h m) = absurd (v.breaks (front-front u.before (v.before ++ v.closing ∷ []) r
        (h ∙ sym (append_assoc v.before (v.closing ∷ []) r)) u.is_front))

no-inner : {B : Type 0} (g v : List Leaf) (a : Leaf) (d : Delimiter) → IsForest (g ++ a ∷ v)
    → side a ≡ Opens d → IsForest v → B
no-inner g v a d f o h = absurd (none-some [] (sym (dead-inside g v a d
    (scan-forest (g ++ a ∷ v) f) o) ∙ scan-forest v h))

one-unclosed : (w : List Leaf) (j k : ℕ) → IsUnclosed w j → IsUnclosed w k → j ≡ k
one-unclosed w j k u v =
    by_order (order u.before u.after u.opening v.before v.after v.opening (sym u.joins ∙ v.joins))
  where
    by_order : Order u.before u.after u.opening v.before v.after v.opening → j ≡ k
    by_order (Front r h m) = no-inner r v.after v.opening v.delimiter
        (subst (λ t. IsForest t) m u.is_forest) v.opens v.is_forest
    by_order (Same f g h) = u.place ∙ (ap (λ t. length t) f ∙ sym v.place)
    by_order (After r h m) = no-inner r u.after u.opening u.delimiter
        (subst (λ t. IsForest t) m v.is_forest) u.opens u.is_forest

pub one-break : (w : List Leaf) (a b : Option DelimiterBreak) → Breaks w a → Breaks w b → a ≡ b
one-break w None None f g = refl
one-break w None (Some (Unexpected k)) f g =
    absurd (unexpected-no-front w k g (forest-front w f))
one-break w None (Some (Unclosed k)) f g = absurd (unclosed-no-forest w k g f)
one-break w (Some (Unexpected j)) None f g =
    absurd (unexpected-no-front w j f (forest-front w g))
one-break w (Some (Unexpected j)) (Some (Unexpected k)) f g =
    ap (λ n. Some (Unexpected n)) (one-unexpected w j k f g)
one-break w (Some (Unexpected j)) (Some (Unclosed k)) f g =
    absurd (unexpected-no-front w j f g.is_front)
one-break w (Some (Unclosed j)) None f g = absurd (unclosed-no-forest w j f g)
one-break w (Some (Unclosed j)) (Some (Unexpected k)) f g =
    absurd (unexpected-no-front w k g f.is_front)
one-break w (Some (Unclosed j)) (Some (Unclosed k)) f g =
    ap (λ n. Some (Unclosed n)) (one-unclosed w j k f g)
