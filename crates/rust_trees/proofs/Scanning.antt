-- Tokens are a forest exactly if they are read from no open delimiter to none.
use Rattle.std.proofs.Common.{◌≡◌, ◌++◌, Bool, true, false, List, [], ◌∷◌, Option, Some, None}
use Rattle.std.proofs.Common.{refl, ap, sym, ◌∙◌, subst}
use Rattle.std.specs.Prelude.{if◌then◌else◌}
use Rattle.std.proofs.lemmas.Bool.{false≢true}
use Rattle.std.proofs.lemmas.List.{append_assoc}
use Rattle.std.proofs.lemmas.Option.{none-some, same_Some}
use Rattle.rust_trees.specs.declared.sides.Delimiter.{Delimiter}
use Rattle.rust_trees.specs.declared.sides.Delimiter.TheVariants.{Parenthesis, Bracket, Brace}
use Rattle.rust_trees.specs.declared.sides.Side.{Side}
use Rattle.rust_trees.specs.declared.sides.Side.TheVariants.{Opens, Closes, Neither}
use Rattle.rust_trees.specs.Leaves.{Leaf, side}
use Rattle.rust_trees.specs.Sides.{is_same}
use Rattle.rust_trees.specs.Scans.{open_after, scan}
use Rattle.rust_trees.specs.Forests.{Forest, Empty, Token, Pair, spelling, IsWell, IsForest, Pairs}
use Rattle.rust_trees.proofs.Lists.{no-cons}

pub same-same : (d : Delimiter) → is_same d d ≡ true
same-same Parenthesis = refl
same-same Bracket = refl
same-same Brace = refl

pub from-same : (d e : Delimiter) → is_same d e ≡ true → d ≡ e
from-same Parenthesis Parenthesis h = refl
from-same Bracket Bracket h = refl
from-same Brace Brace h = refl
from-same Parenthesis Bracket h = absurd (false≢true h)
from-same Parenthesis Brace h = absurd (false≢true h)
from-same Bracket Parenthesis h = absurd (false≢true h)
from-same Bracket Brace h = absurd (false≢true h)
from-same Brace Parenthesis h = absurd (false≢true h)
from-same Brace Bracket h = absurd (false≢true h)

pub scan-append : (o : Option (List Delimiter)) (xs ys : List Leaf)
    → scan o (xs ++ ys) ≡ scan (scan o xs) ys
scan-append o [] ys = refl
scan-append o (x ∷ xs) ys = scan-append (open_after (side x) o) xs ys

pub scan-none : (xs : List Leaf) → scan None xs ≡ None
scan-none [] = refl
scan-none (x ∷ xs) = scan-none xs

-- Tokens that break stay broken.
pub stays-first_break : (o : Option (List Delimiter)) (xs ys : List Leaf) → scan o xs ≡ None
    → scan o (xs ++ ys) ≡ None
stays-first_break o xs ys h =
    scan-append o xs ys ∙ (ap (λ s. scan s ys) h ∙ scan-none ys)

-- A token that is read.
pub closes-top : (s : Side) (d : Delimiter) (ds : List Delimiter) → s ≡ Closes d
    → open_after s (Some (d ∷ ds)) ≡ Some ds
closes-top s d ds h =
    ap (λ t. open_after t (Some (d ∷ ds))) h
    ∙ ap (λ b. if b then Some ds else None) (same-same d)

-- Further delimiters that were open before stay below.
below-cond : (b : Bool) (ds es fs : List Delimiter) → (if b then Some ds else None) ≡ Some es
    → (if b then Some (ds ++ fs) else None) ≡ Some (es ++ fs)
below-cond true ds es fs h = ap (λ x. Some (x ++ fs)) (same_Some ds es h)
below-cond false ds es fs h = absurd (none-some es h)

below-token : (s : Side) (ds es fs : List Delimiter) → open_after s (Some ds) ≡ Some es
    → open_after s (Some (ds ++ fs)) ≡ Some (es ++ fs)
below-token Neither ds es fs h = ap (λ x. Some (x ++ fs)) (same_Some ds es h)
below-token (Opens d) ds es fs h = ap (λ x. Some (x ++ fs)) (same_Some (d ∷ ds) es h)
below-token (Closes d) [] es fs h = absurd (none-some es h)
below-token (Closes d) (e ∷ ds) es fs h = below-cond (is_same e d) ds es fs h

below-on : (x : Leaf) (xs : List Leaf) (ds es fs : List Delimiter)
    → ((gs : List Delimiter) → scan (Some gs) xs ≡ Some es
    → scan (Some (gs ++ fs)) xs ≡ Some (es ++ fs))
    → scan (Some ds) (x ∷ xs) ≡ Some es → scan (Some (ds ++ fs)) (x ∷ xs) ≡ Some (es ++ fs)
below-on x xs ds es fs more h = by_token (open_after (side x) (Some ds)) refl
  where
    by_token : (o : Option (List Delimiter)) → open_after (side x) (Some ds) ≡ o
        → scan (open_after (side x) (Some (ds ++ fs))) xs ≡ Some (es ++ fs)
    by_token None e =
        absurd (none-some es (sym (scan-none xs) ∙ (ap (λ o. scan o xs) (sym e) ∙ h)))
    by_token (Some gs) e =
        ap (λ o. scan o xs) (below-token (side x) ds gs fs e)
        ∙ more gs (ap (λ o. scan o xs) (sym e) ∙ h)

pub below : (xs : List Leaf) (ds es fs : List Delimiter) → scan (Some ds) xs ≡ Some es
    → scan (Some (ds ++ fs)) xs ≡ Some (es ++ fs)
below [] ds es fs h = ap (λ x. Some (x ++ fs)) (same_Some ds es h)
below (x ∷ xs) ds es fs h = below-on x xs ds es fs (λ gs g. below xs gs es fs g) h

-- A forest leaves open what was open.
pub over-forest : (f : Forest) → IsWell f → (ds : List Delimiter)
    → scan (Some ds) (spelling f) ≡ Some ds
over-forest Empty w ds = refl
over-forest (Token x f) w ds =
    ap (λ s. scan (open_after s (Some ds)) (spelling f)) w.0 ∙ over-forest f w.1 ds
over-forest (Pair a f b g) w ds =
    let p = w.0 in
    ap (λ s. scan (open_after s (Some ds)) (spelling f ++ b ∷ spelling g)) p.1
    ∙ (scan-append (Some (p.0 ∷ ds)) (spelling f) (b ∷ spelling g)
    ∙ (ap (λ o. scan o (b ∷ spelling g)) (over-forest f w.1 (p.0 ∷ ds))
    ∙ (ap (λ o. scan o (spelling g)) (closes-top (side b) p.0 ds p.2) ∙ over-forest g w.2 ds)))

pub scan-forest : (xs : List Leaf) → IsForest xs → scan (Some []) xs ≡ Some []
scan-forest xs f = subst (λ ys. scan (Some []) ys ≡ Some []) f.spells
    (over-forest f.forest f.is_well [])

-- A forest, and then for each delimiter the one that closes it and a forest.
abbrev Closing : List Delimiter → List Leaf → Type 0
Closing [] xs = IsForest xs
Closing (d ∷ ds) xs = (f : Forest) × (b : Leaf) × (ys : List Leaf) × IsWell f
    × (side b ≡ Closes d) × (spelling f ++ b ∷ ys ≡ xs) × Closing ds ys

with-token : (x : Leaf) (ds : List Delimiter) (xs : List Leaf) → side x ≡ Neither → Closing ds xs
    → Closing ds (x ∷ xs)
with-token x [] xs h c =
    let spells = ap (λ t. x ∷ t) c.spells in
    record { forest = Token x c.forest; is_well = (h, c.is_well); spells = spells }
with-token x (d ∷ ds) xs h c =
    (Token x c.0, c.1, c.2, (h, c.3), c.4, ap (λ t. x ∷ t) c.5, c.6)

with-pair : (a b : Leaf) (f : Forest) (ds : List Delimiter) (ys xs : List Leaf) → Pairs a b
    → IsWell f → spelling f ++ b ∷ ys ≡ xs → Closing ds ys → Closing ds (a ∷ xs)
with-pair a b f [] ys xs p w e c = record {
  forest = Pair a f b c.forest;
  is_well = (p, w, c.is_well);
  spells = ap (λ t. a ∷ t) (ap (λ t. spelling f ++ b ∷ t) c.spells ∙ e);
}
with-pair a b f (d ∷ ds) ys xs p w e c = (
  Pair a f b c.0,
  c.1,
  c.2,
  (p, w, c.3),
  c.4,
  ap (λ t. a ∷ t) (append_assoc (spelling f) (b ∷ spelling c.0) (c.1 ∷ c.2)
      ∙ (ap (λ t. spelling f ++ b ∷ t) c.5 ∙ e)),
  c.6,
)

closing-on : (x : Leaf) (ds : List Delimiter) (xs : List Leaf)
    → ((es : List Delimiter) → scan (Some es) xs ≡ Some [] → Closing es xs)
    → scan (Some ds) (x ∷ xs) ≡ Some [] → Closing ds (x ∷ xs)
closing-on x ds xs more h = by_side (side x) refl
  where
    next : (o : Option (List Delimiter)) → open_after (side x) (Some ds) ≡ o
        → scan o xs ≡ Some []
    next o e = ap (λ s. scan s xs) (sym e) ∙ h

    by_open : (d : Delimiter) → side x ≡ Opens d → Closing (d ∷ ds) xs → Closing ds (x ∷ xs)
    by_open d e c = with-pair x c.1 c.0 ds c.2 xs (d, e, c.4) c.3 c.5 c.6

    first_break : open_after (side x) (Some ds) ≡ None → Closing ds (x ∷ xs)
    first_break e = absurd (none-some [] (sym (scan-none xs) ∙ next None e))

    by_test : (c d : Delimiter) (es : List Delimiter) → ds ≡ c ∷ es → side x ≡ Closes d
        → (b : Bool) → is_same c d ≡ b → Closing ds (x ∷ xs)
    by_test c d es e f false g = first_break (ap (λ s. open_after s (Some ds)) f
        ∙ (ap (λ t. open_after (Closes d) (Some t)) e
        ∙ ap (λ t. if t then Some es else None) g))
    by_test c d es e f true g = subst (λ t. Closing t (x ∷ xs)) (sym e) (
      Empty,
      x,
      xs,
      tt,
      f ∙ ap (λ t. Closes t) (sym (from-same c d g)),
      refl,
      more es (next (Some es) (ap (λ s. open_after s (Some ds)) f
          ∙ (ap (λ t. open_after (Closes d) (Some t)) e
          ∙ ap (λ t. if t then Some es else None) g))),
    )

    by_close : (es : List Delimiter) (d : Delimiter) → ds ≡ es → side x ≡ Closes d
        → Closing ds (x ∷ xs)
    by_close [] d e f = first_break (ap (λ s. open_after s (Some ds)) f
        ∙ ap (λ t. open_after (Closes d) (Some t)) e)
    by_close (c ∷ es) d e f = by_test c d es e f (is_same c d) refl

    by_side : (s : Side) → side x ≡ s → Closing ds (x ∷ xs)
    by_side Neither e =
        with-token x ds xs e (more ds (next (Some ds) (ap (λ s. open_after s (Some ds)) e)))
    by_side (Opens d) e =
        by_open d e (more (d ∷ ds) (next (Some (d ∷ ds)) (ap (λ s. open_after s (Some ds)) e)))
    by_side (Closes d) e = by_close ds d refl e

closing : (ds : List Delimiter) (xs : List Leaf) → scan (Some ds) xs ≡ Some [] → Closing ds xs
closing [] [] h = record { forest = Empty; is_well = tt; spells = refl }
closing (d ∷ ds) [] h = no-cons d ds (sym (same_Some (d ∷ ds) [] h))
closing ds (x ∷ xs) h = closing-on x ds xs (λ es g. closing es xs g) h

pub forest-scan : (xs : List Leaf) → scan (Some []) xs ≡ Some [] → IsForest xs
forest-scan xs h = closing [] xs h
