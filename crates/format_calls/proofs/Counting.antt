-- Trees that are passed one after the other.
use Rattle.std.proofs.Common.{◌≡◌, ◌≤◌, ◌++◌, ◌⊎◌, ℕ, Bool, true, false, List, [], ◌∷◌, refl}
use Rattle.std.proofs.Common.{ap, sym, subst, ◌∙◌}
use Rattle.std.specs.Prelude.{◌||◌, IsTrue, not}
use Rattle.std.specs.List.{list_any}
use Rattle.rust_trees.specs.Leaves.{Leaf}
use Rattle.format_calls.specs.Arguments.{IsTree}
use Rattle.format_calls.specs.Extents.{AreTrees, AreUpTo, is_stop, is_uncounted}

pub or-join : (a b c : Bool) → (a || (b || c)) ≡ ((a || b) || c)
or-join true b c = refl
or-join false b c = refl

pub or-nothing : (a : Bool) → (a || false) ≡ a
or-nothing true = refl
or-nothing false = refl

trees-push : (xs : List Leaf) (from i j : ℕ) (ts : List ℕ) → AreTrees xs from ts i → IsTree xs i j
    → AreTrees xs from (ts ++ i ∷ []) j
trees-push xs from i j [] t r = (sym t, j, subst (λ v. IsTree xs v j) (sym t) r, refl)
trees-push xs from i j (k ∷ ts) t r = (t.0, t.1, t.2, trees-push xs t.1 i j ts t.3 r)

any-push : (f : ℕ → Bool) (ts : List ℕ) (i : ℕ)
    → list_any f (ts ++ i ∷ []) ≡ (list_any f ts || f i)
any-push f [] i = or-nothing (f i)
any-push f (k ∷ ts) i = ap (λ b. f k || b) (any-push f ts i) ∙ or-join (f k) (list_any f ts) (f i)

-- The trees that were passed, none of which is `;` where one ends the arguments, and whether one of
-- them says that the number of arguments is not known.
pub record Passed (b : Bool) (xs : List Leaf) (from at : ℕ) (found : Bool) : Type 0 where
  pub trees : List ℕ
  pub are_trees : AreTrees xs from trees at
  pub go_on : list_any (is_stop b xs) trees ≡ false
  pub report : list_any (is_uncounted xs) trees ≡ found

pub passed-more : (b : Bool) (xs : List Leaf) (from i j : ℕ) (found : Bool)
    → Passed b xs from i found → IsTree xs i j → is_stop b xs i ≡ false
    → Passed b xs from j (found || is_uncounted xs i)
passed-more b xs from i j found p t e = record {
  trees = p.trees ++ i ∷ [];
  are_trees = trees-push xs from i j p.trees p.are_trees t;
  go_on = any-push (is_stop b xs) p.trees i ∙ (ap (λ v. v || is_stop b xs i) p.go_on ∙ e);
  report = any-push (is_uncounted xs) p.trees i ∙ ap (λ v. v || is_uncounted xs i) p.report;
}

pub passed-all : (b : Bool) (xs : List Leaf) (from end close : ℕ) (found : Bool)
    → end ≤ close → (end ≡ close) ⊎ IsTrue (is_stop b xs end) → Passed b xs from end found
    → (ts : List ℕ) × AreUpTo b xs from ts end close
    × (not found ≡ not (list_any (is_uncounted xs) ts))
passed-all b xs from end close found w e p = (
  p.trees,
  record { are_trees = p.are_trees; go_on = p.go_on; within = w; ends = e },
  ap not (sym p.report),
)
