-- The lines of two texts beside each other.
use denote.Ref.{Bor}
use Rattle.std.specs.Prelude.{◌≡◌, ◌<◌, ◌-◌, ℕ, List, [], ◌∷◌, ◌++◌, map, get_or, length}
use Rattle.std.specs.List.{concat}
use Rattle.unified_diff.specs.declared.rows.Pair.{Pair}
use Rattle.unified_diff.specs.declared.rows.Row.{Row}
use Rattle.unified_diff.specs.declared.rows.Side.{Side}
use Rattle.unified_diff.specs.declared.rows.Side.TheVariants.{Both, Old, New}

-- The text that lines make, one after the other.
abbrev pub joined_text : List (Bor (List ℕ)) → List ℕ
joined_text ls = concat (map (λ l. l.now) ls)

-- Two texts have a line each with these numbers, which are from 1, and the lines are the same.
pub record IsCommon (old new : List (Bor (List ℕ))) (p : Pair) : Type 0 where
  pub line : Bor (List ℕ)
  pub other : Bor (List ℕ)
  pub old_from : 0 < p.old
  pub new_from : 0 < p.new
  pub old_within : p.old - 1 < length old
  pub new_within : p.new - 1 < length new
  pub in_old : line ≡ get_or old (p.old - 1) line
  pub in_new : other ≡ get_or new (p.new - 1) other
  pub same : line.now ≡ other.now

-- What a line on a side has of the old text, and what of the new one.
abbrev pub in_old : Side → List ℕ → List ℕ
in_old Both t = t
in_old Old t = t
in_old New t = []

abbrev pub in_new : Side → List ℕ → List ℕ
in_new Both t = t
in_new Old t = []
in_new New t = t

-- The old text: the lines of the rows that are not in the new one alone.
unfoldable pub old_text : List Row → List ℕ
old_text [] = []
old_text (r ∷ rs) = in_old r.side r.line.now ++ old_text rs

-- The new text: the lines of the rows that are not in the old one alone.
unfoldable pub new_text : List Row → List ℕ
new_text [] = []
new_text (r ∷ rs) = in_new r.side r.line.now ++ new_text rs
