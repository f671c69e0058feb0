-- A unified diff, as POSIX describes the output of `diff -u`.
use Rattle.std.specs.Prelude.{◌≡◌, ◌+◌, ℕ, List, [], ◌∷◌, ◌++◌, codes, decimal}
use Rattle.std.specs.Prelude.{Bool, true, false, ◌&&◌, if◌then◌else◌, nat_eq}
use Rattle.std.specs.List.{ends_with}
use Rattle.unified_diff.specs.Rows.{new_text, old_text}
use Rattle.unified_diff.specs.declared.rows.Row.{Row}
use Rattle.unified_diff.specs.declared.rows.Side.{Side}
use Rattle.unified_diff.specs.declared.rows.Side.TheVariants.{Both, Old, New}

-- Whether a line is in the old text, and in the new one, as 1 or 0.
abbrev pub one_in_old : Side → ℕ
one_in_old Both = 1
one_in_old Old = 1
one_in_old New = 0

abbrev pub one_in_new : Side → ℕ
one_in_new Both = 1
one_in_new Old = 0
one_in_new New = 1

-- The numbers of lines of the old text, and of the new one.
unfoldable pub old_count : List Row → ℕ
old_count [] = 0
old_count (r ∷ rs) = one_in_old r.side + old_count rs

unfoldable pub new_count : List Row → ℕ
new_count [] = 0
new_count (r ∷ rs) = one_in_new r.side + new_count rs

-- The first byte of a line of the diff.
abbrev pub sign : Side → List ℕ
sign Both = codes " "
sign Old = codes "-"
sign New = codes "+"

-- The end of a line: a line that has no LF gets one, and a line after it says so.
abbrev pub line_end : List ℕ → List ℕ
line_end t = if ends_with nat_eq t (codes "\n") then []
    else codes "\n\\ No newline at end of file\n"

-- A line of the diff.
abbrev pub row_text : Row → List ℕ
row_text r = sign r.side ++ r.line.now ++ line_end r.line.now

-- The lines of a hunk.
unfoldable pub rows_text : List Row → List ℕ
rows_text [] = []
rows_text (r ∷ rs) = row_text r ++ rows_text rs

-- Where n lines of a text are, after which lines: the number of the first one from 1, or without a
-- line that of the line before.
abbrev pub extent : ℕ → ℕ → List ℕ
extent before n = decimal (if nat_eq n 0 then before else before + 1) ++ codes "," ++ decimal n

-- A hunk, before which there are lines of the old and of the new text.
abbrev pub hunk_text : ℕ → ℕ → List Row → List ℕ
hunk_text old new rs = codes "@@ -" ++ extent old (old_count rs) ++ codes " +"
    ++ extent new (new_count rs) ++ codes " @@\n" ++ rows_text rs

-- Rows that are left out, and a hunk after them.
pub record Part : Type 0 where
  pub left_out : List Row
  pub hunk : List Row

-- The rows of parts.
unfoldable pub rows_of : List Part → List Row
rows_of [] = []
rows_of (p ∷ ps) = p.left_out ++ p.hunk ++ rows_of ps

-- All these lines are in both texts.
abbrev pub is_shared : Side → Bool
is_shared Both = true
is_shared Old = false
is_shared New = false

unfoldable pub are_shared : List Row → Bool
are_shared [] = true
are_shared (r ∷ rs) = is_shared r.side && are_shared rs

-- All lines that the parts leave out are in both texts.
unfoldable pub leave_out_shared : List Part → Bool
leave_out_shared [] = true
leave_out_shared (p ∷ ps) = are_shared p.left_out && leave_out_shared ps

-- The hunks of parts, before which there are lines of the old and of the new text.
unfoldable pub hunks_text : ℕ → ℕ → List Part → List ℕ
hunks_text old new [] = []
hunks_text old new (p ∷ ps) =
    hunk_text (old + old_count p.left_out) (new + new_count p.left_out) p.hunk
    ++ hunks_text (old + old_count (p.left_out ++ p.hunk))
    (new + new_count (p.left_out ++ p.hunk)) ps

-- The bytes t are hunks of these rows: each row that is in none of them is in both texts.
pub record AreHunks (rs : List Row) (t : List ℕ) : Type 0 where
  pub parts : List Part
  pub rest : List Row
  pub shared : leave_out_shared parts ≡ true
  pub rest_shared : are_shared rest ≡ true
  pub rows : rows_of parts ++ rest ≡ rs
  pub text : t ≡ hunks_text 0 0 parts

-- The bytes t are hunks of a diff of an old and a new text: the rows make both.
pub record IsDiff (old new t : List ℕ) : Type 0 where
  pub rows : List Row
  pub old_text : old_text rows ≡ old
  pub new_text : new_text rows ≡ new
  pub hunks : AreHunks rows t

-- The first two lines of a diff, where the path of the file is written as these bytes.
abbrev pub head : List ℕ → List ℕ
head path = codes "--- " ++ path ++ codes "\n+++ " ++ path ++ codes "\n"

-- The bytes t are a unified diff of two texts that are not the same.
pub record IsWholeDiff (old new t : List ℕ) : Type 0 where
  pub path : List ℕ
  pub hunks : List ℕ
  pub is_diff : IsDiff old new hunks
  pub text : t ≡ head path ++ hunks
