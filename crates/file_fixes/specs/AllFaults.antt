-- The faults that a round mends: those of a report, of which there is one in each faulty format
-- string, and others of the same strings.
use Rattle.std.specs.Prelude.{◌≡◌, ◌⊎◌, ◌+◌, ◌<◌, ◌≤◌, ◌^◌, ◌++◌, ℕ}
use Rattle.std.specs.Prelude.{List, [], ◌∷◌, Contains, chars, codes, drop, false, if◌then◌else◌}
use Rattle.std.specs.Prelude.{length, string_bytes, take}
use Rattle.std.specs.List.{All}
use Rattle.std.specs.Str.{bytes_eq}
use Rattle.rustc_parse_format.specs.Types.{Format}
use Rattle.fault_fixes.specs.Edits.{Edit}
use Rattle.fault_fixes.specs.Fixing.{literal_edits}
use Rattle.asm_lint.specs.Literals.{AreBefore, IsRead, dropped_crs}
use Rattle.asm_lint.specs.declared.literals.Literal.{Literal}
use Rattle.source_report.specs.declared.report.Finding.{Finding}
use Rattle.source_report.specs.Suggestions.{edits_of}
use Rattle.file_fixes.specs.declared.all_faults.FormatString.{FormatString}

-- The id of the fault that has an edit with this text in its format string: the `r#` is removed, a
-- colon is put in, or a flag is moved in front of its `?`.
abbrev pub edit_id : List ℕ → List ℕ
edit_id t = if bytes_eq t [] then codes "raw-identifier"
    else if bytes_eq t (codes ":") then codes "missing-colon"
    else codes "flag-after-type"

-- The byte offset p of a file is the byte offset o of the literal that the token with the bytes w
-- is with lines that end with LF. The token starts at the offset `at`. It has so many CRs more.
abbrev pub IsOffset : List ℕ → ℕ → ℕ → ℕ → Type 0
IsOffset w at o p = (n : ℕ) × AreBefore (dropped_crs 0 (chars w)) o n
    × (o + n < 2 ^ 64 → p ≡ at + (o + n))

-- The edit f of a file is the edit e of such a literal.
pub record IsMoved (w : List ℕ) (at : ℕ) (e f : Edit) : Type 0 where
  pub start : IsOffset w at e.span.0 f.span.0
  pub end : IsOffset w at e.span.1 f.span.1
  pub text : f.text ≡ e.text

-- The fault y has the edit e in such a literal and no other, or none, and the id that goes with e.
pub record HasEdit (w : List ℕ) (at : ℕ) (e : Edit) (y : Finding) : Type 0 where
  pub id : y.id.now ≡ edit_id e.text
  pub edits : (edits_of y ≡ []) ⊎ ((f : Edit) × (edits_of y ≡ f ∷ []) × IsMoved w at e f)

-- It has one of these edits.
abbrev pub HasOneOf : List ℕ → ℕ → List Edit → Finding → Type 0
HasOneOf w at es y = (e : Edit) × Contains es e × HasEdit w at e y

-- The fault x has one edit, and that is in the token w at the offset `at` of a file with the bytes
-- bs.
pub record IsInside (bs w : List ℕ) (at : ℕ) (x : Finding) : Type 0 where
  pub is_there : take (length w) (drop at bs) ≡ w
  pub own : Edit
  pub is_own : edits_of x ≡ own ∷ []
  pub start : at ≤ own.span.0
  pub end : own.span.1 ≤ at + length w

-- The edits that the errors of a format string suggest, which is this literal.
abbrev pub offered_edits : Literal → List Edit
offered_edits l = literal_edits Format (chars (string_bytes l.text)) l.style
    (chars (string_bytes l.snippet)) false

-- The fault y is another one of the format string in which the edit of the fault x is: it has one
-- of the edits that the errors of this literal suggest.
pub record IsOther (bs : List ℕ) (x y : Finding) : Type 0 where
  pub token : List ℕ
  pub at : ℕ
  pub inside : IsInside bs token at x
  pub literal : Literal
  pub is_read : IsRead (chars token) false literal
  pub edit : HasOneOf token at (offered_edits literal) y

-- The fault y is x in what a round needs of it.
pub record IsCopy (x y : Finding) : Type 0 where
  pub id : y.id.now ≡ x.id.now
  pub title : string_bytes y.title ≡ string_bytes x.title
  pub edits : (edits_of y ≡ edits_of x) ⊎ (edits_of y ≡ [])

-- Of these faults one is x, and all in front of it and behind it are others of its format string.
abbrev pub AreOfString : List ℕ → Finding → List Finding → Type 0
AreOfString bs x zs = (front : List Finding) × (y : Finding) × (back : List Finding)
    × (zs ≡ front ++ y ∷ back) × IsCopy x y × All (IsOther bs x) front × All (IsOther bs x) back

-- The faults ys are the faults xs, one after the other, each with others of its format string or
-- none.
abbrev pub HasFaults : List ℕ → List Finding → List Finding → Type 0
HasFaults bs [] ys = ys ≡ []
HasFaults bs (x ∷ xs) ys = (zs us : List Finding) × (ys ≡ zs ++ us) × AreOfString bs x zs
    × HasFaults bs xs us

-- A format string of a file with the bytes bs.
pub record IsString (bs : List ℕ) (s : FormatString) : Type 0 where
  pub is_there : take (length s.token.now) (drop s.start bs) ≡ s.token.now
  pub crs : s.crs.items ≡ dropped_crs 0 (chars s.token.now)
  pub is_read : IsRead (chars s.token.now) false s.literal
