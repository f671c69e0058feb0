-- String literals as rustc reads them: with lines that end with LF.
use Rattle.std.specs.Prelude.{◌≡◌, ◌++◌, ◌==◌, ◌&&◌, ◌||◌, ◌+◌, ◌<◌, ◌≤◌, ℕ, suc, Bool, List, []}
use Rattle.std.specs.Prelude.{◌∷◌, chars, codes, length, slice_index, string_bytes}
use Rattle.std.specs.Prelude.{if◌then◌else◌}
use Rattle.std.specs.Char.{len_utf8}
use Rattle.std.specs.Str.{bytes_eq}
use Rattle.rustc_parse_format.specs.Characters.{Text}
use Rattle.rustc_parse_format.specs.Literal.{IsLiteral, newline}
use Rattle.rust_tokens.specs.Runs.{first_passes}
use Rattle.rust_trees.specs.Places.{is_lf}
use Rattle.asm_lint.specs.declared.literals.Literal.{Literal}

-- A text without the CR before each LF.
abbrev pub without_crs : Text → Text
without_crs [] = []
without_crs (c ∷ t) = if c == 13 && first_passes is_lf t then without_crs t else c ∷ without_crs t

-- The CRs of a text that stand before an LF, each as the byte offset of that LF in the text without
-- these CRs. The text stands there at the byte offset `at`.
abbrev pub dropped_crs : ℕ → Text → List ℕ
dropped_crs at [] = []
dropped_crs at (c ∷ t) = if c == 13 && first_passes is_lf t then at ∷ dropped_crs at t
    else dropped_crs (at + len_utf8 c) t

-- Of ascending offsets the first n are those before this one.
pub record AreBefore (offsets : List ℕ) (offset n : ℕ) : Type 0 where
  pub few : n ≤ length offsets
  pub last : (k : ℕ) → suc k ≡ n → slice_index offsets k < offset
  pub next : n < length offsets → offset ≤ slice_index offsets n

-- A macro of this name appends a newline to its format string.
abbrev pub appends_newline : List ℕ → Bool
appends_newline w = bytes_eq w (codes "println") || (bytes_eq w (codes "eprintln")
    || bytes_eq w (codes "writeln"))

-- A literal that was read from a token: its lines end with LF, and a newline may be appended to the
-- text that it stands for.
pub record IsRead (token : Text) (appended : Bool) (l : Literal) : Type 0 where
  pub snippet : chars (string_bytes l.snippet) ≡ without_crs token
  pub stands_for : Text
  pub is_literal : IsLiteral l.style (without_crs token) stands_for
  pub text : chars (string_bytes l.text) ≡ stands_for ++ newline appended
