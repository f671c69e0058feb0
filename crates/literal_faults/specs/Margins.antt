-- The margins that may be around the literal in a file: the byte order mark of UTF-8 at its start,
-- and ASCII white space (`char::is_ascii_whitespace`) before and after the literal.
use Rattle.std.specs.Prelude.{◌≡◌, ◌+◌, ◌-◌, ◌≤◌, ◌++◌, ◌⊎◌, ℕ, List, [], ◌∷◌, length, Option}
use Rattle.std.specs.Prelude.{Some, None}
use Rattle.std.specs.Str.{IsTrimAsciiEnd, IsTrimAsciiStart}
use Rattle.rustc_parse_format.specs.Characters.{Text}
use Rattle.literal_faults.specs.declared.fault.LiteralFault.{LiteralFault}
use Rattle.literal_faults.specs.Faults.{IsAnyLiteral, IsFault}

-- The byte order mark of UTF-8.
abbrev pub mark : List ℕ
mark = 0xEF ∷ 0xBB ∷ 0xBF ∷ []

-- The bytes s are the file without the mark at its start, if it has one.
abbrev pub IsUnmarked : List ℕ → List ℕ → Type 0
IsUnmarked file s = (file ≡ mark ++ s) ⊎ ((file ≡ s) × ((r : List ℕ) → file ≡ mark ++ r → ⊥))

-- The source is the file without its mark, and the text is that without the white space at its
-- start and its end. The text starts at this byte offset of the source.
pub record IsSnippet (file source text : List ℕ) (start : ℕ) : Type 0 where
  pub rest : List ℕ
  pub is_source : IsUnmarked file source
  pub is_rest : IsTrimAsciiStart source rest
  pub is_text : IsTrimAsciiEnd rest text
  pub is_start : start + length rest ≡ length source

-- The text, which starts at this byte offset of a file, is a string literal and no fault is found,
-- or it is none because of this fault.
abbrev pub IsFaultIn : Text → ℕ → Option LiteralFault → Type 0
IsFaultIn text start None = IsAnyLiteral text
IsFaultIn text start (Some f) = (IsAnyLiteral text → ⊥) × (start ≤ f.offset)
    × IsFault text (record { kind = f.kind; offset = f.offset - start })
