-- String literals, computed as the functions read them: the text that a content stands for, and the
-- rest after a prefix. Private definitions.
use Rattle.std.specs.Prelude.{◌≡◌, ◌≤◌, length, ℕ, Bool, ◌==◌, if◌then◌else◌, List, [], ◌∷◌}
use Rattle.std.specs.Prelude.{map, Option, Some, None, option_map, bytes_eq, not, ◌+◌, ◌++◌, false}
use Rattle.std.specs.Prelude.{IsTrue}
use Rattle.std.specs.List.{list_all}
use Rattle.rustc_parse_format.specs.declared.literal.ContentCharacter.{ContentCharacter}
use Rattle.rustc_parse_format.specs.Characters.{Text, byte_length}
use Rattle.rustc_parse_format.specs.World.{literal_end, Place, content_places, last_stop, input_end}
use Rattle.rustc_parse_format.specs.World.{foreign_end}
use Rattle.rustc_parse_format.specs.LiteralUnits.{LiteralUnit, is_plain}
use Rattle.rustc_parse_format.specs.Literal.{units, content_value, placed_characters, IsSource}
use Rattle.rustc_parse_format.specs.Source.{HasSource}
use Rattle.rustc_parse_format.specs.Views.{pair}

-- Characters with their places, as a contract sees them.
abbrev pub seen_characters : List ContentCharacter → List (Place × ℕ)
seen_characters cs = map (λ (c : ContentCharacter). (pair c.span, c.character)) cs

-- The characters that a content stands for, each with its place. The content starts at the byte
-- `at`. None if the text is not a content.
unfoldable pub content_characters : ℕ → Text → Option (List (Place × ℕ))
content_characters at t = option_map (placed_characters at) (units t)

-- The rest of a text after the prefix p. None if it does not begin with p.
abbrev pub strip_prefix : Text → Text → Option Text
strip_prefix [] t = Some t
strip_prefix (c ∷ p) [] = None
strip_prefix (c ∷ p) (d ∷ t) = if d == c then strip_prefix p t else None

-- The function took the prefix p from the text t if the flag is true, and then r is left. If it is
-- false, t does not begin with p.
abbrev pub IsTaken : Text → Text → Bool → Text → Type 0
IsTaken p t b r = strip_prefix p t ≡ (if b then Some r else None)

-- The texts t and w begin with the same plain characters, and r and v are left after them.
pub record SharePlain (t w r v : Text) : Type 0 where
  pub front : Text
  pub text : t ≡ front ++ r
  pub other : w ≡ front ++ v
  pub plain : IsTrue (list_all is_plain front)

-- The byte offset where the text t ends, if there are units and they stand for t. The first unit
-- starts at the byte `at`, and e is the end if there is no character. None otherwise.
abbrev pub end_of : ℕ → ℕ → Option (List LiteralUnit) → Text → Option ℕ
end_of at e None t = None
end_of at e (Some us) t = if bytes_eq t (content_value us)
    then Some (last_stop e (content_places at us)) else None

-- The byte offset where the text t ends, if the content stands for t. None otherwise.
unfoldable pub spelled_end : ℕ → ℕ → Text → Text → Option ℕ
spelled_end at e content t = end_of at e (units content) t

-- Reading the content t for the text w finds the same end as reading on from r, a suffix of t that
-- is no longer, for the text v.
pub record SameEnds (t w r v : Text) : Type 0 where
  pub narrower : byte_length r ≤ byte_length t
  pub shorter : length r ≤ length t
  pub ends : (at f : ℕ) → at + byte_length t ≡ f + byte_length r
      → spelled_end at at t w ≡ spelled_end f f r v

-- The snippet is the source literal of the input, and its text ends at the byte e.
abbrev pub IsSourceTo : Text → Option ℕ → Text → Bool → ℕ → Type 0
IsSourceTo input style snippet appended e = IsSource input style snippet appended
    × (e ≡ literal_end style snippet)

-- The result of a search for the source literal of an input: the byte where its text ends, or None
-- if there is no snippet or it is not the source literal.
abbrev pub IsFound : Text → Option ℕ → Option Text → Bool → Option ℕ → Type 0
IsFound input style snippet appended None = HasSource input style snippet appended → ⊥
IsFound input style None appended (Some e) = ⊥
IsFound input style (Some snippet) appended (Some e) = IsSourceTo input style snippet appended e

-- An ordinary snippet is not as long as its text in two quotes, without an appended newline. Then
-- its places are not those of a plain text.
abbrev pub is_longer : Text → Option ℕ → Option Text → Bool → Bool
is_longer input (Some n) snippet appended = false
is_longer input None None appended = false
is_longer input None (Some snippet) appended =
    not (byte_length snippet == byte_length input + (if appended then 1 else 2))

-- The byte where the text of an input without a source literal ends.
abbrev pub plain_end : Text → Option Text → Bool → ℕ
plain_end input None appended = input_end input appended
plain_end input (Some snippet) appended = foreign_end snippet
