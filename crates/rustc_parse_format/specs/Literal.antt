-- String literals as they are written in a program: the content of an ordinary literal, the
-- characters that it stands for and their places, raw literals, and which snippet is the source
-- literal of an input. The public rules are in the Rust Reference, string literals and raw string
-- literals. These definitions differ in one way: the text of a raw literal may hold anything, its
-- own closing sequence and a CR too. In an ordinary content a CR is only in continuations.
use Prim.Native.Char.{code}
use Rattle.std.specs.Prelude.{◌≡◌, ℕ, suc, zero, ◌+◌, ◌++◌, Bool, if◌then◌else◌, List, [], ◌∷◌}
use Rattle.std.specs.Prelude.{length, map, Option, Some, None, IsTrue, replicate, flat_map}
use Rattle.std.specs.Prelude.{codes}
use Rattle.rustc_parse_format.specs.Characters.{Text, byte_length}
use Rattle.rustc_parse_format.specs.LiteralUnits.{LiteralUnit, spelling, value, is_unit}
use Rattle.rustc_parse_format.specs.LiteralUnits.{may_precede, unit_at}

-- The text t is a content, and these are its units, one after the other.
abbrev pub IsContent : Text → List LiteralUnit → Type 0
IsContent t [] = t ≡ []
IsContent t (u ∷ us) = (r : Text) × IsTrue (is_unit u) × IsTrue (may_precede u r)
    × (t ≡ spelling u ++ r) × IsContent r us

-- The units of a content, computed: the unit u before the others.
abbrev pub more_units : LiteralUnit → Option (List LiteralUnit) → Option (List LiteralUnit)
more_units u None = None
more_units u (Some us) = Some (u ∷ us)

-- The unit at the start, and the units of the rest after it.
abbrev pub first_and_rest : (Text → Option (List LiteralUnit)) → Option (LiteralUnit × Text)
    → Option (List LiteralUnit)
first_and_rest rest None = None
first_and_rest rest (Some x) = more_units x.0 (rest x.1)

-- The units of a content with at most n of them. None if the text is not such a content.
abbrev pub units_within : ℕ → Text → Option (List LiteralUnit)
units_within n [] = Some []
units_within zero (c ∷ t) = None
units_within (suc n) (c ∷ t) = first_and_rest (λ r. units_within n r) (unit_at (c ∷ t))

-- The units of a content. None if the text is not a content.
unfoldable pub units : Text → Option (List LiteralUnit)
units t = units_within (length t) t

-- The text that a content stands for.
abbrev pub content_value : List LiteralUnit → Text
content_value us = flat_map value us

-- The characters that a content stands for, each with its place: the bytes of its unit. The content
-- starts at the byte `at`.
abbrev pub placed_characters : ℕ → List LiteralUnit → List ((ℕ × ℕ) × ℕ)
placed_characters at [] = []
placed_characters at (u ∷ us) = map (λ c. ((at, at + byte_length (spelling u)), c)) (value u)
    ++ placed_characters (at + byte_length (spelling u)) us

-- The text t is a content of these units and of no others.
pub record IsOnlyContent (t : Text) (us : List LiteralUnit) : Type 0 where
  pub is_content : IsContent t us
  pub is_only : (vs : List LiteralUnit) → IsContent t vs → vs ≡ us

-- The text t is a content in exactly one way, and these are its characters with their places.
abbrev pub IsReadAs : Text → List ((ℕ × ℕ) × ℕ) → Type 0
IsReadAs t ps = (us : List LiteralUnit) × IsOnlyContent t us × (ps ≡ placed_characters 0 us)

-- The text t is not the content of an ordinary literal.
abbrev pub IsNoContent : Text → Type 0
IsNoContent t = (us : List LiteralUnit) → IsContent t us → ⊥

-- An ordinary literal with this content: the content between two quotes.
abbrev pub ordinary_frame : Text → Text
ordinary_frame content = codes "\"" ++ content ++ codes "\""

-- The opening of a raw literal with n hashes: `r`, the hashes and a quote.
abbrev pub raw_opening : ℕ → Text
raw_opening n = codes "r" ++ replicate n (code "#") ++ codes "\""

-- The closing of a raw literal with n hashes: a quote and the hashes.
abbrev pub raw_closing : ℕ → Text
raw_closing n = codes "\"" ++ replicate n (code "#")

-- A raw literal with n hashes on each side and this text.
abbrev pub raw_frame : ℕ → Text → Text
raw_frame n t = raw_opening n ++ t ++ raw_closing n

-- The text that a macro such as `println!` appends to the input: a newline, or nothing.
abbrev pub newline : Bool → Text
newline appended = if appended then codes "\n" else []

-- The snippet is an ordinary literal that stands for the text t.
abbrev pub IsOrdinaryLiteral : Text → Text → Type 0
IsOrdinaryLiteral snippet t =
    (content : Text) × (us : List LiteralUnit) × (snippet ≡ ordinary_frame content)
    × IsContent content us × (content_value us ≡ t)

-- The snippet is a literal of this style that stands for the text t. The style is the number of
-- hashes of a raw literal, or None for an ordinary one.
abbrev pub IsLiteral : Option ℕ → Text → Text → Type 0
IsLiteral None snippet t = IsOrdinaryLiteral snippet t
IsLiteral (Some n) snippet t = snippet ≡ raw_frame n t

-- The snippet is the source literal of the input: it stands for the input without an appended
-- newline.
abbrev pub IsSource : Text → Option ℕ → Text → Bool → Type 0
IsSource input style snippet appended = (t : Text) × IsLiteral style snippet t
    × (t ++ newline appended ≡ input)
