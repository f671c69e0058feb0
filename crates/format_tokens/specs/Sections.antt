-- The faults of a text beside its tokens, section by section. A section goes from an opening brace
-- that stands alone up to the next one; the first section goes from the start up to the first such
-- brace. The law on marks is about these.
use Prim.Native.Char.{code}
use Rattle.std.specs.Prelude.{ℕ, suc, zero, ◌++◌, ◌&&◌, not, Bool, true, false, if◌then◌else◌, List}
use Rattle.std.specs.Prelude.{◌≡◌, [], ◌∷◌, codes, length, map}
use Rattle.std.specs.List.{list_any}
use Rattle.rustc_parse_format.specs.Call.{call}
use Rattle.rustc_parse_format.specs.Characters.{Text, after_first, begins_with}
use Rattle.rustc_parse_format.specs.Faults.{Fault}
use Rattle.rustc_parse_format.specs.Marks.{Span}
use Rattle.rustc_parse_format.specs.Types.{Mode, wants_names}
use Rattle.format_tokens.specs.declared.kinds.Kind.{Kind}
use Rattle.format_tokens.specs.declared.kinds.Kind.TheVariants.{Text as TextKind, EscapedBrace}
use Rattle.format_tokens.specs.declared.kinds.Kind.TheVariants.{OpenBrace}
use Rattle.format_tokens.specs.declared.kinds.Kind.TheVariants.{CloseBrace, Integer, Identifier}
use Rattle.format_tokens.specs.declared.kinds.Kind.TheVariants.{RawPrefix, Whitespace, Colon, Fill}
use Rattle.format_tokens.specs.declared.kinds.Kind.TheVariants.{Alignment, Sign, NumberSign, Zero}
use Rattle.format_tokens.specs.declared.kinds.Kind.TheVariants.{DollarSign, Dot, Asterisk}
use Rattle.format_tokens.specs.declared.kinds.Kind.TheVariants.{«Type» as TypeKind, Modifier}
use Rattle.format_tokens.specs.declared.kinds.Kind.TheVariants.{DiagnosticText, Unexpected, Quote}
use Rattle.format_tokens.specs.declared.kinds.Kind.TheVariants.{EscapeSequence}
use Rattle.format_tokens.specs.Culprits.{marked_tokens}
use Rattle.format_tokens.specs.Tokens.{Label}
use Rattle.format_tokens.specs.Walk.{call_tokens}

-- A token of this kind marks a fault.
unfoldable pub is_mark : Kind → Bool
is_mark TextKind = false
is_mark EscapedBrace = false
is_mark OpenBrace = false
is_mark CloseBrace = false
is_mark Integer = false
is_mark Identifier = false
is_mark RawPrefix = true
is_mark Whitespace = false
is_mark Colon = false
is_mark Fill = false
is_mark Alignment = false
is_mark Sign = false
is_mark NumberSign = false
is_mark Zero = false
is_mark DollarSign = false
is_mark Dot = false
is_mark Asterisk = false
is_mark TypeKind = false
is_mark Modifier = false
is_mark DiagnosticText = false
is_mark Unexpected = true
is_mark Quote = false
is_mark EscapeSequence = false

-- One of these tokens marks a fault.
abbrev pub has_mark : {A : Type 0} → List (Kind × A) → Bool
has_mark {A = A} ts = list_any (λ (t : Kind × A). is_mark t.0) ts

-- There is a fault.
abbrev pub has_fault : List (Fault Span) → Bool
has_fault [] = false
has_fault (f ∷ fs) = true

-- A section: the faults that calls find in it, and its tokens.
pub record Section : Type 0 where
  pub faults : List (Fault Span)
  pub tokens : List Label

-- A section without faults and tokens.
abbrev pub empty : Section
empty = record { faults = []; tokens = [] }

-- The sections, where the first one has these faults and tokens in front of its own.
abbrev pub in_front : List (Fault Span) → List Label → List Section → List Section
in_front fs ls [] = record { faults = fs; tokens = ls } ∷ []
in_front fs ls (s ∷ ss) = record { faults = fs ++ s.faults; tokens = ls ++ s.tokens } ∷ ss

-- The text begins with an opening brace that stands alone.
abbrev pub opens : Text → Bool
opens t = begins_with (code "{") t && not (begins_with (code "{") (after_first t))

-- The sections of at most n calls from t on, where c is the next number. None of their tokens is
-- marked as out of place.
abbrev pub sections_within : ℕ → Mode → ℕ → Text → List Section
sections_within zero mode c t = []
sections_within (suc n) mode c [] = []
sections_within (suc n) mode c (b ∷ t) =
    let k = call mode c (b ∷ t) in
    let others = sections_within n mode k.next k.rest in
    in_front k.faults (call_tokens mode (b ∷ t) k.rest)
    (if opens k.rest then empty ∷ others else others)

-- A section whose tokens are marked where they are out of place.
abbrev pub mark_section : Mode → Section → Section
mark_section mode s = record {
  faults = s.faults;
  tokens = marked_tokens (wants_names mode) false s.tokens;
}

-- The sections of a text.
unfoldable pub sections : Mode → Text → List Section
sections mode t = map (mark_section mode) (sections_within (length t) mode 0 t)

-- The faults of at most n calls from t on, where c is the next number.
abbrev pub faults_within : ℕ → Mode → ℕ → Text → List (Fault Span)
faults_within zero mode c t = []
faults_within (suc n) mode c [] = []
faults_within (suc n) mode c (b ∷ t) =
    let k = call mode c (b ∷ t) in k.faults ++ faults_within n mode k.next k.rest

-- The faults of a text: those of all calls, up to its end.
unfoldable pub faults_of : Mode → Text → List (Fault Span)
faults_of mode t = faults_within (length t) mode 0 t

-- If a newline was appended, it is the last character.
abbrev pub HasAppended : Bool → Text → Type 0
HasAppended false t = Unit {0}
HasAppended true t = (u : Text) × (t ≡ u ++ codes "\n")
