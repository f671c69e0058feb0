-- Recovery: the steps of a call after the fault of a missing closing brace. The first two
-- characters that are found there decide. No public document has this rule: it is this project's,
-- and follows the code of rustc's parser.
use Prim.Native.Char.{code}
use Rattle.std.specs.Prelude.{ℕ, ◌++◌, ◌&&◌, ◌==◌, not, if◌then◌else◌, List, [], ◌∷◌, Option, Some}
use Rattle.std.specs.Prelude.{None}
use Rattle.rustc_parse_format.specs.Characters.{Text, is_align, word, after_word, begins_with}
use Rattle.rustc_parse_format.specs.Characters.{after_first, after_brace}
use Rattle.rustc_parse_format.specs.Types.{Mode, Position, Implicit, Index, Named, Argument}
use Rattle.rustc_parse_format.specs.Marks.{Mark, Span, over_first}
use Rattle.rustc_parse_format.specs.Placeholder.{cut}
use Rattle.rustc_parse_format.specs.Values.{number_after_field}
use Rattle.rustc_parse_format.specs.Meaning.{argument, spec_texts}
use Rattle.rustc_parse_format.specs.Faults.{Fault, MissingColon, LateDebug, LateAlign, Grouping}
use Rattle.rustc_parse_format.specs.Faults.{DebugPrint, LateSign, FieldAccess, TupleIndex}
use Rattle.rustc_parse_format.specs.PartFaults.{word_faults, cut_faults}
use Rattle.rustc_parse_format.specs.Identifiers.{is_identifier}
use Rattle.rustc_parse_format.specs.Tries.{spec_tries}

pub record Recovery : Type 0 where
  -- The faults, in the order in which they are found.
  pub faults : List (Fault Span)
  pub rest : Text
  pub next : ℕ
  -- The characters that the recovery reads as text, each with the number of characters that are
  -- left from it on.
  pub texts : List (ℕ × ℕ)
  -- The rest of the input from each word on that the recovery tries for a count.
  pub tries : List Text

-- A recovery that finds these faults, leaves r and takes no number.
abbrev pub finds : ℕ → List (Fault Span) → Text → Recovery
finds c fs r = record { faults = fs; rest = r; next = c; texts = []; tries = [] }

-- The fault of a character x that is at the span s, where y comes next and the placeholder begins
-- at the span o. None if x is not such a character.
abbrev pub sign_fault : {A : Type 0} → ℕ → ℕ → A → A → Option (Fault A)
sign_fault x y s o =
    if is_align x then Some (LateAlign x s) else
    (if x == code "," then Some (Grouping s o) else
    (if x == code "+" then Some (LateSign s) else
    (if x == code "=" && y == code "}" then Some (DebugPrint s o) else
    (if x == code "?" && y == code "}" then Some (MissingColon s) else None))))

-- A recovery that reads the first character of t if that has a fault, and otherwise reads nothing.
abbrev pub sign : ℕ → Option (Fault Span) → Text → Recovery
sign c None t = finds c [] t
sign c (Some f) t = finds c (f ∷ []) (after_first t)

-- A recovery at a `?`. It reads the `?`, and, where a colon follows, the colon and the word after
-- it.
unfoldable pub late_debug : ℕ → Text → Recovery
late_debug c t =
    let w = after_first (after_first t) in
    if begins_with (code ":") (after_first t)
    then finds c (word_faults w ++ LateDebug (word w) (over_first t) ∷ []) (after_word w)
    else finds c [] (after_first t)

-- The fault of a field after a dot, where a closing brace follows the field. An implicit position
-- has none.
abbrev pub field_fault : {A : Type 0} → Position → A → List (Fault A)
field_fault (Named w) s = FieldAccess s ∷ []
field_fault (Index n) s = TupleIndex s ∷ []
field_fault (Implicit n) s = []

-- A recovery at a dot. It reads the dot and a field, as after an opening brace, and a closing brace
-- that follows at once. The argument before the dot starts at the mark `from`.
unfoldable pub field : Mode → ℕ → Mark → Text → Recovery
field mode c from t =
    let a = cut mode (after_first t) in
    let f = argument c a in
    record {
      faults = cut_faults mode a
          ++ (if begins_with (code "}") a.rest
          then field_fault f.position (record { from = from; to = f.position_span.to }) else []);
      rest = after_brace a.rest;
      next = number_after_field c a.field;
      texts = spec_texts a.field.spec a.rest;
      tries = spec_tries a.field.spec a.rest;
    }

-- The recovery where t is left in place of a closing brace. The placeholder begins at o, a is its
-- argument, and c is the next number.
unfoldable pub recovery : Mode → ℕ → Text → Argument Span → Text → Recovery
recovery mode c o a (x ∷ y ∷ t) =
    if x == code "." && is_identifier a then field mode c a.position_span.from (x ∷ y ∷ t) else
    (if x == code "?" && not (y == code "}") then late_debug c (x ∷ y ∷ t) else
    sign c (sign_fault x y (over_first (x ∷ y ∷ t)) (over_first o)) (x ∷ y ∷ t))
recovery mode c o a t = finds c [] t
