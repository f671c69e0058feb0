-- The tokens of a field: a field that a brace closes is clean exactly if none of its tokens, and
-- not the opening brace, is marked.
use Rattle.std.proofs.Common.{◌≡◌, ℕ, ◌++◌, Bool, true, false, IsTrue, List, [], ◌∷◌}
use Rattle.std.proofs.Common.{refl, sym, ap, ◌∙◌, codes, append_assoc}
use Rattle.std.specs.Prelude.{◌||◌, bytes_eq}
use Rattle.std.specs.Char.{is_whitespace}
use Rattle.std.proofs.lemmas.Bool.{cond_both, false≢true}
use Rattle.std.proofs.lemmas.Bool.{or_from}
use Rattle.rustc_parse_format.specs.Characters.{Text, begins_raw}
use Rattle.rustc_parse_format.specs.Grammar.{IsClean, IsCleanFormat, IsCleanPosition}
use Rattle.rustc_parse_format.specs.Grammar.{IsCleanSpec}
use Rattle.rustc_parse_format.specs.Spelling.{IsPart, absent_part, fixed_part, identifier, run}
use Rattle.rustc_parse_format.specs.Syntax.{DiagnosticText, FieldText, FormatText, Formatting}
use Rattle.rustc_parse_format.specs.Syntax.{Default, Modifier}
use Rattle.rustc_parse_format.specs.Syntax.{PositionText, Digits, Word, RawWord, NoPosition}
use Rattle.rustc_parse_format.specs.Syntax.{SpecText}
use Rattle.rustc_parse_format.specs.Syntax.{align_part}
use Rattle.rustc_parse_format.specs.Syntax.{alternate_part, field_part, fill_part, format_part}
use Rattle.rustc_parse_format.specs.Syntax.{position_part, precision_part}
use Rattle.rustc_parse_format.specs.Syntax.{sign_part, spec_part, type_part, width_part}
use Rattle.rustc_parse_format.specs.Types.{Mode, Format, InlineAsm, Diagnostic, DiagnosticNamed}
use Rattle.rustc_parse_format.specs.Types.{wants_names}
use Rattle.rustc_parse_format.specs.Values.{given_position, is_name, type_of}
use Rattle.rustc_parse_format.proofs.Grammar.PartLaws.{IsRow, only, opened, two-split}
use Rattle.format_tokens.specs.declared.kinds.Kind.{Kind}
use Rattle.format_tokens.specs.declared.kinds.Kind.TheVariants.{Alignment, Colon}
use Rattle.format_tokens.specs.declared.kinds.Kind.TheVariants.{Fill, Identifier}
use Rattle.format_tokens.specs.declared.kinds.Kind.TheVariants.{Modifier as ModifierKind}
use Rattle.format_tokens.specs.declared.kinds.Kind.TheVariants.{DiagnosticText as DiagnosticKind}
use Rattle.format_tokens.specs.declared.kinds.Kind.TheVariants.{«Type» as TypeKind, NumberSign}
use Rattle.format_tokens.specs.declared.kinds.Kind.TheVariants.{RawPrefix, Sign, Unexpected}
use Rattle.format_tokens.specs.declared.kinds.Kind.TheVariants.{Whitespace}
use Rattle.format_tokens.specs.Culprits.{has_argument}
use Rattle.format_tokens.specs.Culprits.{is_argument, role_of}
use Rattle.format_tokens.specs.Sections.{is_mark}
use Rattle.format_tokens.specs.Tokens.{Label, field_tokens, format_tokens}
use Rattle.format_tokens.specs.Tokens.{integer_kind, position_tokens}
use Rattle.format_tokens.specs.Tokens.{spec_tokens, token, word_kind}
use Rattle.format_tokens.proofs.PartMarks.{Inner, both, clean-integer, clean-precision}
use Rattle.format_tokens.proofs.PartMarks.{clean-type, clean-width, clean-word, inner-none}
use Rattle.format_tokens.proofs.PartMarks.{inner-token, integer-clean, integer-inner}
use Rattle.format_tokens.proofs.PartMarks.{integer-marked, or-left, or-right, precision-clean}
use Rattle.format_tokens.proofs.PartMarks.{precision-inner, precision_mark, quiet, token_mark}
use Rattle.format_tokens.proofs.PartMarks.{type-clean, type_mark, width-clean}
use Rattle.format_tokens.proofs.PartMarks.{width-inner, width_mark, word-clean, word-inner}

-- Specifications.
abbrev format_mark : Bool → FormatText → Bool
format_mark names p = width_mark names p.width
    || (precision_mark names p.precision || type_mark names p.type)

format-inner : (names : Bool) (p : FormatText)
    → Inner names (format_tokens p) (format_mark names p)
unfolding is_mark role_of
format-inner names p =
    both (quiet names Fill (fill_part p.fill).spelling tt refl)
    (both (quiet names Alignment (align_part p.align).spelling tt refl)
    (both (quiet names Sign (sign_part p.sign).spelling tt refl)
    (both (quiet names NumberSign (alternate_part p.alternate).spelling tt refl)
    (both (width-inner names p.width)
    (both (precision-inner names p.precision)
    (inner-token names (word_kind TypeKind (type_of p.type)) (type_part p.type).spelling
    (word-inner names TypeKind (type_of p.type) tt)))))))

format-clean : (names : Bool) (p : FormatText) {t r : Text} → names ≡ false
    → IsPart t (format_part p) r → IsCleanFormat p → format_mark names p ≡ false
format-clean names p {t = t} {r = r} e part h =
    let whole : IsRow t (fill_part p.fill ∷ align_part p.align ∷ sign_part p.sign
    ∷ alternate_part p.alternate ∷ width_part p.width ∷ precision_part p.precision
    ∷ type_part p.type ∷ []) r = record { part = part } in
    let f = opened whole in
    let a = opened f.others in
    let g = opened a.others in
    let n = opened g.others in
    let w = opened n.others in
    let d = opened w.others in
    let y = only d.others in
    or_from (width_mark names p.width) (precision_mark names p.precision || type_mark names p.type)
    (width-clean names p.width e h.width)
    (or_from (precision_mark names p.precision) (type_mark names p.type)
    (precision-clean names p.precision e h.precision) (type-clean names p.type y h.type))

clean-format : (names : Bool) (p : FormatText) → format_mark names p ≡ false → IsCleanFormat p
clean-format names p e =
    let others = or-right (width_mark names p.width) _ e in record {
      width = clean-width names p.width (or-left (width_mark names p.width) _ e);
      precision = clean-precision names p.precision
          (or-left (precision_mark names p.precision) _ others);
      type = clean-type names p.type (or-right (precision_mark names p.precision) _ others);
    }

abbrev spec_mark : Bool → SpecText → Bool
spec_mark names Default = false
spec_mark names (Formatting p) = format_mark names p
spec_mark names (Modifier w) = token_mark names (word_kind ModifierKind w) w
spec_mark names (DiagnosticText u) = token_mark names DiagnosticKind u

spec-inner : (names : Bool) (k : SpecText) → Inner names (spec_tokens k) (spec_mark names k)
unfolding is_mark role_of
spec-inner names Default = inner-none names
spec-inner names (Formatting p) =
    both (quiet names Colon (codes ":") tt refl) (format-inner names p)
spec-inner names (Modifier w) =
    both (quiet names Colon (codes ":") tt refl)
    (inner-token names (word_kind ModifierKind w) w (word-inner names ModifierKind w tt))
spec-inner names (DiagnosticText u) =
    both (quiet names Colon (codes ":") tt refl) (inner-token names DiagnosticKind u tt)

message-clean : (names : Bool) (u : Text) → (IsTrue names → u ≡ [])
    → token_mark names DiagnosticKind u ≡ false
unfolding is_mark role_of
message-clean names [] h = refl
message-clean false (c ∷ u) h = refl
message-clean true (c ∷ u) h = let none = h refl in absurd (cc none)

spec-clean : (mode : Mode) (k : SpecText) {t r : Text} → IsPart t (spec_part mode k) r
    → IsCleanSpec mode k → spec_mark (wants_names mode) k ≡ false
unfolding is_mark role_of
spec-clean mode Default p h = refl
spec-clean Format (Formatting f) {t = t} {r = r} p h =
    let s = two-split t (fixed_part (codes ":")) (format_part f) r p in
    format-clean false f refl s.second h
spec-clean InlineAsm (Formatting f) p h = absurd (false≢true p.formed)
spec-clean Diagnostic (Formatting f) p h = absurd (false≢true p.formed)
spec-clean DiagnosticNamed (Formatting f) p h = absurd (false≢true p.formed)
spec-clean mode (Modifier w) p h = word-clean (wants_names mode) ModifierKind w w refl h
spec-clean mode (DiagnosticText u) p h = message-clean (wants_names mode) u h

message-marked : (c : ℕ) (u : Text) → token_mark true DiagnosticKind (c ∷ u) ≡ true
unfolding is_mark role_of
message-marked c u = refl

clean-message : (names : Bool) (u : Text) → token_mark names DiagnosticKind u ≡ false
    → IsTrue names → u ≡ []
clean-message names [] e h = refl
clean-message true (c ∷ u) e h = absurd (false≢true (sym e ∙ message-marked c u))
clean-message false (c ∷ u) e h = absurd (false≢true h)

clean-spec : (mode : Mode) (k : SpecText) → spec_mark (wants_names mode) k ≡ false
    → IsCleanSpec mode k
clean-spec mode Default e = tt
clean-spec mode (Formatting p) e = clean-format (wants_names mode) p e
clean-spec mode (Modifier w) e = clean-word (wants_names mode) ModifierKind w e
clean-spec mode (DiagnosticText u) e = clean-message (wants_names mode) u e

-- Positions.
abbrev position_mark : Bool → PositionText → Bool
position_mark names (Digits ds) = token_mark names (integer_kind ds) ds
position_mark names (Word w) = token_mark names (word_kind Identifier w) w
position_mark names (RawWord w) = true || token_mark names (word_kind Identifier w) w
position_mark names NoPosition = false

position-inner : (names : Bool) (p : PositionText)
    → Inner names (position_tokens p) (position_mark names p)
unfolding is_mark role_of
position-inner names (Digits ds) = inner-token names (integer_kind ds) ds (integer-inner ds)
position-inner names (Word w) =
    inner-token names (word_kind Identifier w) w (word-inner names Identifier w tt)
position-inner names (RawWord w) =
    both (inner-token names RawPrefix (codes "r#") tt)
    (inner-token names (word_kind Identifier w) w (word-inner names Identifier w tt))
position-inner names NoPosition = inner-none names

-- A clean position is not marked, and is an argument where names are wanted.
pub record IsPlain (names : Bool) (p : PositionText) : Type 0 where
  pub unmarked : position_mark names p ≡ false
  pub argument : IsTrue names → (ts : List Label) → has_argument (position_tokens p ++ ts) ≡ true

no_names : (b : Bool) → (IsTrue b → IsTrue false) → b ≡ false
no_names true h = absurd (false≢true (h refl))
no_names false h = refl

word-argument : (w : Text) (ts : List Label) {t r : Text} → IsPart t (identifier w) r
    → has_argument (token (word_kind Identifier w) w ++ ts) ≡ true
unfolding role_of
word-argument [] ts p = absurd (false≢true p.formed)
word-argument (c ∷ w) ts p =
    cond_both {A = Kind} (bytes_eq (c ∷ w) (codes "_")) Unexpected Identifier
    (λ k. is_argument (role_of k) ≡ true) (λ e. refl) (λ e. refl)

position-clean : (names : Bool) (p : PositionText) {t r : Text} → IsPart t (position_part p) r
    → IsCleanPosition p → (IsTrue names → IsTrue (is_name (given_position p)))
    → IsPlain names p
unfolding is_mark role_of
position-clean names (Digits ds) p h n =
    let none = no_names names n in record {
      unmarked = integer-clean names ds none h;
      argument = λ yes. absurd (false≢true (sym none ∙ yes));
    }
position-clean names (Word w) {t = t} {r = r} p h n =
    let s = two-split t (absent_part begins_raw) (identifier w) r p in record {
      unmarked = word-clean names Identifier w w refl h;
      argument = λ yes ts. word-argument w ts s.second;
    }
position-clean names (RawWord w) p h n = absurd h
position-clean names NoPosition p h n =
    let none = no_names names n in
    record { unmarked = refl; argument = λ yes. absurd (false≢true (sym none ∙ yes)) }

clean-position : (names : Bool) (p : PositionText) → position_mark names p ≡ false
    → IsCleanPosition p
clean-position names (Digits ds) e = clean-integer names ds e
clean-position names (Word w) e = clean-word names Identifier w e
clean-position names (RawWord w) e = absurd (false≢true (sym e))
clean-position names NoPosition e = tt

-- Fields.
abbrev pub field_mark : Bool → FieldText → Bool
field_mark names a = position_mark names a.position || spec_mark names a.spec

pub field-inner : (names : Bool) (a : FieldText) (space : Text)
    → Inner names (field_tokens a ++ token Whitespace space) (field_mark names a || false)
unfolding is_mark role_of
field-inner names a space =
    both (both (position-inner names a.position)
    (both (quiet names Whitespace a.space tt refl) (spec-inner names a.spec)))
    (quiet names Whitespace space tt refl)

pub field-clean : (mode : Mode) (a : FieldText) {t r : Text} → IsPart t (field_part mode a) r
    → IsClean mode a
    → (field_mark (wants_names mode) a ≡ false)
    × (IsTrue (wants_names mode) → (ts : List Label) → has_argument (field_tokens a ++ ts) ≡ true)
field-clean mode a {t = t} {r = r} part h =
    let whole : IsRow t (position_part a.position ∷ run is_whitespace a.space
    ∷ spec_part mode a.spec ∷ []) r = record { part = part } in
    let p = opened whole in
    let w = opened p.others in
    let s = only w.others in
    let plain = position-clean (wants_names mode) a.position p.first h.position h.name in (
      or_from (position_mark (wants_names mode) a.position) (spec_mark (wants_names mode) a.spec)
          plain.unmarked (spec-clean mode a.spec s h.spec),
      λ yes ts. ap has_argument (append_assoc (position_tokens a.position)
          (token Whitespace a.space ++ spec_tokens a.spec) ts) ∙ plain.argument yes _,
    )

-- Without a position no argument comes first.
after-token : (k : Kind) (u : Text) (ts : List Label) → is_argument (role_of k) ≡ false
    → has_argument ts ≡ false → has_argument (token k u ++ ts) ≡ false
after-token k [] ts e h = h
after-token k (c ∷ u) ts e h = e

after-spec : (k : SpecText) (ts : List Label) → has_argument ts ≡ false
    → has_argument (spec_tokens k ++ ts) ≡ false
unfolding role_of
after-spec Default ts h = h
after-spec (Formatting p) ts h = refl
after-spec (Modifier w) ts h = refl
after-spec (DiagnosticText u) ts h = refl

no-argument : (w : Text) (k : SpecText) (space : Text) (ts : List Label) → has_argument ts ≡ false
    → has_argument (((token Whitespace w ++ spec_tokens k) ++ token Whitespace space) ++ ts)
    ≡ false
unfolding role_of
no-argument w k space ts h =
    ap has_argument (append_assoc (token Whitespace w ++ spec_tokens k) (token Whitespace space) ts
    ∙ append_assoc (token Whitespace w) (spec_tokens k) (token Whitespace space ++ ts))
    ∙ after-token Whitespace w _ refl (after-spec k _ (after-token Whitespace space ts refl h))

named-position : (names : Bool) (p : PositionText) {t r : Text} → IsPart t (position_part p) r
    → position_mark names p ≡ false → (p ≡ NoPosition → names ≡ false) → IsTrue names
    → IsTrue (is_name (given_position p))
named-position true (Digits []) p e f n = absurd (false≢true p.formed)
named-position true (Digits (c ∷ ds)) p e f n =
    absurd (false≢true (sym e ∙ integer-marked c ds))
named-position true (Word w) p e f n = refl
named-position true (RawWord w) p e f n = refl
named-position true NoPosition p e f n = absurd (false≢true (sym (f refl)))
named-position false q p e f n = absurd (false≢true n)

pub clean-field : (mode : Mode) (a : FieldText) (space : Text) (ts : List Label) {t r : Text}
    → IsPart t (field_part mode a) r → field_mark (wants_names mode) a ≡ false
    → has_argument ts ≡ false
    → (IsTrue (wants_names mode)
    → has_argument ((field_tokens a ++ token Whitespace space) ++ ts) ≡ true)
    → IsClean mode a
clean-field mode a space ts {t = t} {r = r} part e none given =
    let whole : IsRow t (position_part a.position ∷ run is_whitespace a.space
    ∷ spec_part mode a.spec ∷ []) r = record { part = part } in
    let p = opened whole in
    let first = or-left (position_mark (wants_names mode) a.position) _ e in record {
      position = clean-position (wants_names mode) a.position first;
      name = named-position (wants_names mode) a.position p.first first
          (λ same. no_names (wants_names mode) (λ yes. absurd (false≢true
          (sym (no-argument a.space a.spec space ts none)
          ∙ (sym (ap (λ q. has_argument (((position_tokens q
          ++ (token Whitespace a.space ++ spec_tokens a.spec)) ++ token Whitespace space) ++ ts))
          same) ∙ given yes)))));
      spec = clean-spec mode a.spec (or-right (position_mark (wants_names mode) a.position) _ e);
    }
