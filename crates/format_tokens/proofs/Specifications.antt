-- The tokens of a specification, by what it means.
use Rattle.std.proofs.Common.{◌≡◌, ℕ, ◌++◌, Bool, true, false, List, [], ◌∷◌, chars, refl, sym, ap}
use Rattle.std.proofs.Common.{◌∙◌, codes}
use Rattle.std.specs.Int.{from_bool}
use Rattle.std.proofs.lemmas.Bool.{false≢true, not-true}
use Rattle.rustc_parse_format.specs.Characters.{Text, begins_with, byte_length, is_no_brace}
use Rattle.rustc_parse_format.specs.Spelling.{IsPart, fixed_part, optional_identifier, run}
use Rattle.rustc_parse_format.specs.Types.{Mode, Format, InlineAsm, Diagnostic, DiagnosticNamed}
use Rattle.rustc_parse_format.specs.Types.{Spec}
use Rattle.rustc_parse_format.specs.Syntax.{FormatText, SpecText, Default, Formatting, Modifier}
use Rattle.rustc_parse_format.specs.Syntax.{DiagnosticText, alternate_part, format_part, spec_part}
use Rattle.rustc_parse_format.specs.Values.{format_value, spec_value}
use Rattle.rustc_parse_format.proofs.Grammar.PartLaws.{IsPart-moved}
use Rattle.rustc_parse_format.proofs.Grammar.PartLaws.{two-split}
use Rattle.format_tokens.specs.declared.kinds.Kind.TheVariants.{Colon}
use Rattle.format_tokens.specs.declared.kinds.Kind.TheVariants.{Modifier as ModifierKind}
use Rattle.format_tokens.specs.declared.kinds.Kind.TheVariants.{DiagnosticText as DiagnosticKind}
use Rattle.format_tokens.specs.declared.kinds.Label.{Label as Sized}
use Rattle.format_tokens.specs.Labels.{Adds}
use Rattle.format_tokens.specs.Tokens.{format_tokens, spec_tokens, word_kind}
use Rattle.format_tokens.proofs.Taking.{Takes, as_kind, then}

pub alternate-width : (b : Bool) → from_bool b ≡ byte_length (alternate_part b).spelling
alternate-width true = refl
alternate-width false = refl

-- With a colon there is a specification.
default_starts : (mode : Mode) (t r : Text) {A : Type 0} → begins_with 58 t ≡ true
    → IsPart t (spec_part mode Default) r → A
default_starts mode t r e h = absurd (false≢true (sym (not-true (begins_with 58 r) h.ends)
    ∙ (ap (begins_with 58) (sym h.whole) ∙ e)))

pub format-rest_after : (t b left : List ℕ) (x y z : List Sized) (f : Spec (Unit {0}))
    → begins_with 58 (chars t) ≡ true → Takes Colon 1 t x y b
    → ((p : FormatText) (n : ℕ) (r : Text) → IsPart (chars b) (format_part p) r
    → f ≡ format_value n p → Adds (format_tokens p) r y z left)
    → (k : SpecText) (n : ℕ) (r : Text) → IsPart (chars t) (spec_part Format k) r
    → f ≡ spec_value n k → Adds (spec_tokens k) r x z left
format-rest_after t b left x y z f e colon format Default n r h v =
    default_starts Format (chars t) r e h
format-rest_after t b left x y z f e colon format (Formatting p) n r h v =
    let s = two-split (chars t) (fixed_part (codes ":")) (format_part p) r h in
    let first = colon (codes ":") s.seam s.first.whole refl in
    then first (format p n r (IsPart-moved _ _ _ _ first.leaves s.second) v)
format-rest_after t b left x y z f e colon format (Modifier w) n r h v = absurd (false≢true
    h.formed)
format-rest_after t b left x y z f e colon format (DiagnosticText w) n r h v =
    absurd (false≢true h.formed)

pub modifier-rest_after : (t b left : List ℕ) (x y z : List Sized) (f : Spec (Unit {0})) (m : ℕ)
    → begins_with 58 (chars t) ≡ true → Takes Colon 1 t x y b → m ≡ byte_length f.ty
    → Takes (word_kind ModifierKind f.ty) m b y z left
    → (k : SpecText) (n : ℕ) (r : Text) → IsPart (chars t) (spec_part InlineAsm k) r
    → f ≡ spec_value n k → Adds (spec_tokens k) r x z left
modifier-rest_after t b left x y z f m e colon i takes Default n r h v =
    default_starts InlineAsm (chars t) r e h
modifier-rest_after t b left x y z f m e colon i takes (Modifier w) n r h v =
    let s = two-split (chars t) (fixed_part (codes ":")) (optional_identifier w) r h in
    let first = colon (codes ":") s.seam s.first.whole refl in
    then first (as_kind w (ap (λ (g : Spec (Unit {0})). word_kind ModifierKind g.ty) v)
    (takes w r (first.leaves ∙ optional-whole w s.second)
    (i ∙ ap (λ (g : Spec (Unit {0})). byte_length g.ty) v)))
  where
    optional-whole : {t r : Text} (w : Text) → IsPart t (optional_identifier w) r → t ≡ w ++ r
    optional-whole [] h = h.whole
    optional-whole (c ∷ w) h = h.whole
modifier-rest_after t b left x y z f m e colon i takes (Formatting w) n r h v =
    absurd (false≢true h.formed)
modifier-rest_after t b left x y z f m e colon i takes (DiagnosticText w) n r h v =
    absurd (false≢true h.formed)

-- The mode is one of the two for diagnostics.
abbrev pub IsDiagnostic : Mode → Type 0
IsDiagnostic Format = ⊥
IsDiagnostic InlineAsm = ⊥
IsDiagnostic Diagnostic = Unit {0}
IsDiagnostic DiagnosticNamed = Unit {0}

diagnostic : (t b left : List ℕ) (x y z : List Sized) (f : Spec (Unit {0})) (m : ℕ)
    → Takes Colon 1 t x y b → m ≡ byte_length f.ty → Takes DiagnosticKind m b y z left
    → (u : Text) (r : Text) → IsPart (chars t) (spec_part Diagnostic (DiagnosticText u)) r
    → f.ty ≡ u → Adds (spec_tokens (DiagnosticText u)) r x z left
diagnostic t b left x y z f m colon i takes u r h v =
    let s = two-split (chars t) (fixed_part (codes ":")) (run is_no_brace u) r h in
    let first = colon (codes ":") s.seam s.first.whole refl in
    then first (takes u r (first.leaves ∙ s.second.whole) (i ∙ ap byte_length v))

pub diagnostic-rest_after : (mode : Mode) (t b left : List ℕ) (x y z : List Sized)
    (f : Spec (Unit {0})) (m : ℕ) → begins_with 58 (chars t) ≡ true → Takes Colon 1 t x y b
    → m ≡ byte_length f.ty → Takes DiagnosticKind m b y z left
    → IsDiagnostic mode
    → (k : SpecText) (n : ℕ) (r : Text) → IsPart (chars t) (spec_part mode k) r
    → f ≡ spec_value n k → Adds (spec_tokens k) r x z left
diagnostic-rest_after mode t b left x y z f m e colon i takes d Default n r h v =
    default_starts mode (chars t) r e h
diagnostic-rest_after Diagnostic t b left x y z f m e colon i takes d (DiagnosticText u) n r h v =
    diagnostic t b left x y z f m colon i takes u r h (ap (λ (g : Spec (Unit {0})). g.ty) v)
diagnostic-rest_after DiagnosticNamed t b left x y z f m e colon i takes d (DiagnosticText u) n r h
    v =
    diagnostic t b left x y z f m colon i takes u r h (ap (λ (g : Spec (Unit {0})). g.ty) v)
diagnostic-rest_after Format t b left x y z f m e colon i takes d (DiagnosticText u) n r h v =
    absurd d
diagnostic-rest_after InlineAsm t b left x y z f m e colon i takes d (DiagnosticText u) n r h v =
    absurd d
diagnostic-rest_after Format t b left x y z f m e colon i takes d (Formatting u) n r h v = absurd d
diagnostic-rest_after InlineAsm t b left x y z f m e colon i takes d (Formatting u) n r h v =
    absurd d
diagnostic-rest_after Diagnostic t b left x y z f m e colon i takes d (Formatting u) n r h v =
    absurd (false≢true h.formed)
diagnostic-rest_after DiagnosticNamed t b left x y z f m e colon i takes d (Formatting u) n r h v =
    absurd (false≢true h.formed)
diagnostic-rest_after Format t b left x y z f m e colon i takes d (Modifier u) n r h v = absurd d
diagnostic-rest_after InlineAsm t b left x y z f m e colon i takes d (Modifier u) n r h v = absurd d
diagnostic-rest_after Diagnostic t b left x y z f m e colon i takes d (Modifier u) n r h v =
    absurd (false≢true h.formed)
diagnostic-rest_after DiagnosticNamed t b left x y z f m e colon i takes d (Modifier u) n r h v =
    absurd (false≢true h.formed)
