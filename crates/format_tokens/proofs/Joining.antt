-- The characters of the tokens of a text, one after the other, are the text.
use Rattle.std.proofs.Common.{◌≡◌, ℕ, suc, zero, ◌++◌, ◌-◌, ◌≤◌, ◌==◌, Bool, true, false, List, []}
use Rattle.std.proofs.Common.{◌∷◌, length, take, refl, sym, ap, ◌∙◌, arith, append_assoc}
use Rattle.std.proofs.Common.{append-nil}
use Rattle.std.proofs.Common.{codes, take_all}
use Rattle.std.specs.Char.{is_whitespace}
use Rattle.std.proofs.lemmas.Bool.{eqb-true, false≢true}
use Rattle.std.proofs.lemmas.List.{length-take}
use Rattle.rustc_parse_format.specs.Call.{call, placeholder}
use Rattle.rustc_parse_format.specs.Characters.{Text, begins_raw, begins_with, after_first}
use Rattle.rustc_parse_format.specs.Characters.{after_white, front, is_brace, is_no_brace}
use Rattle.rustc_parse_format.specs.Placeholder.{cut}
use Rattle.rustc_parse_format.specs.Source.{unappended_input}
use Rattle.rustc_parse_format.specs.Spelling.{IsPart, absent_part, fixed_part, identifier, integer}
use Rattle.rustc_parse_format.specs.Spelling.{optional_identifier, run, part_unless}
use Rattle.rustc_parse_format.specs.Syntax.{CountText, NumberCount, IndexCount, NameCount, NoCount}
use Rattle.rustc_parse_format.specs.Syntax.{DiagnosticText, FieldText, FormatText, Formatting}
use Rattle.rustc_parse_format.specs.Syntax.{Default, DotPrecision, Modifier, NoPrecision}
use Rattle.rustc_parse_format.specs.Syntax.{PaddedWidth, PlainWidth, PrecisionText, StarPrecision}
use Rattle.rustc_parse_format.specs.Syntax.{PositionText, Digits, Word, RawWord, NoPosition}
use Rattle.rustc_parse_format.specs.Syntax.{SpecText, WidthText, ZeroIndexWidth, align_part}
use Rattle.rustc_parse_format.specs.Syntax.{alternate_part, count_part, field_part, fill_part}
use Rattle.rustc_parse_format.specs.Syntax.{format_part, name_part, position_part, precision_part}
use Rattle.rustc_parse_format.specs.Syntax.{sign_part, spec_part, type_part, width_part}
use Rattle.rustc_parse_format.specs.Types.{Mode, Format, InlineAsm, Diagnostic, DiagnosticNamed}
use Rattle.rustc_parse_format.specs.Types.{wants_names}
use Rattle.rustc_parse_format.proofs.Grammar.Fronts.{front-rest_after}
use Rattle.rustc_parse_format.proofs.Grammar.PartCuts.{cut-sound}
use Rattle.rustc_parse_format.proofs.Grammar.PartLaws.{IsRow, only, opened, two-split}
use Rattle.rustc_parse_format.proofs.Readers.Recoveries.{recovery_rest}
use Rattle.rustc_parse_format.proofs.Walking.Progress.{call-lt}
use Rattle.format_tokens.specs.declared.kinds.Kind.{Kind}
use Rattle.format_tokens.specs.declared.kinds.Kind.TheVariants.{CloseBrace, Colon}
use Rattle.format_tokens.specs.Culprits.{marked_tokens}
use Rattle.format_tokens.specs.Spans.{input_tokens, first_tokens}
use Rattle.format_tokens.specs.Tokens.{Label, count_tokens, field_tokens, format_tokens}
use Rattle.format_tokens.specs.Tokens.{joined_text}
use Rattle.format_tokens.specs.Tokens.{opened_tokens, position_tokens, precision_tokens}
use Rattle.format_tokens.specs.Tokens.{spec_tokens, token, width_tokens}
use Rattle.format_tokens.specs.Walk.{call_tokens, is_closed, placeholder_tokens, read_tokens}
use Rattle.format_tokens.specs.Walk.{skipped_tokens, tokens_of, tokens_within}
use Rattle.format_tokens.proofs.Calls.{cut_first, take-rest, white-rest_after}
use Rattle.format_tokens.proofs.Skipping.{closed-shape}

pub joined-append : (x y : List Label) → joined_text (x ++ y) ≡ joined_text x ++ joined_text y
joined-append [] y = refl
joined-append (l ∷ x) y = ap (λ t. l.1 ++ t) (joined-append x y)
    ∙ sym (append_assoc l.1 (joined_text x) (joined_text y))

pub token-joined : (k : Kind) (u : Text) → joined_text (token k u) ≡ u
token-joined k [] = refl
token-joined k (c ∷ u) = append-nil (c ∷ u)

-- The text t is that of these tokens, followed by r.
record Splits (ls : List Label) (t r : Text) : Type 0 where
  whole : t ≡ joined_text ls ++ r

splits : (k : Kind) (u : Text) {t r : Text} → t ≡ u ++ r → Splits (token k u) t r
splits k u {r = r} e = record { whole = e ∙ ap (λ v. v ++ r) (sym (token-joined k u)) }

none : {t r : Text} → t ≡ r → Splits [] t r
none e = record { whole = e }

also : {x y : List Label} {t s r : Text} → Splits x t s → Splits y s r → Splits (x ++ y) t r
also {x = x} {y = y} {r = r} h k = record {
  whole = h.whole ∙ (ap (λ u. joined_text x ++ u) k.whole
      ∙ (sym (append_assoc (joined_text x) (joined_text y) r)
      ∙ ap (λ u. u ++ r) (sym (joined-append x y))));
}

-- Where a part is written, its tokens are.
position-splits : (t : Text) (p : PositionText) (r : Text) → IsPart t (position_part p) r
    → Splits (position_tokens p) t r
position-splits t (Digits ds) r h = splits _ ds h.whole
position-splits t (Word w) r h =
    let s = two-split t (absent_part begins_raw) (identifier w) r h in
    splits _ w (s.first.whole ∙ s.second.whole)
position-splits t (RawWord w) r h =
    let s = two-split t (fixed_part (codes "r#")) (identifier w) r h in
    also (splits _ (codes "r#") s.first.whole) (splits _ w s.second.whole)
position-splits t NoPosition r h = none h.whole

count-splits : (t : Text) (k : CountText) (r : Text) → IsPart t (count_part k) r
    → Splits (count_tokens k) t r
count-splits t (NumberCount ds) r h =
    let s = two-split t (integer ds) (absent_part (begins_with 36)) r h in
    splits _ ds (s.first.whole ∙ ap (λ u. ds ++ u) s.second.whole)
count-splits t (IndexCount ds) r h =
    let s = two-split t (integer ds) (fixed_part (codes "$")) r h in
    also (splits _ ds s.first.whole) (splits _ (codes "$") s.second.whole)
count-splits t (NameCount w) r h =
    let s = two-split t (name_part w) (fixed_part (codes "$")) r h in
    also (splits _ w s.first.whole) (splits _ (codes "$") s.second.whole)
count-splits t NoCount r h = none h.whole

width-splits : (t : Text) (w : WidthText) (r : Text) → IsPart t (width_part w) r
    → Splits (width_tokens w) t r
width-splits t (PaddedWidth k) r h =
    let s = two-split t (part_unless (codes "0") (begins_with 36)) (count_part k) r h in
    also (splits _ (codes "0") s.first.whole) (count-splits s.seam k r s.second)
width-splits t ZeroIndexWidth r h = record { whole = h.whole }
width-splits t (PlainWidth k) r h =
    let s = two-split t (absent_part (begins_with 48)) (count_part k) r h in
    also (none s.first.whole) (count-splits s.seam k r s.second)

precision-splits : (t : Text) (p : PrecisionText) (r : Text) → IsPart t (precision_part p) r
    → Splits (precision_tokens p) t r
precision-splits t NoPrecision r h = none h.whole
precision-splits t StarPrecision r h = record { whole = h.whole }
precision-splits t (DotPrecision k) r h =
    let s = two-split t (part_unless (codes ".") (begins_with 42)) (count_part k) r h in
    also (splits _ (codes ".") s.first.whole) (count-splits s.seam k r s.second)

format-splits : (t : Text) (p : FormatText) (r : Text) → IsPart t (format_part p) r
    → Splits (format_tokens p) t r
format-splits t p r h =
    let whole : IsRow t (fill_part p.fill ∷ align_part p.align ∷ sign_part p.sign
    ∷ alternate_part p.alternate ∷ width_part p.width ∷ precision_part p.precision
    ∷ type_part p.type ∷ []) r = record { part = h } in
    let f = opened whole in
    let a = opened f.others in
    let g = opened a.others in
    let n = opened g.others in
    let w = opened n.others in
    let d = opened w.others in
    let y = only d.others in
    also (splits _ (fill_part p.fill).spelling f.first.whole)
    (also (splits _ (align_part p.align).spelling a.first.whole)
    (also (splits _ (sign_part p.sign).spelling g.first.whole)
    (also (splits _ (alternate_part p.alternate).spelling n.first.whole)
    (also (width-splits n.seam p.width w.seam w.first)
    (also (precision-splits w.seam p.precision d.seam d.first)
    (splits _ (type_part p.type).spelling y.whole))))))

optional-whole : {t r : Text} (w : Text) → IsPart t (optional_identifier w) r → t ≡ w ++ r
optional-whole [] h = h.whole
optional-whole (c ∷ w) h = h.whole

text-splits : (t u r : Text) → IsPart t (spec_part Diagnostic (DiagnosticText u)) r
    → Splits (spec_tokens (DiagnosticText u)) t r
text-splits t u r h =
    let s = two-split t (fixed_part (codes ":")) (run is_no_brace u) r h in
    also (splits Colon (codes ":") s.first.whole) (splits _ u s.second.whole)

spec-splits : (mode : Mode) (t : Text) (k : SpecText) (r : Text) → IsPart t (spec_part mode k) r
    → Splits (spec_tokens k) t r
spec-splits mode t Default r h = none h.whole
spec-splits Format t (Formatting p) r h =
    let s = two-split t (fixed_part (codes ":")) (format_part p) r h in
    also (splits Colon (codes ":") s.first.whole) (format-splits s.seam p r s.second)
spec-splits InlineAsm t (Modifier w) r h =
    let s = two-split t (fixed_part (codes ":")) (optional_identifier w) r h in
    also (splits Colon (codes ":") s.first.whole) (splits _ w (optional-whole w s.second))
spec-splits Diagnostic t (DiagnosticText u) r h = text-splits t u r h
spec-splits DiagnosticNamed t (DiagnosticText u) r h = text-splits t u r h
spec-splits Format t (Modifier w) r h = absurd (false≢true h.formed)
spec-splits Format t (DiagnosticText u) r h = absurd (false≢true h.formed)
spec-splits InlineAsm t (Formatting p) r h = absurd (false≢true h.formed)
spec-splits InlineAsm t (DiagnosticText u) r h = absurd (false≢true h.formed)
spec-splits Diagnostic t (Formatting p) r h = absurd (false≢true h.formed)
spec-splits Diagnostic t (Modifier w) r h = absurd (false≢true h.formed)
spec-splits DiagnosticNamed t (Formatting p) r h = absurd (false≢true h.formed)
spec-splits DiagnosticNamed t (Modifier w) r h = absurd (false≢true h.formed)

field-splits : (mode : Mode) (t : Text) (a : FieldText) (r : Text) → IsPart t (field_part mode a) r
    → Splits (field_tokens a) t r
field-splits mode t a r h =
    let whole : IsRow t (position_part a.position ∷ run is_whitespace a.space
    ∷ spec_part mode a.spec ∷ []) r = record { part = h } in
    let p = opened whole in
    let w = opened p.others in
    let s = only w.others in
    also (position-splits t a.position p.seam p.first)
    (also (splits _ a.space w.first.whole) (spec-splits mode w.seam a.spec r s))

skipped-splits : (u : Text) {t r : Text} → t ≡ u ++ r → Splits (skipped_tokens u) t r
skipped-splits u {t = t} {r = r} e = by_end (is_closed u) refl
  where
    by_end : (v : Bool) → is_closed u ≡ v → Splits (skipped_tokens u) t r
    by_end true q = rw q (also (splits _ (take (length u - 1) u) (e
        ∙ (ap (λ v. v ++ r) (closed-shape u q)
        ∙ append_assoc (take (length u - 1) u) (codes "}") r))) (splits _ (codes "}") refl))
    by_end false q = rw q (splits _ u e)

-- A placeholder and what is read in place of its closing brace.
placeholder-splits : (mode : Mode) (n : ℕ) (o t : Text)
    → Splits (placeholder_tokens mode t (placeholder mode n o t).rest) (123 ∷ t)
    (placeholder mode n o t).rest
unfolding placeholder placeholder_tokens
placeholder-splits mode n o t = by_brace (begins_with 125 (after_white (cut mode t).rest)) refl
  where
    opening : Splits (opened_tokens (cut mode t).field (front is_whitespace (cut mode t).rest))
        (123 ∷ t) (after_white (cut mode t).rest)
    opening = also (splits _ (codes "{") refl)
        (also (field-splits mode t (cut mode t).field (cut mode t).rest (cut-sound mode t))
        (splits _ (front is_whitespace (cut mode t).rest) (white-rest_after (cut mode t).rest)))

    by_brace : (v : Bool) → begins_with 125 (after_white (cut mode t).rest) ≡ v
        → Splits (placeholder_tokens mode t (placeholder mode n o t).rest) (123 ∷ t)
        (placeholder mode n o t).rest
    by_brace true q = rw q (also opening (splits _ (codes "}") (cut_first 125 _ q)))
    by_brace false q = rw q (also opening (skipped-splits _ (take-rest
        (after_white (cut mode t).rest) _
        (recovery_rest mode _ o _ (after_white (cut mode t).rest)))))

-- The tokens of a call are what it reads,
call-splits : (mode : Mode) (n : ℕ) (t : Text)
    → Splits (call_tokens mode t (call mode n t).rest) t (call mode n t).rest
unfolding call call_tokens
call-splits mode n [] = none refl
call-splits mode n (b ∷ t) = by_brace (is_brace b) refl
  where
    by_sign : (v : Bool) → is_brace b ≡ true → begins_with b t ≡ false → (b == 123) ≡ v
        → Splits (call_tokens mode (b ∷ t) (call mode n (b ∷ t)).rest) (b ∷ t)
        (call mode n (b ∷ t)).rest
    by_sign true e q o = rw (e, q, o) (also (none (ap (λ c. c ∷ t) (eqb-true b 123 o)))
        (placeholder-splits mode n (b ∷ t) t))
    by_sign false e q o = rw (e, q, o) (splits CloseBrace (b ∷ []) refl)

    by_double : (v : Bool) → is_brace b ≡ true → begins_with b t ≡ v
        → Splits (call_tokens mode (b ∷ t) (call mode n (b ∷ t)).rest) (b ∷ t)
        (call mode n (b ∷ t)).rest
    by_double true e q = rw (e, q) (also (splits _ (b ∷ b ∷ []) (ap (λ u. b ∷ u) (cut_first b t q)))
        (splits _ (front is_no_brace (after_first t)) (front-rest_after is_no_brace (after_first
        t))))
    by_double false e q = by_sign (b == 123) e q refl

    by_brace : (v : Bool) → is_brace b ≡ v
        → Splits (call_tokens mode (b ∷ t) (call mode n (b ∷ t)).rest) (b ∷ t)
        (call mode n (b ∷ t)).rest
    by_brace true e = by_double (begins_with b t) e refl
    by_brace false e = rw e (splits _ (b ∷ front is_no_brace t)
        (ap (λ u. b ∷ u) (front-rest_after is_no_brace t)))

-- and so those of all calls are the text.
all-splits : (n : ℕ) (mode : Mode) (c : ℕ) (t : Text) → length t ≤ n
    → Splits (tokens_within n mode c t) t []
all-splits zero mode c [] h = none refl
all-splits zero mode c (b ∷ t) h = absurd (omega arith)
all-splits (suc n) mode c [] h = none refl
all-splits (suc n) mode c (b ∷ t) h =
    let k = call mode c (b ∷ t) in
    also (call-splits mode c (b ∷ t)) (all-splits n mode k.next k.rest
    (omega (arith, h, call-lt mode c (b ∷ t) (λ e. cc e))))

pub read-joined : (mode : Mode) (t : Text) → joined_text (read_tokens mode t) ≡ t
unfolding read_tokens
read-joined mode t =
    sym ((all-splits (length t) mode 0 t (omega arith)).whole
    ∙ append-nil (joined_text (read_tokens mode t)))

-- A mark changes no characters.
marked-joined : (names : Bool) (ls : List Label) (inside : Bool)
    → joined_text (marked_tokens names inside ls) ≡ joined_text ls
marked-joined names [] inside = refl
marked-joined names (l ∷ ls) inside = ap (λ t. l.1 ++ t) (marked-joined names ls _)

pub tokens-joined : (mode : Mode) (t : Text) → joined_text (tokens_of mode t) ≡ t
tokens-joined mode t = marked-joined (wants_names mode) (read_tokens mode t) false
    ∙ read-joined mode t

-- The first characters of two texts, one after the other.
take-both : (n : ℕ) (u r : Text) → take n (u ++ r) ≡ take n u ++ take (n - length u) r
take-both zero [] r = refl
take-both (suc n) [] r =
    let e : suc n ≡ suc n - 0 = omega arith in
    ap (λ k. take k r) e
take-both zero (c ∷ u) r =
    let e : 0 ≡ 0 - length (c ∷ u) = omega arith in
    ap (λ k. take k r) e
take-both (suc n) (c ∷ u) r =
    let e : n - length u ≡ suc n - length (c ∷ u) = omega arith in
    ap (λ v. c ∷ v) (take-both n u r ∙ ap (λ k. take n u ++ take k r) e)

within-joined : (n : ℕ) (ls : List Label)
    → joined_text (first_tokens n ls) ≡ take n (joined_text ls)
within-joined zero [] = refl
within-joined (suc n) [] = refl
within-joined n (l ∷ ls) = joined-append (token l.0 (take n l.1)) (first_tokens (n - length l.1) ls)
    ∙ (ap (λ t. t ++ joined_text (first_tokens (n - length l.1) ls)) (token-joined l.0 (take n l.1))
    ∙ (ap (λ t. take n l.1 ++ t) (within-joined (n - length l.1) ls)
    ∙ sym (take-both n l.1 (joined_text ls))))

take-unappended : (b : Bool) (t : Text) → take (length (unappended_input b t)) t
    ≡ unappended_input b t
take-unappended true t =
    let e : length (take (length t - 1) t) ≡ length t - 1 =
    omega (arith, length-take (length t - 1) t) in
    ap (λ n. take n t) e
take-unappended false t = take_all (length t) t (omega arith)

-- What is shown of them is the input without an appended newline.
pub shown-joined : (mode : Mode) (input : Text) (b : Bool)
    → joined_text (input_tokens mode input b) ≡ unappended_input b input
shown-joined mode input b =
    within-joined (length (unappended_input b input)) (tokens_of mode input)
    ∙ (ap (λ t. take (length (unappended_input b input)) t) (tokens-joined mode input)
    ∙ take-unappended b input)
