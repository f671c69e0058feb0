-- What a call adds to a section: faults and marks go together, also where a placeholder is not
-- closed.
use Rattle.std.proofs.Common.{◌≡◌, ℕ, suc, ◌++◌, ◌-◌, ◌==◌, Bool, true, false, cond}
use Rattle.std.proofs.Common.{List, [], ◌∷◌, length, take, refl, sym, ap, ◌∙◌, arith, codes}
use Rattle.std.proofs.Common.{append_assoc, inl, inr}
use Rattle.std.specs.Prelude.{◌&&◌, ◌||◌, not, IsTrue}
use Rattle.std.specs.Char.{is_whitespace}
use Rattle.std.proofs.lemmas.Bool.{cond_both, eqb-true, false≢true, or_cases, or_from}
use Rattle.rustc_parse_format.specs.Call.{call, placeholder}
use Rattle.rustc_parse_format.specs.Characters.{Text, after_first, after_white, begins_with, front}
use Rattle.rustc_parse_format.specs.Characters.{is_brace, is_no_brace}
use Rattle.rustc_parse_format.specs.Faults.{Fault, UnmatchedBrace}
use Rattle.rustc_parse_format.specs.Marks.{Span, over_first}
use Rattle.rustc_parse_format.specs.PartFaults.{cut_faults}
use Rattle.rustc_parse_format.specs.Placeholder.{cut}
use Rattle.rustc_parse_format.specs.Syntax.{PlaceholderText}
use Rattle.rustc_parse_format.specs.Types.{Mode, wants_names}
use Rattle.rustc_parse_format.proofs.Grammar.CleanCuts.{cut_clean, cut_faultless}
use Rattle.rustc_parse_format.proofs.Grammar.PartCuts.{cut-sound}
use Rattle.rustc_parse_format.proofs.Readers.Recoveries.{recovery_rest}
use Rattle.format_tokens.specs.declared.kinds.Kind.TheVariants.{CloseBrace, EscapedBrace, OpenBrace}
use Rattle.format_tokens.specs.declared.kinds.Kind.TheVariants.{Unexpected}
use Rattle.format_tokens.specs.declared.kinds.Kind.TheVariants.{Text as TextKind, Whitespace}
use Rattle.format_tokens.specs.Culprits.{closes, has_argument, marked_tokens, role_of}
use Rattle.format_tokens.specs.Sections.{Section, empty, has_fault, has_mark, is_mark}
use Rattle.format_tokens.specs.Sections.{opens}
use Rattle.format_tokens.specs.Tokens.{Label, field_tokens, opened_tokens, piece_tokens, token}
use Rattle.format_tokens.specs.Walk.{call_tokens, is_closed, placeholder_tokens, skipped_tokens}
use Rattle.format_tokens.specs.Walk.{up_to_rest}
use Rattle.format_tokens.proofs.Calls.{cut_first, take-rest}
use Rattle.format_tokens.proofs.PartMarks.{Inner, or-left}
use Rattle.format_tokens.proofs.FieldMarks.{clean-field, field-clean, field-inner, field_mark}

pub fault-append : (x y : List (Fault Span)) → has_fault (x ++ y) ≡ (has_fault x || has_fault y)
fault-append [] y = refl
fault-append (f ∷ x) y = refl

fault-within : (x y z : List (Fault Span)) (f : Fault Span) → has_fault ((x ++ f ∷ y) ++ z) ≡ true
fault-within [] y z f = refl
fault-within (g ∷ x) y z f = refl

-- The part of a section from t on, before which no call is left in a placeholder: no opening brace
-- is in it. If it follows one that is not closed, and closes it, it has a mark.
pub record Front (names : Bool) (t : Text) (s : Section) : Type 0 where
  pub marks : has_mark (marked_tokens names false s.tokens) ≡ has_fault s.faults
  pub closing : closes s.tokens ≡ has_fault s.faults
  pub inside : begins_with 125 t ≡ false → closes s.tokens ≡ true
      → has_mark (marked_tokens names true s.tokens) ≡ true

pub front-empty : (names : Bool) (t : Text) → Front names t empty
front-empty names t = record {
  marks = refl;
  closing = refl;
  inside = λ e h. absurd (false≢true h);
}

front-run : (names : Bool) (t r u : Text) (c : ℕ) (s : Section) → Front names r s
    → Front names t (record { faults = s.faults; tokens = token TextKind (c ∷ u) ++ s.tokens })
unfolding is_mark role_of
front-run names t r u c s h = record {
  marks = h.marks;
  closing = h.closing;
  inside = λ e k. refl;
}

front-doubled : (names : Bool) (t r u d : Text) (s : Section) (c : ℕ) → Front names r s
    → Front names t (record {
      faults = s.faults;
      tokens = (token EscapedBrace (c ∷ d) ++ token TextKind u) ++ s.tokens;
    })
unfolding is_mark role_of
front-doubled names t r [] d s c h = record {
  marks = h.marks;
  closing = h.closing;
  inside = λ e k. refl;
}
front-doubled names t r (x ∷ u) d s c h = record {
  marks = h.marks;
  closing = h.closing;
  inside = λ e k. refl;
}

front-unmatched : (names : Bool) (t u : Text) (c : ℕ) (f : Fault Span) (s : Section)
    → begins_with 125 t ≡ true
    → Front names t (record {
      faults = f ∷ s.faults;
      tokens = token CloseBrace (c ∷ u) ++ s.tokens;
    })
unfolding is_mark role_of
front-unmatched names t u c f s q = record {
  marks = refl;
  closing = refl;
  inside = λ e k. absurd (false≢true (sym e ∙ q));
}

-- The section that a call makes longer.
abbrev longer : Mode → ℕ → Text → Section → Section
longer mode c t s = record {
  faults = (call mode c t).faults ++ s.faults;
  tokens = call_tokens mode t (call mode c t).rest ++ s.tokens;
}

pub front-call : (mode : Mode) (names : Bool) (c b : ℕ) (t : Text) (s : Section)
    → opens (b ∷ t) ≡ false → Front names (call mode c (b ∷ t)).rest s
    → Front names (b ∷ t) (longer mode c (b ∷ t) s)
unfolding call call_tokens
front-call mode names c b t s alone h = by_brace (is_brace b) refl
  where
    by_sign : (v : Bool) → is_brace b ≡ true → begins_with b t ≡ false → (b == 123) ≡ v
        → Front names (b ∷ t) (longer mode c (b ∷ t) s)
    by_sign true e q o = absurd (false≢true (sym alone
        ∙ (ap (λ v. v && not (begins_with 123 t)) o
        ∙ ap not (ap (λ d. begins_with d t) (sym (eqb-true b 123 o)) ∙ q))))
    by_sign false e q o =
        let closing : (b == 125) ≡ true = elim (or_cases (b == 123) (b == 125) e) [
          | inl k ↦ absurd (false≢true (sym o ∙ k))
          | inr k ↦ k
        ] in
        rw (e, q, o) (front-unmatched names (b ∷ t) [] b (UnmatchedBrace (over_first (b ∷ t))) s
        closing)

    by_double : (v : Bool) → is_brace b ≡ true → begins_with b t ≡ v
        → Front names (b ∷ t) (longer mode c (b ∷ t) s)
    by_double true e q =
        let k = rw (e, q) at h in
        rw (e, q) (front-doubled names (b ∷ t) _ (front is_no_brace (after_first t)) (b ∷ []) s b k)
    by_double false e q = by_sign (b == 123) e q refl

    by_brace : (v : Bool) → is_brace b ≡ v → Front names (b ∷ t) (longer mode c (b ∷ t) s)
    by_brace true e = by_double (begins_with b t) e refl
    by_brace false e =
        let k = rw e at h in
        rw e (front-run names (b ∷ t) _ (front is_no_brace t) b s k)

-- A section that an opening brace begins.
pub record Opened (names : Bool) (s : Section) : Type 0 where
  pub marks : has_mark (marked_tokens names false s.tokens) ≡ has_fault s.faults
  pub text : Text
  pub others : List Label
  pub begins : s.tokens ≡ (OpenBrace, text) ∷ others

-- The tokens after an opening brace and those of its field. The flag says that the brace is in
-- place.
open-marks : (names : Bool) (o : Text) (x ts : List Label) (m : Bool) → Inner names x m
    → has_mark (marked_tokens names false ((OpenBrace, o) ∷ (x ++ ts)))
    ≡ (let f = closes ts && (not names || has_argument (x ++ ts)) in
    is_mark (cond f OpenBrace Unexpected) || (m || has_mark (marked_tokens names f ts)))
unfolding role_of
open-marks names o x ts m h =
    ap (λ b. (let f = b && (not names || has_argument (x ++ ts)) in
    is_mark (cond f OpenBrace Unexpected) || has_mark (marked_tokens names f (x ++ ts))))
    (h.closing ts)
    ∙ ap (λ b. is_mark (cond (closes ts &&
    (not names || has_argument (x ++ ts))) OpenBrace Unexpected)
    || b) (h.passes (closes ts && (not names || has_argument (x ++ ts))) ts)

-- Where a brace closes the placeholder.
fault-decides : (fs : List (Fault Span)) (g m : Bool) → (fs ≡ [] → (g ≡ true) × (m ≡ false))
    → (g ≡ true → m ≡ false → fs ≡ []) → has_fault fs ≡ (not g || m)
fault-decides [] g m h k = let (e, f) = h refl in rw (e, f) refl
fault-decides (x ∷ fs) true true h k = refl
fault-decides (x ∷ fs) true false h k = let none = k refl refl in absurd (cc none)
fault-decides (x ∷ fs) false m h k = refl

weigh : (g m s : Bool) → (is_mark (cond g OpenBrace Unexpected)
    || (m || (is_mark (cond g CloseBrace Unexpected) || s))) ≡ ((not g || m) || s)
unfolding is_mark
weigh true true s = refl
weigh true false s = refl
weigh false m s = refl

wanted : (b n : Bool) → (not b || n) ≡ true → IsTrue b → n ≡ true
wanted true n h e = h
wanted false n h e = absurd (false≢true e)

either : (b n : Bool) → (IsTrue b → n ≡ true) → (not b || n) ≡ true
either true n h = h refl
either false n h = refl

closed-faults : (mode : Mode) (t : Text) (ts : List Label) → has_argument ts ≡ false
    → begins_with 125 (after_white (cut mode t).rest) ≡ true
    → (let a = cut mode t in let space = front is_whitespace a.rest in
    has_fault (cut_faults mode a)
    ≡ (not (not (wants_names mode)
    || has_argument ((field_tokens a.field ++ token Whitespace space) ++ ts))
    || (field_mark (wants_names mode) a.field || false)))
closed-faults mode t ts none q =
    let a = cut mode t in
    let space = front is_whitespace a.rest in
    let names = wants_names mode in
    fault-decides (cut_faults mode a) _ _
    (λ e. let (m, given) = field-clean mode a.field (cut-sound mode t) (cut_clean mode t e) in (
      either names _ (λ yes. ap has_argument (append_assoc (field_tokens a.field)
          (token Whitespace space) ts) ∙ given yes _),
      or_from (field_mark names a.field) false m refl,
    ))
    (λ g m. cut_faultless mode t (after_first (after_white a.rest))
    (clean-field mode a.field space ts (cut-sound mode t) (or-left _ _ m) none
    (wanted names _ g))
    (cut_first 125 (after_white a.rest) q))

closed-marks : (mode : Mode) (t : Text) (s : Section)
    → begins_with 125 (after_white (cut mode t).rest) ≡ true
    → Front (wants_names mode) (after_first (after_white (cut mode t).rest)) s
    → Opened (wants_names mode) (record {
      faults = cut_faults mode (cut mode t) ++ s.faults;
      tokens = piece_tokens (PlaceholderText (cut mode t).field
          (front is_whitespace (cut mode t).rest)) ++ s.tokens;
    })
unfolding role_of
closed-marks mode t s q h =
    let a = cut mode t in
    let names = wants_names mode in
    let space = front is_whitespace a.rest in
    let x = field_tokens a.field ++ token Whitespace space in
    let ts = (CloseBrace, codes "}") ∷ s.tokens in
    let shape : (x ++ ((CloseBrace, codes "}") ∷ [])) ++ s.tokens ≡ x ++ ts =
    append_assoc x ((CloseBrace, codes "}") ∷ []) s.tokens in
    let g = not names || has_argument (x ++ ts) in
    let m = field_mark names a.field || false in record {
      marks = ap (λ l. has_mark (marked_tokens names false ((OpenBrace, codes "{") ∷ l))) shape
          ∙ (open-marks names (codes "{") x ts m (field-inner names a.field space)
          ∙ (weigh g m (has_mark (marked_tokens names false s.tokens))
          ∙ (ap (λ b. b || has_mark (marked_tokens names false s.tokens))
          (sym (closed-faults mode t ts refl q))
          ∙ (ap (λ b. has_fault (cut_faults mode a) || b) h.marks
          ∙ sym (fault-append (cut_faults mode a) s.faults)))));
      text = codes "{";
      others = (x ++ ((CloseBrace, codes "}") ∷ [])) ++ s.tokens;
      begins = refl;
    }

-- Where none does, what is read in its place has a mark, or what follows has, or the brace itself.
skipped-marked : (names : Bool) (ts : List Label) (c : ℕ) (u : Text) → (c == 125) ≡ false
    → has_mark (marked_tokens names true (skipped_tokens (c ∷ u) ++ ts)) ≡ true
unfolding is_mark role_of
skipped-marked names ts c [] e = rw e refl
skipped-marked names ts c (d ∷ u) e =
    let few : length (c ∷ d ∷ u) - 1 ≡ suc (length u) = omega arith in
    cond_both (is_closed (d ∷ u))
    (token Unexpected (take (length (c ∷ d ∷ u) - 1) (c ∷ d ∷ u)) ++ token CloseBrace (codes "}"))
    (token Unexpected (c ∷ d ∷ u)) (λ l. has_mark (marked_tokens names true (l ++ ts)) ≡ true)
    (λ q. ap (λ n. has_mark (marked_tokens names true ((token Unexpected (take n (c ∷ d ∷ u))
    ++ token CloseBrace (codes "}")) ++ ts))) few)
    (λ q. refl)

skipped-inside : (names : Bool) (r : Text) (s : Section) (u k : Text)
    → begins_with 125 r ≡ false → r ≡ u ++ k → Front names k s
    → closes (skipped_tokens u ++ s.tokens) ≡ true
    → has_mark (marked_tokens names true (skipped_tokens u ++ s.tokens)) ≡ true
skipped-inside names r s [] k q e h closing =
    h.inside (sym (ap (begins_with 125) e) ∙ q) closing
skipped-inside names r s (c ∷ u) k q e h closing =
    skipped-marked names s.tokens c u (sym (ap (begins_with 125) e) ∙ q)

left-open : (f m s : Bool) → (f ≡ true → s ≡ true)
    → (is_mark (cond f OpenBrace Unexpected) || (m || s)) ≡ true
unfolding is_mark
left-open true true s h = refl
left-open true false s h = h refl
left-open false m s h = refl

pub and-left : (a b : Bool) → (a && b) ≡ true → a ≡ true
and-left true b e = refl
and-left false b e = e

unclosed-marks : (mode : Mode) (t k : Text) (fs : List (Fault Span)) (f : Fault Span) (s : Section)
    → begins_with 125 (after_white (cut mode t).rest) ≡ false
    → after_white (cut mode t).rest ≡ up_to_rest (after_white (cut mode t).rest) k ++ k
    → Front (wants_names mode) k s
    → Opened (wants_names mode) (record {
      faults = (cut_faults mode (cut mode t) ++ f ∷ fs) ++ s.faults;
      tokens = (opened_tokens (cut mode t).field (front is_whitespace (cut mode t).rest)
          ++ skipped_tokens (up_to_rest (after_white (cut mode t).rest) k)) ++ s.tokens;
    })
unclosed-marks mode t k fs f s q e h =
    let a = cut mode t in
    let names = wants_names mode in
    let space = front is_whitespace a.rest in
    let x = field_tokens a.field ++ token Whitespace space in
    let r = after_white a.rest in
    let ls = skipped_tokens (up_to_rest r k) in
    let ts = ls ++ s.tokens in
    let g = closes ts && (not names || has_argument (x ++ ts)) in
    let m = field_mark names a.field || false in record {
      marks = ap (λ l. has_mark (marked_tokens names false ((OpenBrace, codes "{") ∷ l)))
          (append_assoc x ls s.tokens)
          ∙ (open-marks names (codes "{") x ts m (field-inner names a.field space)
          ∙ (left-open g m (has_mark (marked_tokens names g ts))
          (λ yes. ap (λ b. has_mark (marked_tokens names b ts)) yes
          ∙ skipped-inside names r s (up_to_rest r k) k q e h (and-left (closes ts) _ yes))
          ∙ sym (fault-within (cut_faults mode a) fs s.faults f)));
      text = codes "{";
      others = (x ++ ls) ++ s.tokens;
      begins = refl;
    }

placeholder-marks : (mode : Mode) (c : ℕ) (o t : Text) (s : Section)
    → Front (wants_names mode) (placeholder mode c o t).rest s
    → Opened (wants_names mode) (record {
      faults = (placeholder mode c o t).faults ++ s.faults;
      tokens = placeholder_tokens mode t (placeholder mode c o t).rest ++ s.tokens;
    })
unfolding placeholder placeholder_tokens
placeholder-marks mode c o t s h = by_brace (begins_with 125 (after_white (cut mode t).rest)) refl
  where
    by_brace : (v : Bool) → begins_with 125 (after_white (cut mode t).rest) ≡ v
        → Opened (wants_names mode) (record {
          faults = (placeholder mode c o t).faults ++ s.faults;
          tokens = placeholder_tokens mode t (placeholder mode c o t).rest ++ s.tokens;
        })
    by_brace true q = let k = rw q at h in rw q (closed-marks mode t s q k)
    by_brace false q =
        let k = rw q at h in
        rw q (unclosed-marks mode t _ _ _ s q (take-rest (after_white (cut mode t).rest) _
        (recovery_rest mode _ o _ (after_white (cut mode t).rest))) k)

pub opened-call : (mode : Mode) (c b : ℕ) (t : Text) (s : Section) → opens (b ∷ t) ≡ true
    → Front (wants_names mode) (call mode c (b ∷ t)).rest s
    → Opened (wants_names mode) (longer mode c (b ∷ t) s)
unfolding call call_tokens
opened-call mode c b t s e h = by_letter b (eqb-true b 123 (and-left (b == 123) _ e)) e h
  where
    alone : (v : Bool) → not v ≡ true → v ≡ false
    alone true n = sym n
    alone false n = refl

    by_letter : (d : ℕ) → d ≡ 123 → opens (d ∷ t) ≡ true
        → Front (wants_names mode) (call mode c (d ∷ t)).rest s
        → Opened (wants_names mode) (longer mode c (d ∷ t) s)
    by_letter d same = rw same (λ one front.
        let q = alone (begins_with 123 t) one in
        let k = rw q at front in
        rw q (placeholder-marks mode c (123 ∷ t) t s k))
