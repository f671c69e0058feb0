-- Where an appended newline is left out, a mark is left.
use Rattle.std.proofs.Common.{◌≡◌, ℕ, suc, zero, ◌++◌, ◌-◌, ◌≤◌, ◌<◌, ◌==◌, Bool, true, false, cond}
use Rattle.std.proofs.Common.{◌+◌, List, [], ◌∷◌, length, take, refl, sym, ap, ◌∙◌, arith, codes}
use Rattle.std.proofs.Common.{append_assoc, append-nil, inl, inr, length-append, take_all}
use Rattle.std.proofs.Math.Path.{subst}
use Rattle.std.specs.Prelude.{◌&&◌, ◌||◌, not}
use Rattle.std.specs.Char.{is_whitespace}
use Rattle.std.proofs.lemmas.Bool.{cond_both, eqb-true, false_from_ne_true, false≢true, or_cases}
use Rattle.std.proofs.lemmas.List.{length-take}
use Rattle.std.proofs.lemmas.List.Folds.{list_any-append}
use Rattle.rustc_parse_format.specs.Call.{call}
use Rattle.rustc_parse_format.specs.Characters.{Text, after_first, after_white, begins_with, front}
use Rattle.rustc_parse_format.specs.Characters.{is_brace, is_no_brace}
use Rattle.rustc_parse_format.specs.Placeholder.{cut}
use Rattle.rustc_parse_format.specs.Source.{unappended_input}
use Rattle.rustc_parse_format.specs.Syntax.{FieldText}
use Rattle.rustc_parse_format.specs.Types.{Mode, wants_names}
use Rattle.format_tokens.specs.declared.culprits.Role.{Role}
use Rattle.format_tokens.specs.declared.culprits.Role.TheVariants.{OpenBrace, CloseBrace}
use Rattle.format_tokens.specs.declared.culprits.Role.TheVariants.{Text as TextRole}
use Rattle.format_tokens.specs.declared.culprits.Role.TheVariants.{Name, Number, Message, Other}
use Rattle.format_tokens.specs.declared.kinds.Kind.{Kind}
use Rattle.format_tokens.specs.declared.kinds.Kind.TheVariants.{CloseBrace as CloseKind}
use Rattle.format_tokens.specs.declared.kinds.Kind.TheVariants.{EscapedBrace}
use Rattle.format_tokens.specs.declared.kinds.Kind.TheVariants.{OpenBrace as OpenKind, Unexpected}
use Rattle.format_tokens.specs.declared.kinds.Kind.TheVariants.{Text as TextKind, Whitespace}
use Rattle.format_tokens.specs.Culprits.{closes, closes_or, fits, has_argument, inside_after}
use Rattle.format_tokens.specs.Culprits.{marked_tokens, role_of}
use Rattle.format_tokens.specs.Spans.{input_tokens, first_tokens}
use Rattle.format_tokens.specs.Sections.{HasAppended, faults_of, has_fault, has_mark, is_mark}
use Rattle.format_tokens.specs.Tokens.{Label, field_tokens, joined_text, opened_tokens, token}
use Rattle.format_tokens.specs.Walk.{call_tokens, is_closed, placeholder_tokens, read_tokens}
use Rattle.format_tokens.specs.Walk.{skipped_tokens, tokens_of, tokens_within, up_to_rest}
use Rattle.format_tokens.proofs.CallMarks.{and-left}
use Rattle.format_tokens.proofs.Covering.{AreSome}
use Rattle.format_tokens.proofs.FieldMarks.{field-inner}
use Rattle.format_tokens.proofs.Joining.{joined-append, read-joined, tokens-joined}
use Rattle.format_tokens.proofs.Sectioning.{text-marks}
use Rattle.format_tokens.proofs.SomeTokens.{some-within}

-- The last tokens of a text: text, a closing brace, or an opening one that nothing closes.
data Ends (ls : List Label) : Type 0 where
  Nothing : ls ≡ [] → Ends ls
  InText : (xs : List Label) (k : Kind) (v : Text) → ls ≡ xs ++ (k, v) ∷ []
      → role_of k ≡ TextRole → is_mark k ≡ false → Ends ls
  InClose : (xs : List Label) → ls ≡ xs ++ (CloseKind, codes "}") ∷ [] → Ends ls
  InOpen : (xs ys : List Label) → ls ≡ xs ++ (OpenKind, codes "{") ∷ ys → closes ys ≡ false
      → Ends ls

ends-append : (zs ls : List Label) → Ends zs → Ends ls → Ends (zs ++ ls)
ends-append zs ls h (Nothing e) =
    subst Ends (sym (append-nil zs) ∙ ap (λ l. zs ++ l) (sym e)) h
ends-append zs ls h (InText xs k v e r m) =
    InText (zs ++ xs) k v (ap (λ l. zs ++ l) e ∙ sym (append_assoc zs xs ((k, v) ∷ []))) r m
ends-append zs ls h (InClose xs e) =
    InClose (zs ++ xs) (ap (λ l. zs ++ l) e
    ∙ sym (append_assoc zs xs ((CloseKind, codes "}") ∷ [])))
ends-append zs ls h (InOpen xs ys e c) =
    InOpen (zs ++ xs) ys (ap (λ l. zs ++ l) e
    ∙ sym (append_assoc zs xs ((OpenKind, codes "{") ∷ ys))) c

skipped-closes : (u : Text) → closes (token Unexpected u) ≡ false
unfolding role_of
skipped-closes [] = refl
skipped-closes (c ∷ u) = refl

opened-ends : (a : FieldText) (space u : Text) → Ends (opened_tokens a space ++ skipped_tokens u)
opened-ends a space u = cond_both (is_closed u)
    (token Unexpected (take (length u - 1) u) ++ token CloseKind (codes "}")) (token Unexpected u)
    (λ l. Ends (opened_tokens a space ++ l))
    (λ e. InClose (opened_tokens a space ++ token Unexpected (take (length u - 1) u))
    (sym (append_assoc (opened_tokens a space) (token Unexpected (take (length u - 1) u))
    ((CloseKind, codes "}") ∷ []))))
    (λ e. InOpen [] ((field_tokens a ++ token Whitespace space) ++ token Unexpected u) refl
    ((field-inner false a space).closing (token Unexpected u) ∙ skipped-closes u))

placeholder-ends : (mode : Mode) (t s : Text) → Ends (placeholder_tokens mode t s)
unfolding placeholder_tokens
placeholder-ends mode t s =
    let a = cut mode t in
    let space = front is_whitespace a.rest in
    let r = after_white a.rest in
    cond_both {A = List Label} (begins_with 125 r) _ _ Ends
    (λ e. InClose (opened_tokens a.field space) refl)
    (λ e. opened-ends a.field space (up_to_rest r s))

text-ends : (b : ℕ) (u : Text) → Ends (token EscapedBrace (b ∷ b ∷ []) ++ token TextKind u)
unfolding role_of is_mark
text-ends b [] = InText [] EscapedBrace (b ∷ b ∷ []) refl refl refl
text-ends b (c ∷ u) = InText ((EscapedBrace, b ∷ b ∷ []) ∷ []) TextKind (c ∷ u) refl refl refl

run-ends : (b : ℕ) (u : Text) → Ends (token TextKind (b ∷ u))
unfolding role_of is_mark
run-ends b u = InText [] TextKind (b ∷ u) refl refl refl

call-ends : (mode : Mode) (t s : Text) → Ends (call_tokens mode t s)
unfolding call_tokens
call-ends mode [] s = Nothing refl
call-ends mode (b ∷ t) s =
    cond_both {A = List Label} (is_brace b) _ _ Ends
    (λ e. cond_both {A = List Label} (begins_with b t) _ _ Ends
    (λ q. text-ends b (front is_no_brace (after_first t)))
    (λ q. cond_both {A = List Label} (b == 123) _ _ Ends (λ o. placeholder-ends mode t s)
    (λ o. InClose [] (ap (λ d. (CloseKind, d ∷ []) ∷ []) (closing e o)))))
    (λ e. cond_both {A = Text} (is_no_brace b) (b ∷ front is_no_brace t) []
    (λ u. Ends (token TextKind u)) (λ q. run-ends b (front is_no_brace t)) (λ q. Nothing refl))
  where
    closing : is_brace b ≡ true → (b == 123) ≡ false → b ≡ 125
    closing e o = elim (or_cases (b == 123) (b == 125) e) [
      | inl k ↦ absurd (false≢true (sym o ∙ k))
      | inr k ↦ eqb-true b 125 k
    ]

all-ends : (n : ℕ) (mode : Mode) (c : ℕ) (t : Text) → Ends (tokens_within n mode c t)
all-ends zero mode c t = Nothing refl
all-ends (suc n) mode c [] = Nothing refl
all-ends (suc n) mode c (b ∷ t) =
    let k = call mode c (b ∷ t) in
    ends-append (call_tokens mode (b ∷ t) k.rest) _ (call-ends mode (b ∷ t) k.rest)
    (all-ends n mode k.next k.rest)

-- Tokens in front of others, as they are marked.
record Split (names i : Bool) (x y : List Label) : Type 0 where
  before : List Label
  inside : Bool
  whole : marked_tokens names i (x ++ y) ≡ before ++ marked_tokens names inside y
  text : joined_text before ≡ joined_text x
  some : AreSome x → AreSome before
  -- Inside a pair of braces its closing one follows.
  waits : (i ≡ true → closes (x ++ y) ≡ true) → inside ≡ true → closes y ≡ true

waiting : (names i : Bool) (ts : List Label) (r : Role)
    → (i ≡ true → closes_or (closes ts) r ≡ true)
    → inside_after i (fits names i ts r) r ≡ true → closes ts ≡ true
waiting names i ts OpenBrace h e = and-left (closes ts) _ e
waiting names i ts CloseBrace h e = absurd (false≢true e)
waiting names i ts TextRole h e = h e
waiting names i ts Name h e = h e
waiting names i ts Number h e = h e
waiting names i ts Message h e = h e
waiting names i ts Other h e = h e

split : (names i : Bool) (x y : List Label) → Split names i x y
split names i [] y = record {
  before = [];
  inside = i;
  whole = refl;
  text = refl;
  some = λ h. h;
  waits = λ h. h;
}
split names i (l ∷ x) y =
    let f = fits names i (x ++ y) (role_of l.0) in
    let s = split names (inside_after i f (role_of l.0)) x y in record {
      before = (cond f l.0 Unexpected, l.1) ∷ s.before;
      inside = s.inside;
      whole = ap (λ ts. (cond f l.0 Unexpected, l.1) ∷ ts) s.whole;
      text = ap (λ t. l.1 ++ t) s.text;
      some = λ h. (h.0, s.some h.1);
      waits = λ h. s.waits (waiting names i (x ++ y) (role_of l.0) h);
    }

-- The tokens of the first characters.
token-some : (k : Kind) (u : Text) → 0 < length u → token k u ≡ (k, u) ∷ []
token-some k [] h = absurd (omega (arith, h))
token-some k (c ∷ u) h = refl

within-append : (n : ℕ) (x y : List Label) → AreSome x → length (joined_text x) ≤ n
    → first_tokens n (x ++ y) ≡ x ++ first_tokens (n - length (joined_text x)) y
within-append n [] y h k =
    let e : n ≡ n - 0 = omega arith in
    ap (λ m. first_tokens m y) e
within-append n (l ∷ x) y h k =
    let size = length-append l.1 (joined_text x) in
    let less : n - length l.1 - length (joined_text x) ≡ n - length (joined_text (l ∷ x)) =
    omega (arith, size) in
    ap (λ u. token l.0 u ++ first_tokens (n - length l.1) (x ++ y))
    (take_all n l.1 (omega (arith, size, k)))
    ∙ ap (λ ts. ts ++ first_tokens (n - length l.1) (x ++ y)) (token-some l.0 l.1 h.0)
    ∙ ap (λ ts. l ∷ ts) (within-append (n - length l.1) x y h.1 (omega (arith, size, k))
    ∙ ap (λ m. x ++ first_tokens m y) less)

within-all : (n : ℕ) (x : List Label) → AreSome x → length (joined_text x) ≤ n
    → first_tokens n x ≡ x
within-all n x h k =
    ap (first_tokens n) (sym (append-nil x)) ∙ within-append n x [] h k ∙ append-nil x

-- The last character of a text.
last_of : Text → ℕ
last_of [] = 0
last_of (c ∷ []) = c
last_of (c ∷ d ∷ t) = last_of (d ∷ t)

last-append : (t : Text) (c : ℕ) → last_of (t ++ c ∷ []) ≡ c
unfolding last_of
last-append [] c = refl
last-append (b ∷ []) c = refl
last-append (b ∷ d ∷ t) c = last-append (d ∷ t) c

same-last : (t u : Text) (c d : ℕ) → t ++ c ∷ [] ≡ u ++ d ∷ [] → c ≡ d
same-last t u c d e = sym (last-append t c) ∙ ap last_of e ∙ last-append u d

mark-there : (x y : List Label) (k : Kind) (u : Text) → is_mark k ≡ true
    → has_mark (x ++ (k, u) ∷ y) ≡ true
mark-there [] y k u e = ap (λ b. b || has_mark y) e
mark-there (l ∷ x) y k u e =
    ap (λ b. is_mark l.0 || b) (mark-there x y k u e) ∙ either (is_mark l.0)
  where
    either : (b : Bool) → (b || true) ≡ true
    either true = refl
    either false = refl

mark-before : (x y : List Label) → has_mark y ≡ false → has_mark (x ++ y) ≡ has_mark x
mark-before x y e = list_any-append (λ (l : Label). is_mark l.0) x y
    ∙ ap (λ b. has_mark x || b) e ∙ neither (has_mark x)
  where
    neither : (b : Bool) → (b || false) ≡ b
    neither true = refl
    neither false = refl

token-unmarked : (k : Kind) (u : Text) → is_mark k ≡ false → has_mark (token k u) ≡ false
token-unmarked k [] e = refl
token-unmarked k (c ∷ u) e = ap (λ b. b || false) e

unexpected-mark : is_mark Unexpected ≡ true
unfolding is_mark
unexpected-mark = refl

-- An opening brace that nothing closes is marked.
open-shape : (names : Bool) (xs ys : List Label) → closes ys ≡ false
    → marked_tokens names false (xs ++ (OpenKind, codes "{") ∷ ys)
    ≡ (split names false xs ((OpenKind, codes "{") ∷ ys)).before
    ++ (Unexpected, codes "{") ∷ marked_tokens names false ys
unfolding role_of
open-shape names xs ys c =
    let s = split names false xs ((OpenKind, codes "{") ∷ ys) in
    s.whole ∙ ap (λ b. s.before
    ++ (cond (b && (not names || has_argument ys)) OpenKind Unexpected, codes "{")
    ∷ marked_tokens names (b && (not names || has_argument ys)) ys) c

after-brace : (x y t : Text) → x ++ (codes "{" ++ y) ≡ t ++ 10 ∷ [] → length x + 1 ≤ length t
after-brace x [] t e =
    let no : ◌≡◌ {A = ℕ} 123 10 = same-last x t 123 10 e in
    absurd (omega (arith, no))
after-brace x (c ∷ y) t e = omega (
  arith,
  ap length e,
  length-append x (codes "{" ++ c ∷ y),
  length-append t (10 ∷ []),
)

open-last : (names : Bool) (xs ys : List Label) (t : Text) → AreSome xs → closes ys ≡ false
    → joined_text (xs ++ (OpenKind, codes "{") ∷ ys) ≡ t ++ 10 ∷ []
    → has_mark (first_tokens (length t) (marked_tokens names false
    (xs ++ (OpenKind, codes "{") ∷ ys)))
    ≡ has_mark (marked_tokens names false (xs ++ (OpenKind, codes "{") ∷ ys))
open-last names xs ys t h c e =
    let s = split names false xs ((OpenKind, codes "{") ∷ ys) in
    let others = marked_tokens names false ys in
    let fits = after-brace (joined_text xs) (joined_text ys) t
    (sym (joined-append xs ((OpenKind, codes "{") ∷ ys)) ∙ e) in
    let size = ap length s.text in
    let m = length t - length (joined_text s.before) in
    ap (λ l. has_mark (first_tokens (length t) l)) (open-shape names xs ys c)
    ∙ ap has_mark (within-append (length t) s.before ((Unexpected, codes "{") ∷ others) (s.some h)
    (omega (arith, fits, size))
    ∙ ap (λ u. s.before ++ (token Unexpected u ++ first_tokens (m - 1) others))
    (take_all m (codes "{") (omega (arith, fits, size))))
    ∙ mark-there s.before (first_tokens (m - 1) others) Unexpected (codes "{") unexpected-mark
    ∙ sym (ap has_mark (open-shape names xs ys c)
    ∙ mark-there s.before others Unexpected (codes "{") unexpected-mark)

-- Text at the end is not.
text-shape : (names : Bool) (xs : List Label) (k : Kind) (v : Text) → role_of k ≡ TextRole
    → marked_tokens names false (xs ++ (k, v) ∷ [])
    ≡ (split names false xs ((k, v) ∷ [])).before ++ (k, v) ∷ []
text-shape names xs k v r =
    let s = split names false xs ((k, v) ∷ []) in
    let out : s.inside ≡ false = false_from_ne_true s.inside (λ q.
    false≢true (sym (ap (closes_or false) r)
    ∙ s.waits (λ e. absurd (false≢true e)) q)) in
    s.whole ∙ ap (λ b. s.before ++ marked_tokens names b ((k, v) ∷ [])) out
    ∙ ap (λ x. s.before ++ (cond (fits {A = Text} names false [] x) k Unexpected, v) ∷ []) r

text-last : (names : Bool) (xs : List Label) (k : Kind) (v t : Text) → AreSome xs → 0 < length v
    → role_of k ≡ TextRole → is_mark k ≡ false → joined_text (xs ++ (k, v) ∷ []) ≡ t ++ 10 ∷ []
    → has_mark (first_tokens (length t) (marked_tokens names false (xs ++ (k, v) ∷ [])))
    ≡ has_mark (marked_tokens names false (xs ++ (k, v) ∷ []))
text-last names xs k v t h some r m e =
    let s = split names false xs ((k, v) ∷ []) in
    let size : length (joined_text s.before) ≤ length t = omega (
      arith,
      ap length e,
      ap length (joined-append xs ((k, v) ∷ [])),
      length-append (joined_text xs) (joined_text ((k, v) ∷ [])),
      length-append v [],
      length-append t (10 ∷ []),
      some,
      ap length s.text,
    ) in
    let n = length t - length (joined_text s.before) in
    ap (λ l. has_mark (first_tokens (length t) l)) (text-shape names xs k v r)
    ∙ ap has_mark (within-append (length t) s.before ((k, v) ∷ []) (s.some h) size
    ∙ ap (λ l. s.before ++ l) (append-nil (token k (take n v))))
    ∙ mark-before s.before (token k (take n v)) (token-unmarked k (take n v) m)
    ∙ sym (ap has_mark (text-shape names xs k v r)
    ∙ mark-before s.before ((k, v) ∷ []) (ap (λ b. b || false) m))

some-left : (x y : List Label) → AreSome (x ++ y) → AreSome x
some-left [] y h = tt
some-left (l ∷ x) y h = (h.0, some-left x y h.1)

some-right : (x y : List Label) → AreSome (x ++ y) → AreSome y
some-right [] y h = h
some-right (l ∷ x) y h = some-right x y h.1

last-marks : (names : Bool) (ls : List Label) (t : Text) → Ends ls → AreSome ls
    → joined_text ls ≡ t ++ 10 ∷ []
    → has_mark (first_tokens (length t) (marked_tokens names false ls))
    ≡ has_mark (marked_tokens names false ls)
last-marks names ls t (Nothing e) h k = absurd (omega (
  arith,
  ap length (sym (ap joined_text e) ∙ k),
  length-append t (10 ∷ []),
))
last-marks names ls t (InText xs k v e r m) h j =
    let all = subst AreSome e h in
    subst (λ l. has_mark (first_tokens (length t) (marked_tokens names false l))
    ≡ has_mark (marked_tokens names false l)) (sym e)
    (text-last names xs k v t (some-left xs ((k, v) ∷ []) all)
    (some-right xs ((k, v) ∷ []) all).0 r m (sym (ap joined_text e) ∙ j))
last-marks names ls t (InClose xs e) h j =
    let no : ◌≡◌ {A = ℕ} 125 10 = same-last (joined_text xs) t 125 10
    (sym (ap joined_text e ∙ joined-append xs ((CloseKind, codes "}") ∷ [])) ∙ j) in
    absurd (omega (arith, no))
last-marks names ls t (InOpen xs ys e c) h j =
    subst (λ l. has_mark (first_tokens (length t) (marked_tokens names false l))
    ≡ has_mark (marked_tokens names false l)) (sym e)
    (open-last names xs ys t (some-left xs ((OpenKind, codes "{") ∷ ys) (subst AreSome e h)) c
    (sym (ap joined_text e) ∙ j))

marked-some : (names : Bool) (ls : List Label) (i : Bool) → AreSome ls
    → AreSome (marked_tokens names i ls)
marked-some names [] i h = tt
marked-some names (l ∷ ls) i h = (
  h.0,
  marked-some names ls (inside_after i (fits names i ls (role_of l.0)) (role_of l.0)) h.1,
)

tokens-some : (mode : Mode) (t : Text) → AreSome (tokens_of mode t)
unfolding read_tokens
tokens-some mode t = marked-some (wants_names mode) (tokens_within (length t) mode 0 t) false
    (some-within (length t) mode 0 t)

-- So a text has a mark among the tokens that are shown exactly if it has a fault.
pub shown-marks : (mode : Mode) (input : Text) (appended : Bool) → HasAppended appended input
    → has_mark (input_tokens mode input appended) ≡ has_fault (faults_of mode input)
unfolding read_tokens
shown-marks mode input false h =
    ap has_mark (within-all (length input) (tokens_of mode input) (tokens-some mode input)
    (omega (arith, ap length (tokens-joined mode input)))) ∙ text-marks mode input
shown-marks mode input true (t, e) =
    let ls = tokens_within (length input) mode 0 input in
    let n : length (unappended_input true input) ≡ length t = omega (
      arith,
      length-take (length input - 1) input,
      ap length e,
      length-append t (10 ∷ []),
    ) in
    ap (λ k. has_mark (first_tokens k (tokens_of mode input))) n
    ∙ last-marks (wants_names mode) ls t (all-ends (length input) mode 0 input)
    (some-within (length input) mode 0 input) (read-joined mode input ∙ e)
    ∙ text-marks mode input
