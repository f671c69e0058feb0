-- The first token of a text, by its first character.
use Rattle.std.proofs.Common.{◌≡◌, ◌<◌, ℕ, Bool, true, false, List, [], ◌∷◌, Some, None, refl, ap}
use Rattle.std.proofs.Common.{sym, ◌∙◌, arith, length, get_or, drop, chars, IsUtf8}
use Rattle.std.proofs.lemmas.Bool.{and_parts, cond-false, eqb-true, or_parts}
use Rattle.std.proofs.lemmas.Bool.{false_from_ne_true, false≢true}
use Rattle.std.proofs.lemmas.Str.{IsCharBoundary-after_ascii}
use Rattle.unicode_ident.proofs.IdentLemmas.{is_xid_continue-ascii}
use Rattle.std.proofs.lemmas.Bool.Decides.{nat_tests}
use Rattle.std.proofs.lemmas.Option.{none-some, some_pair_parts}
use Rattle.std.specs.Prelude.{Option, ◌==◌, ◌&&◌, ◌||◌, nat_lt, not}
use Rattle.std.specs.Char.{is_ascii_alphabetic}
use Rattle.rust_tokens.specs.declared.kinds.Kind.TheVariants.{Whitespace, Ident, Punct}
use Rattle.rust_tokens.specs.declared.openings.Opening.{Opening}
use Rattle.rust_tokens.specs.Texts.{Text, split_first}
use Rattle.rust_tokens.specs.Runs.{rest_after, is_digit, is_id_continue, is_id_start, is_punct}
use Rattle.rust_tokens.specs.Runs.{is_space}
use Rattle.rust_tokens.specs.Bytes.{begins_word, is_ascii_in, is_plain_start}
use Rattle.rust_tokens.specs.Bytes.{is_prefix_letter, is_sign}
use Rattle.rust_tokens.specs.Openings.{first_opening}
use Rattle.rust_tokens.specs.First.{Body, by_opening, first_of, first_plain}
use Rattle.rust_tokens.proofs.AsciiRuns.{ascii-first, ascii-next}
use Rattle.rust_tokens.proofs.Basics.{not_false}
use Rattle.rust_tokens.proofs.Classes.{apart, no_space, punct-no_digit, punct-space}
use Rattle.rust_tokens.proofs.Classes.{punct-starts, start_at, starts-go_on, starts-quote}
use Rattle.rust_tokens.proofs.Classes.{goes_on-hash, goes_on-quote, goes_on-tick, starts-b}
use Rattle.rust_tokens.proofs.Classes.{starts-c, starts-r}

split-cons : (t r : Text) (c : ℕ) → Some (c, r) ≡ split_first t → t ≡ c ∷ r
split-cons [] r c h = absurd (none-some (c, r) (sym h))
split-cons (d ∷ t) r c h =
    let e = some_pair_parts c d r t h in
    rw (e.0, e.1) refl

by-opening : (t r : Text) (c : ℕ) (o : Option (Opening × Text)) → Some (c, r) ≡ split_first t
    → is_space c ≡ false → o ≡ first_opening t → Some (by_opening c r o) ≡ first_of t
by-opening t r c o h s f =
    let e = split-cons t r c h in
    ap (λ x. Some x) (ap (λ o. by_opening c r o) (f ∙ ap (λ x. first_opening x) e)
    ∙ sym (cond-false (is_space c) _ _ s)) ∙ sym (ap (λ x. first_of x) e)

-- The same where an opening is found.
pub first-opened : (t r u : Text) (c : ℕ) (o : Opening) (b : Body) → Some (c, r) ≡ split_first t
    → is_space c ≡ false → Some (o, u) ≡ first_opening t
    → ((d : ℕ) (s : Text) → b ≡ by_opening d s (Some (o, u))) → Some b ≡ first_of t
first-opened t r u c o b h s f g =
    ap (λ x. Some x) (g c r) ∙ by-opening t r c (Some (o, u)) h s f

-- The same where none is.
pub first-unopened : (t r : Text) (c : ℕ) (b : Body) → Some (c, r) ≡ split_first t
    → is_space c ≡ false → None ≡ first_opening t → b ≡ first_plain c r → Some b ≡ first_of t
first-unopened t r c b h s f g = ap (λ x. Some x) g ∙ by-opening t r c None h s f

-- Tokens that their first byte shows: punctuation,
pub sign-small : (c : ℕ) → is_sign c ≡ true → c < 128
sign-small c y = grind arith

sign-first : (c : ℕ) (t : Text) → is_sign c ≡ true → Some (Punct, true, t) ≡ first_of (c ∷ t)
sign-first c t y =
    let h = and_parts (is_punct c) _ y in
    rw (
      punct-space c h.0,
      apart is_punct c 34 refl h.0,
      apart is_punct c 98 refl h.0,
      apart is_punct c 99 refl h.0,
      apart is_punct c 114 refl h.0,
      punct-starts c h.0,
      false_from_ne_true (is_digit c) (punct-no_digit c h.0),
      not_false (c == 47) h.1,
      apart is_punct c 39 refl h.0,
      h.0,
    ) refl

pub first-sign : (s : List ℕ) → IsUtf8 s → 0 < length s → is_sign (get_or s 0 0) ≡ true
    → Some (Punct, true, chars (drop 1 s)) ≡ first_of (chars s)
first-sign s u l y = sign-first (get_or s 0 0) _ y
    ∙ sym (ap (λ x. first_of x) (ascii-first s u l (sign-small _ y)))

-- white space,
space-first : (c : ℕ) (t : Text) → is_space c ≡ true
    → Some (Whitespace, true, rest_after is_space (c ∷ t)) ≡ first_of (c ∷ t)
space-first c t y = rw y refl

ascii-small : (p : ℕ → Bool) (c : ℕ) → is_ascii_in p c ≡ true → c < 128
ascii-small p c y = let h = and_parts (nat_lt c 128) (p c) y in grind (arith, nat_tests)

pub first-space : (s : List ℕ) → IsUtf8 s → 0 < length s
    → is_ascii_in is_space (get_or s 0 0) ≡ true
    → Some (Whitespace, true, rest_after is_space (chars s)) ≡ first_of (chars s)
first-space s u l y =
    let e = ascii-first s u l (ascii-small is_space _ y) in
    let c = get_or s 0 0 in
    rw e (space-first c (chars (drop 1 s)) (and_parts (nat_lt c 128) _ y).1)

-- and words.
plain-small : (c : ℕ) → is_plain_start c ≡ true → c < 128
plain-small c y = let h = and_parts (c == 95 || is_ascii_alphabetic c) _ y in grind arith

word-first : (c : ℕ) (t : Text) → is_plain_start c ≡ true
    → Some (Ident, true, rest_after is_id_continue (c ∷ t)) ≡ first_of (c ∷ t)
word-first c t y =
    let h = and_parts (c == 95 || is_ascii_alphabetic c) _ y in
    let start : is_id_start c ≡ true = start_at c (plain-small c y) ∙ h.0 in
    let no = or_parts (c == 98) _ (not_false _ h.1) in
    let others = or_parts (c == 99) _ no.1 in
    rw (
      no_space c start,
      apart is_id_start c 34 starts-quote start,
      no.0,
      others.0,
      others.1,
      start,
      starts-go_on c start,
    ) refl

prefix-b : (d : ℕ) (t : Text) → is_id_continue d ≡ true → (d == 114) ≡ false
    → Some (Ident, true, rest_after is_id_continue (98 ∷ d ∷ t)) ≡ first_of (98 ∷ d ∷ t)
prefix-b d t y n = rw (
  apart is_id_continue d 34 goes_on-quote y,
  apart is_id_continue d 39 goes_on-tick y,
  n,
  starts-b,
  starts-go_on 98 starts-b,
) refl

prefix-c : (d : ℕ) (t : Text) → is_id_continue d ≡ true → (d == 114) ≡ false
    → Some (Ident, true, rest_after is_id_continue (99 ∷ d ∷ t)) ≡ first_of (99 ∷ d ∷ t)
prefix-c d t y n = rw (
  apart is_id_continue d 34 goes_on-quote y,
  n,
  starts-c,
  starts-go_on 99 starts-c,
) refl

prefix-r : (d : ℕ) (t : Text) → is_id_continue d ≡ true
    → Some (Ident, true, rest_after is_id_continue (114 ∷ d ∷ t)) ≡ first_of (114 ∷ d ∷ t)
prefix-r d [] y = rw (
  apart is_id_continue d 35 goes_on-hash y,
  apart is_id_continue d 34 goes_on-quote y,
  starts-r,
  starts-go_on 114 starts-r,
) refl
prefix-r d (e ∷ t) y = rw (
  apart is_id_continue d 35 goes_on-hash y,
  apart is_id_continue d 34 goes_on-quote y,
  starts-r,
  starts-go_on 114 starts-r,
) refl

prefix-first : (c d : ℕ) (t : Text) → is_prefix_letter c ≡ true → is_id_continue d ≡ true
    → (d == 114) ≡ false
    → Some (Ident, true, rest_after is_id_continue (c ∷ d ∷ t)) ≡ first_of (c ∷ d ∷ t)
prefix-first c d t p y n = at (c == 98) (c == 99) refl refl p
  where
    at : (b k : Bool) → (c == 98) ≡ b → (c == 99) ≡ k → (b || (k || (c == 114))) ≡ true
        → Some (Ident, true, rest_after is_id_continue (c ∷ d ∷ t)) ≡ first_of (c ∷ d ∷ t)
    at true k e f p = rw (eqb-true c 98 e) (prefix-b d t y n)
    at false true e f p = rw (eqb-true c 99 f) (prefix-c d t y n)
    at false false e f p = rw (eqb-true c 114 p) (prefix-r d t y)

prefix-small : (c : ℕ) → is_prefix_letter c ≡ true → c < 128
prefix-small c y = grind arith

no_zero : is_ascii_in is_id_continue 0 ≡ true → ⊥
no_zero h = false≢true (sym (is_xid_continue-ascii 0 (omega arith)) ∙ h)

first-prefix : (s : List ℕ) → IsUtf8 s → is_prefix_letter (get_or s 0 0) ≡ true
    → is_ascii_in is_id_continue (get_or s 1 0) ≡ true → (get_or s 1 0 == 114) ≡ false
    → Some (Ident, true, rest_after is_id_continue (chars s)) ≡ first_of (chars s)
first-prefix [] u p y n = absurd (no_zero y)
first-prefix (c ∷ []) u p y n = absurd (no_zero y)
first-prefix (c ∷ d ∷ s) u p y n =
    let small = prefix-small c p in
    let e = ascii-first (c ∷ d ∷ s) u (omega arith) small in
    let f = ascii-next (c ∷ d ∷ s) 1 u
    (IsCharBoundary-after_ascii (c ∷ d ∷ s) 0 u (omega arith) small) (omega arith)
    (ascii-small is_id_continue d y) in
    rw (e ∙ ap (λ t. c ∷ t) f)
    (prefix-first c d (chars s) p (and_parts (nat_lt d 128) _ y).1 n)

plain-word : (s : List ℕ) → IsUtf8 s → 0 < length s → is_plain_start (get_or s 0 0) ≡ true
    → Some (Ident, true, rest_after is_id_continue (chars s)) ≡ first_of (chars s)
plain-word s u l y =
    let e = ascii-first s u l (plain-small _ y) in
    rw e (word-first (get_or s 0 0) (chars (drop 1 s)) y)

pub first-word : (s : List ℕ) → IsUtf8 s → 0 < length s
    → begins_word (get_or s 0 0) (get_or s 1 0) ≡ true
    → Some (Ident, true, rest_after is_id_continue (chars s)) ≡ first_of (chars s)
first-word s u l y = at (is_plain_start (get_or s 0 0)) refl y
  where
    at : (b : Bool) → is_plain_start (get_or s 0 0) ≡ b
        → (b || (is_prefix_letter (get_or s 0 0)
        && (is_ascii_in is_id_continue (get_or s 1 0) && not (get_or s 1 0 == 114)))) ≡ true
        → Some (Ident, true, rest_after is_id_continue (chars s)) ≡ first_of (chars s)
    at true e y = plain-word s u l e
    at false e y =
        let p = and_parts (is_prefix_letter (get_or s 0 0)) _ y in
        let w = and_parts (is_ascii_in is_id_continue (get_or s 1 0)) _ p.1 in
        first-prefix s u p.0 w.0 (not_false _ w.1)
