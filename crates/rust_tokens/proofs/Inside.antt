-- An opening ends after the word that it begins with.
use Rattle.std.proofs.Common.{◌≡◌, ℕ, ◌+◌, ◌≤◌, Bool, true, false, ◌&&◌, ◌++◌, cond, [], ◌∷◌}
use Rattle.std.proofs.Common.{Option, Some, None, refl, ap, sym, ◌∙◌, append_assoc, subst, length}
use Rattle.std.proofs.Common.{length-append, arith}
use Rattle.std.specs.Prelude.{◌==◌, codes, flat_map, replicate, option_map}
use Rattle.std.specs.List.{list_all}
use Rattle.std.specs.Option.{option_or}
use Rattle.std.proofs.lemmas.Bool.{eqb-true, false≢true, and_parts, cond_both}
use Rattle.rust_tokens.specs.Texts.{Text, strip}
use Rattle.rust_tokens.specs.Runs.{rest_after, count, is_id_start, is_id_continue, is_hash}
use Rattle.rust_tokens.specs.Strings.{spelling, after_string}
use Rattle.rust_tokens.specs.RawStrings.{after_raw}
use Rattle.rust_tokens.specs.Characters.{after_char}
use Rattle.rust_tokens.specs.Openings.{first_opening, raw_opening, word_opening, byte_opening}
use Rattle.rust_tokens.specs.Openings.{c_opening}
use Rattle.rust_tokens.specs.declared.kinds.Kind.{Kind}
use Rattle.rust_tokens.specs.declared.kinds.Kind.TheVariants.{Str, ByteStr, CStr, RawStr}
use Rattle.rust_tokens.specs.declared.kinds.Kind.TheVariants.{RawByteStr}
use Rattle.rust_tokens.specs.declared.kinds.Kind.TheVariants.{RawCStr, Byte}
use Rattle.rust_tokens.specs.declared.openings.Opening.{Opening}
use Rattle.rust_tokens.specs.declared.openings.Opening.TheVariants.{Quote, Raw, ByteQuote, RawWord}
use Rattle.rust_tokens.specs.First.{closed_body, closed_or, by_opening}
use Rattle.rust_tokens.proofs.Basics.{strip-reads}
use Rattle.rust_tokens.proofs.CharEnds.{char-reads}
use Rattle.rust_tokens.proofs.Classes.{goes_on-quote, goes_on-hash, goes_on-tick}
use Rattle.rust_tokens.proofs.RawStrings.{raw-reads}
use Rattle.rust_tokens.proofs.Strings.{string-reads}

pub rest_after-short : (p : ℕ → Bool) (s : Text) → length (rest_after p s) ≤ length s
rest_after-short p [] = omega arith
rest_after-short p (c ∷ s) =
    let h = rest_after-short p s in
    cond_both (p c) (rest_after p s) (c ∷ s) (λ u. length u ≤ length (c ∷ s))
    (λ y. omega (arith, h)) (λ n. omega arith)

pub rest-short : (a b c : Text) → a ≡ b ++ c → length c ≤ length a
rest-short a b c e =
    let n : length a ≡ length b + length c = ap (λ u. length u) e ∙ length-append b c in
    omega (arith, n)

pub closed-short : (k : Kind) (o : Option Text) (s : Text)
    → ((m : Text) → o ≡ Some m → length m ≤ length s) → length (closed_body k o).2 ≤ length s
closed-short k None s f = omega arith
closed-short k (Some m) s f = f m refl

abbrev head : Text → ℕ
head [] = 0
head (c ∷ t) = c

abbrev tail : Text → Text
tail [] = []
tail (c ∷ t) = t

-- A character that continues no word is after the word in front.
pub rest_after-word : (w s p t : Text) (q : ℕ) → list_all is_id_continue w ≡ true
    → is_id_continue q ≡ false → w ++ s ≡ p ++ q ∷ t → length (q ∷ t) ≤ length s
rest_after-word [] s p t q a n e = rest-short s p (q ∷ t) e
rest_after-word (c ∷ w) s [] t q a n e =
    let y = (and_parts (is_id_continue c) _ a).0 in
    absurd (false≢true (sym n ∙ subst (λ d. is_id_continue d ≡ true) (ap (λ u. head u) e) y))
rest_after-word (c ∷ w) s (d ∷ p) t q a n e =
    rest_after-word w s p t q (and_parts (is_id_continue c) _ a).1 n (ap (λ u. tail u) e)

-- Somewhere in the text stands a character that continues no word, and the token ends after it.
abbrev pub Inside : Text → Option (Opening × Text) → Type 0
Inside whole None = Unit
Inside whole (Some x) = (p : Text) × (q : ℕ) × (v : Text) × (whole ≡ p ++ q ∷ v)
    × (is_id_continue q ≡ false) × (length (by_opening 0 [] (Some x)).2 ≤ length v)

quote-inside : (p : Text) (k : Kind) (t : Text) → Inside (p ++ 34 ∷ t) (Some (Quote k, t))
quote-inside p k t = (
  p,
  34,
  t,
  refl,
  goes_on-quote,
  closed-short k (after_string false t) t (λ m h.
      let y = string-reads t m h in
      rest-short t (flat_map spelling y.0 ++ codes "\"") m y.2),
)

raw-short : (k : Kind) (n : ℕ) (u : Text) → length (closed_body k (after_raw n u)).2 ≤ length u
raw-short k n u = closed-short k (after_raw n u) u (λ m h.
    let y = raw-reads n u m h in
    rest-short u (y.0 ++ 34 ∷ replicate n 35) m
    (y.2 ∙ sym (append_assoc y.0 (34 ∷ replicate n 35) m)))

raw-inside : (p : Text) (k : Kind) (t : Text) → Inside (p ++ t) (raw_opening k t)
raw-inside p k [] = tt
raw-inside p k (d ∷ t) = by_quote (strip 34 (rest_after is_hash (d ∷ t))) refl
  where
    no_word : (b : Bool) (u : Text) → (d == 35) ≡ b
        → strip 34 (cond b (rest_after is_hash t) (d ∷ t)) ≡ Some u
        → is_id_continue d ≡ false
    no_word true u e h = ap (λ c. is_id_continue c) (eqb-true d 35 e) ∙ goes_on-hash
    no_word false u e h =
        ap (λ c. is_id_continue c) (ap (λ v. head v) (strip-reads 34 (d ∷ t) u h)) ∙ goes_on-quote

    by_quote : (o : Option Text) → strip 34 (rest_after is_hash (d ∷ t)) ≡ o
        → Inside (p ++ d ∷ t) (option_map (λ u. (Raw k (count is_hash (d ∷ t)), u)) o)
    by_quote None e = tt
    by_quote (Some u) e =
        let n = raw-short k (count is_hash (d ∷ t)) u in
        let m = rest-short (rest_after is_hash (d ∷ t)) (34 ∷ []) u (strip-reads 34 _ u e) in
        let l : length (rest_after is_hash (d ∷ t)) ≡ length (34 ∷ u) =
        ap (λ v. length v) (strip-reads 34 _ u e) in
        let j = rest_after-short is_hash (d ∷ t) in
        (p, d, t, refl, no_word (d == 35) u refl e, omega (arith, n, l, j))

word-inside : (t : Text) → Inside (114 ∷ t) (word_opening t)
word-inside [] = tt
word-inside (c ∷ []) = tt
word-inside (c ∷ d ∷ t) = by_test (c == 35 && is_id_start d) refl
  where
    by_test : (b : Bool) → (c == 35 && is_id_start d) ≡ b
        → Inside (114 ∷ c ∷ d ∷ t) (cond b (Some (RawWord, t)) None)
    by_test false e = tt
    by_test true e =
        let x = and_parts (c == 35) (is_id_start d) e in
        let n = rest_after-short is_id_continue t in (
          114 ∷ [],
          c,
          d ∷ t,
          refl,
          ap (λ h. is_id_continue h) (eqb-true c 35 x.0) ∙ goes_on-hash,
          omega (arith, n),
        )

pub byte-short : (t : Text) → length (closed_or Byte t (after_char t)).2 ≤ length t
byte-short t = by_end (after_char t) refl
  where
    by_end : (o : Option Text) → after_char t ≡ o → length (closed_or Byte t o).2 ≤ length t
    by_end None e = omega arith
    by_end (Some m) e =
        let x = char-reads t m e in
        rest-short t x.0 m x.2

at : (o : Option (Opening × Text)) (p t : Text) (c d : ℕ) → (c == d) ≡ true
    → Inside (p ++ d ∷ t) o → Inside (p ++ c ∷ t) o
at o p t c d e f = subst (λ x. Inside (p ++ x ∷ t) o) (sym (eqb-true c d e)) f

byte-inside : (t : Text) → Inside (98 ∷ t) (byte_opening t)
byte-inside [] = tt
byte-inside (c ∷ t) =
    cond_both (c == 34) (Some (Quote ByteStr, t)) _ (λ o. Inside (98 ∷ c ∷ t) o)
    (λ y. at (Some (Quote ByteStr, t)) (codes "b") t c 34 y (quote-inside (codes "b") ByteStr t))
    (λ n. cond_both (c == 39) (Some (ByteQuote, t)) _ (λ o. Inside (98 ∷ c ∷ t) o)
    (λ y. at (Some (ByteQuote, t)) (codes "b") t c 39 y
    (codes "b", 39, t, refl, goes_on-tick, byte-short t))
    (λ n. cond_both (c == 114) (raw_opening RawByteStr t) None (λ o. Inside (98 ∷ c ∷ t) o)
    (λ y. at (raw_opening RawByteStr t) (codes "b") t c 114 y (raw-inside
    (codes "br") RawByteStr t))
    (λ n. tt)))

c-inside : (t : Text) → Inside (99 ∷ t) (c_opening t)
c-inside [] = tt
c-inside (c ∷ t) =
    cond_both (c == 34) (Some (Quote CStr, t)) _ (λ o. Inside (99 ∷ c ∷ t) o)
    (λ y. at (Some (Quote CStr, t)) (codes "c") t c 34 y (quote-inside (codes "c") CStr t))
    (λ n. cond_both (c == 114) (raw_opening RawCStr t) None (λ o. Inside (99 ∷ c ∷ t) o)
    (λ y. at (raw_opening RawCStr t) (codes "c") t c 114 y (raw-inside (codes "cr") RawCStr t))
    (λ n. tt))

r-inside : (t : Text) → Inside (114 ∷ t) (option_or (raw_opening RawStr t) (word_opening t))
r-inside t = by_raw (raw_opening RawStr t) (raw-inside (codes "r") RawStr t)
  where
    by_raw : (o : Option (Opening × Text)) → Inside (114 ∷ t) o
        → Inside (114 ∷ t) (option_or o (word_opening t))
    by_raw None f = word-inside t
    by_raw (Some x) f = f

inside : (t : Text) → Inside t (first_opening t)
inside [] = tt
inside (c ∷ t) =
    cond_both (c == 34) (Some (Quote Str, t)) _ (λ o. Inside (c ∷ t) o)
    (λ y. at (Some (Quote Str, t)) [] t c 34 y (quote-inside [] Str t))
    (λ n. cond_both (c == 98) (byte_opening t) _ (λ o. Inside (c ∷ t) o)
    (λ y. at (byte_opening t) [] t c 98 y (byte-inside t))
    (λ n. cond_both (c == 99) (c_opening t) _ (λ o. Inside (c ∷ t) o)
    (λ y. at (c_opening t) [] t c 99 y (c-inside t))
    (λ n. cond_both (c == 114) (option_or (raw_opening RawStr t) (word_opening t)) None
    (λ o. Inside (c ∷ t) o)
    (λ y. at (option_or (raw_opening RawStr t) (word_opening t)) [] t c 114 y (r-inside t))
    (λ n. tt))))

-- A token that begins with a word goes on after it.
pub opened-short : (c : ℕ) (w s : Text) → list_all is_id_continue (c ∷ w) ≡ true
    → ((first_opening (c ∷ (w ++ s)) ≡ None)
    → length (by_opening c (w ++ s) None).2 ≤ length s)
    → length (by_opening c (w ++ s) (first_opening (c ∷ (w ++ s)))).2 ≤ length s
opened-short c w s a f =
    by_opened (first_opening (c ∷ (w ++ s))) refl (inside (c ∷ (w ++ s)))
  where
    far : (o : Opening) (u : Text) → Inside (c ∷ (w ++ s)) (Some (o, u))
        → length (by_opening 0 [] (Some (o, u))).2 ≤ length s
    far o u x =
        let n = rest_after-word (c ∷ w) s x.0 x.2 x.1 a x.4 x.3 in
        let m = x.5 in
        omega (arith, n, m)

    by_opened : (o : Option (Opening × Text)) → first_opening (c ∷ (w ++ s)) ≡ o
        → Inside (c ∷ (w ++ s)) o → length (by_opening c (w ++ s) o).2 ≤ length s
    by_opened None e x = f e
    by_opened (Some (Quote k, u)) e x = far (Quote k) u x
    by_opened (Some (Raw k n, u)) e x = far (Raw k n) u x
    by_opened (Some (ByteQuote, u)) e x = far ByteQuote u x
    by_opened (Some (RawWord, u)) e x = far RawWord u x
