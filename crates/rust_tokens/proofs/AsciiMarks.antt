-- A text that ends at ASCII marks ends at the same place by its bytes as by its characters.
use Rattle.std.proofs.Common.{◌≡◌, ◌+◌, ◌-◌, ◌<◌, ◌≤◌, ◌++◌, List}
use Rattle.std.proofs.Common.{ℕ, Bool, true, false, [], ◌∷◌, cond}
use Rattle.std.proofs.Common.{inl, inr, length, chars, IsUtf8, IsCharBoundary, drop, get_or, nat_lt}
use Rattle.std.proofs.Common.{Some, None, Option, refl, ap, sym, subst, ◌∙◌, arith, length-append}
use Rattle.std.proofs.Common.{append_assoc, suc, zero, ◌/◌}
use Rattle.std.specs.Prelude.{◌⊎◌, ◌&&◌, ◌==◌, flat_map, not, option_map, replicate}
use Rattle.std.specs.Option.{option_or}
use Rattle.std.proofs.Math.Utf8.{encode, encodes, next, scalar, scalars}
use Rattle.std.proofs.Math.Seq.{drop-append_seam, get_or-append_seam}
use Rattle.std.proofs.lemmas.Bool.{and_parts, cases_lt, cond_both, cond-false, cond-true, eqb-true}
use Rattle.std.proofs.lemmas.Bool.Decides.{nat_tests}
use Rattle.std.proofs.lemmas.Str.{chars-encodes, encode_ascii, encodes-chars, scalars-chars}
use Rattle.std.proofs.lemmas.List.{drop_all}
use Rattle.std.proofs.lemmas.Option.{same_Some}
use Rattle.std.proofs.lemmas.Str.{chars-nil, IsCharBoundary-after_ascii, IsCharBoundary-end}
use Rattle.std.proofs.lemmas.Str.{IsCharBoundary-before_ascii}
use Rattle.rust_tokens.specs.Texts.{IsRest, Text}
use Rattle.rust_tokens.specs.Runs.{rest_after, is_in_line, stops}
use Rattle.rust_tokens.specs.Strings.{after_string, spelling}
use Rattle.rust_tokens.specs.Comments.{CommentTail, Close, Character, Nested, after_comment}
use Rattle.rust_tokens.specs.Comments.{tail_spelling}
use Rattle.rust_tokens.specs.RawStrings.{after_hashes, after_raw}
use Rattle.rust_tokens.proofs.Basics.{
  and_no,
  front,
  front-rest_after,
  no_pass,
  not_not,
  stops-rest_after,
}
use Rattle.rust_tokens.proofs.Comments.{comment-reads}
use Rattle.rust_tokens.proofs.RawStrings.{raw-reads}
use Rattle.rust_tokens.proofs.Strings.{string-reads}

-- Where each byte that is not ASCII is passed over, so is such a character.
pub wide-step : {X : Type 0} (f g : List ℕ → X)
    → ((b : ℕ) (t : List ℕ) → 128 ≤ b → f (b ∷ t) ≡ g t)
    → ((b : ℕ) (t : List ℕ) → 128 ≤ b → g (b ∷ t) ≡ g t) → (c : ℕ) (r : List ℕ) → 128 ≤ c
    → f (encode c ++ r) ≡ g r
unfolding encode
wide-step f g first more c r big =
    cond_both {A = List ℕ} (nat_lt c 128) _ _ (λ s. f (s ++ r) ≡ g r)
    (λ small. absurd (too_small small))
    (λ _. cond_both {A = List ℕ} (nat_lt c 2048) _ _ (λ s. f (s ++ r) ≡ g r)
    (λ _. first (192 + c / 64) _ (omega arith) ∙ more (next c) _ (omega arith))
    (λ _. cond_both {A = List ℕ} (nat_lt c 65536) _ _ (λ s. f (s ++ r) ≡ g r)
    (λ _. first (224 + c / 4096) _ (omega arith) ∙ (more (next (c / 64)) _ (omega arith)
    ∙ more (next c) _ (omega arith)))
    (λ _. first (240 + c / 262144) _ (omega arith) ∙ (more (next (c / 4096)) _ (omega arith)
    ∙ (more (next (c / 64)) _ (omega arith) ∙ more (next c) _ (omega arith))))))
  where
    too_small : nat_lt c 128 ≡ true → ⊥
    too_small e = grind (arith, nat_tests)

-- A search that passes over bytes that are not ASCII finds the same in the bytes of a text as in
-- its characters.
pub same : {S : Type 0} (f : S → Text → Option Text) (calm : S → S)
    → ((k : S) → option_map chars (f k []) ≡ f k [])
    → ((k : S) (c : ℕ) (t : Text) → chars (c ∷ encodes t) ≡ c ∷ t → scalars t ≡ true
    → ((j : S) → option_map chars (f j (encodes t)) ≡ f j t)
    → option_map chars (f k (c ∷ encodes t)) ≡ f k (c ∷ t))
    → ((k : S) (b : ℕ) (t : Text) → 128 ≤ b → f k (b ∷ t) ≡ f (calm k) t)
    → ((k : S) (b : ℕ) (t : Text) → 128 ≤ b → f (calm k) (b ∷ t) ≡ f (calm k) t)
    → (t : Text) (k : S) → scalars t ≡ true → option_map chars (f k (encodes t)) ≡ f k t
same f calm nil byte wide still [] k s = nil k
same {S} f calm nil byte wide still (c ∷ t) k s =
    let v = (and_parts (scalar c) _ s).1 in
    at v (λ j. same f calm nil byte wide still t j v) (cases_lt c 128)
  where
    at : scalars t ≡ true → ((j : S) → option_map chars (f j (encodes t)) ≡ f j t)
        → (c < 128) ⊎ (128 ≤ c) → option_map chars (f k (encode c ++ encodes t)) ≡ f k (c ∷ t)
    at v more (inl small) =
        ap (λ b. option_map chars (f k (b ++ encodes t))) (encode_ascii c small)
        ∙ byte k c t
        (ap (λ b. chars (b ++ encodes t)) (sym (encode_ascii c small)) ∙ chars-encodes (c ∷ t) s)
        v more
    at v more (inr big) =
        ap (option_map chars) (wide-step (f k) (f (calm k)) (wide k) (still k) c (encodes t) big)
        ∙ (more (calm k) ∙ sym (wide k c t big))

-- The same of a text that is given by its bytes.
pub same-chars : (f : Text → Option Text)
    → ((t : Text) → scalars t ≡ true → option_map chars (f (encodes t)) ≡ f t)
    → (s : List ℕ) → IsUtf8 s → option_map chars (f s) ≡ f (chars s)
same-chars f h s u =
    ap (λ t. option_map chars (f t)) (sym (encodes-chars s u)) ∙ h (chars s) (scalars-chars s u)

map-cond : (q : Bool) (a b : Text) (x y : Option Text) → chars a ≡ b → option_map chars x ≡ y
    → option_map chars (cond q (Some a) x) ≡ cond q (Some b) y
map-cond true a b x y e f = ap (λ t. Some t) e
map-cond false a b x y e f = f

map-both : (q : Bool) (w x y z : Option Text) → option_map chars w ≡ x → option_map chars y ≡ z
    → option_map chars (cond q w y) ≡ cond q x z
map-both true w x y z e f = e
map-both false w x y z e f = f

map-or : (w x y z : Option Text) → option_map chars w ≡ x → option_map chars y ≡ z
    → option_map chars (option_or w y) ≡ option_or x z
map-or None x y z e f = f ∙ ap (λ o. option_or o z) e
map-or (Some r) x y z e f = ap (λ o. option_or o z) e

-- A text is cut after an ASCII byte.
cut : (s v r : List ℕ) (b : ℕ) → IsUtf8 s → b < 128 → s ≡ v ++ b ∷ r → IsRest s r
cut s v r b u small e =
    let n : length s ≡ length v + suc (length r) = ap length e ∙ length-append v (b ∷ r) in
    let at : length v + 1 ≡ length s - length r = omega (arith, n) in
    let here : get_or s (length v) 0 ≡ b = ap (λ t. get_or t (length v) 0) e
    ∙ get_or-append_seam v b r 0 in
    let front : s ≡ (v ++ b ∷ []) ++ r = e ∙ sym (append_assoc v (b ∷ []) r) in
    let size : length (v ++ b ∷ []) ≡ length s - length r =
    length-append v (b ∷ []) ∙ at in
    record {
      within = omega (arith, n);
      at = subst (IsCharBoundary s) at
          (IsCharBoundary-after_ascii s (length v) u (omega (arith, n)) (omega (arith, here)));
      rest = ap (λ k. drop k s) (sym size) ∙ (ap (drop (length (v ++ b ∷ []))) front
          ∙ drop-append_seam (v ++ b ∷ []) r);
    }

-- Strings.
string-wide : (e : Bool) (b : ℕ) (t : Text) → 128 ≤ b
    → after_string e (b ∷ t) ≡ after_string false t
unfolding after_string
string-wide true b t big = refl
string-wide false b t big =
    cond-false (b == 34) _ _ (grind (arith, nat_tests))
    ∙ ap (λ k. after_string k t) (grind (arith, nat_tests))

string-byte : (e : Bool) (c : ℕ) (t : Text) → chars (c ∷ encodes t) ≡ c ∷ t
    → scalars t ≡ true
    → ((k : Bool) → option_map chars (after_string k (encodes t)) ≡ after_string k t)
    → option_map chars (after_string e (c ∷ encodes t)) ≡ after_string e (c ∷ t)
unfolding after_string
string-byte true c t w v more = more false
string-byte false c t w v more =
    map-cond (c == 34) _ _ _ _ (chars-encodes t v) (more (c == 92))

string-empty : (e : Bool) → option_map chars (after_string e []) ≡ after_string e []
unfolding after_string
string-empty true = refl
string-empty false = refl

pub string-chars : (s : List ℕ) → IsUtf8 s
    → option_map chars (after_string false s) ≡ after_string false (chars s)
string-chars = same-chars (after_string false) (λ t v.
    same after_string (λ _. false) string-empty string-byte string-wide (λ _. string-wide false)
    t false v)

pub string-cut : (s r : List ℕ) → IsUtf8 s → Some r ≡ after_string false s → IsRest s r
string-cut s r u h =
    let x = string-reads s r (sym h) in
    let units = flat_map spelling x.0 in
    cut s units r 34 u (omega arith) (x.2 ∙ append_assoc units (34 ∷ []) r)

pub string-found : (s r : List ℕ) → IsUtf8 s → Some r ≡ after_string false s
    → Some (chars r) ≡ after_string false (chars s)
string-found s r u h = ap (option_map chars) h ∙ string-chars s u

pub string-none : (e : Bool) (s t : List ℕ) → IsUtf8 s → length t ≡ 0
    → after_string e t ≡ after_string false s → None ≡ after_string false (chars s)
unfolding after_string
string-none true s [] u n h = ap (option_map chars) h ∙ string-chars s u
string-none false s [] u n h = ap (option_map chars) h ∙ string-chars s u
string-none e s (c ∷ t) u n h = absurd (omega (arith, n))

pub ruleset string_ends = (string-cut, string-found)

-- Comments, by how many others one is in and the byte before.
abbrev comment : ℕ × ℕ → Text → Option Text
comment k t = after_comment k.0 k.1 t

calm-comment : (above b : ℕ) (t : Text) → (b == 47) ≡ false → (b == 42) ≡ false
    → after_comment above b t ≡ after_comment above 0 t
unfolding after_comment
calm-comment above b [] e f = refl
calm-comment above b (c ∷ t) e f = rw (e, f) refl

comment-wide : (k : ℕ × ℕ) (b : ℕ) (t : Text) → 128 ≤ b → comment k (b ∷ t) ≡ comment (k.0, 0) t
unfolding after_comment
comment-wide k b t big =
    let star : (b == 42) ≡ false = grind (arith, nat_tests) in
    let slash : (b == 47) ≡ false = grind (arith, nat_tests) in
    cond-false (k.1 == 47 && b == 42) _ _ (and_no (k.1 == 47) _ star)
    ∙ (cond-false (k.1 == 42 && b == 47) _ _ (and_no (k.1 == 42) _ slash)
    ∙ calm-comment k.0 b t slash star)

comment-byte : (k : ℕ × ℕ) (c : ℕ) (t : Text) → chars (c ∷ encodes t) ≡ c ∷ t
    → scalars t ≡ true
    → ((j : ℕ × ℕ) → option_map chars (comment j (encodes t)) ≡ comment j t)
    → option_map chars (comment k (c ∷ encodes t)) ≡ comment k (c ∷ t)
unfolding after_comment
comment-byte k c t w v more =
    map-both (k.1 == 47 && c == 42) _ _ _ _ (more (k.0 + 1, 0))
    (map-both (k.1 == 42 && c == 47) _ _ _ _
    (map-cond (k.0 == 0) _ _ _ _ (chars-encodes t v) (more (k.0 - 1, 0))) (more (k.0, c)))

comment-empty : (k : ℕ × ℕ) → option_map chars (comment k []) ≡ comment k []
unfolding after_comment
comment-empty k = refl

pub comment-chars : (s : List ℕ) → IsUtf8 s
    → option_map chars (after_comment 0 0 s) ≡ after_comment 0 0 (chars s)
comment-chars = same-chars (after_comment 0 0) (λ t v.
    same comment (λ k. (k.0, 0)) comment-empty comment-byte comment-wide
    (λ k. comment-wide (k.0, 0)) t (0, 0) v)

spelled-last : (b : CommentTail) → (v : Text) × (tail_spelling b ≡ v ++ 47 ∷ [])
spelled-last Close = (42 ∷ [], refl)
spelled-last (Character c b) = let x = spelled-last b in (c ∷ x.0, ap (λ t. c ∷ t) x.1)
spelled-last (Nested a b) =
    let x = spelled-last b in (
      47 ∷ 42 ∷ (tail_spelling a ++ x.0),
      ap (λ t. 47 ∷ 42 ∷ t)
          (ap (λ t. tail_spelling a ++ t) x.1 ∙ sym (append_assoc (tail_spelling a) x.0 (47 ∷ []))),
    )

pub comment-cut : (s r : List ℕ) → IsUtf8 s → Some r ≡ after_comment 0 0 s → IsRest s r
comment-cut s r u h =
    let x = comment-reads s r (sym h) in
    let y = spelled-last x.0 in
    cut s y.0 r 47 u (omega arith)
    (x.2 ∙ (ap (λ t. t ++ r) y.1 ∙ append_assoc y.0 (47 ∷ []) r))

pub comment-found : (s r : List ℕ) → IsUtf8 s → Some r ≡ after_comment 0 0 s
    → Some (chars r) ≡ after_comment 0 0 (chars s)
comment-found s r u h = ap (option_map chars) h ∙ comment-chars s u

pub comment-none : (k b : ℕ) (s t : List ℕ) → IsUtf8 s → length t ≡ 0
    → after_comment k b t ≡ after_comment 0 0 s → None ≡ after_comment 0 0 (chars s)
unfolding after_comment
comment-none k b s [] u n h = ap (option_map chars) h ∙ comment-chars s u
comment-none k b s (c ∷ t) u n h = absurd (omega (arith, n))

pub ruleset comment_ends = (comment-cut, comment-found)

-- Raw strings.
no_hash : (n b : ℕ) (t : Text) → 128 ≤ b → after_hashes (suc n) (b ∷ t) ≡ None
unfolding after_hashes
no_hash n b t big = cond-false (b == 35) _ _ (grind (arith, nat_tests))

hashes-same : (n : ℕ) (t : Text) → scalars t ≡ true
    → option_map chars (after_hashes n (encodes t)) ≡ after_hashes n t
unfolding after_hashes
hashes-same zero t s = ap (λ r. Some r) (chars-encodes t s)
hashes-same (suc n) [] s = refl
hashes-same (suc n) (c ∷ t) s =
    at (hashes-same n t (and_parts (scalar c) _ s).1) (cases_lt c 128)
  where
    at : option_map chars (after_hashes n (encodes t)) ≡ after_hashes n t
        → (c < 128) ⊎ (128 ≤ c)
        → option_map chars (after_hashes (suc n) (encode c ++ encodes t))
        ≡ after_hashes (suc n) (c ∷ t)
    at more (inl small) =
        ap (λ b. option_map chars (after_hashes (suc n) (b ++ encodes t))) (encode_ascii c small)
        ∙ map-both (c == 35) _ _ None None more refl
    at more (inr big) =
        ap (option_map chars)
        (wide-step (after_hashes (suc n)) (λ _. None) (no_hash n) (λ b t l. refl) c (encodes t)
        big) ∙ sym (no_hash n c t big)

raw-wide : (n b : ℕ) (t : Text) → 128 ≤ b → after_raw n (b ∷ t) ≡ after_raw n t
unfolding after_raw
raw-wide n b t big = cond-false (b == 34) _ _ (grind (arith, nat_tests))

raw-byte : (n c : ℕ) (t : Text) → chars (c ∷ encodes t) ≡ c ∷ t → scalars t ≡ true
    → ((k : ℕ) → option_map chars (after_raw k (encodes t)) ≡ after_raw k t)
    → option_map chars (after_raw n (c ∷ encodes t)) ≡ after_raw n (c ∷ t)
unfolding after_raw
raw-byte n c t w v more =
    map-both (c == 34) _ _ _ _ (map-or _ _ _ _ (hashes-same n t v) (more n)) (more n)

raw-empty : (n : ℕ) → option_map chars (after_raw n []) ≡ after_raw n []
unfolding after_raw
raw-empty n = refl

pub raw-chars : (n : ℕ) (s : List ℕ) → IsUtf8 s
    → option_map chars (after_raw n s) ≡ after_raw n (chars s)
raw-chars n = same-chars (after_raw n) (λ t v.
    same after_raw (λ k. k) raw-empty raw-byte raw-wide raw-wide t n v)

raw-last : (n b : ℕ) (r : Text) → b < 128 → (v : Text) × (d : ℕ) × (d < 128)
    × (b ∷ (replicate n 35 ++ r) ≡ v ++ d ∷ r)
raw-last zero b r small = ([], b, small, refl)
raw-last (suc n) b r small =
    let x = raw-last n 35 r (omega arith) in (b ∷ x.0, x.1, x.2, ap (λ t. b ∷ t) x.3)

pub raw-cut : (n : ℕ) (s r : List ℕ) → IsUtf8 s → Some r ≡ after_raw n s → IsRest s r
raw-cut n s r u h =
    let x = raw-reads n s r (sym h) in
    let y = raw-last n 34 r (omega arith) in
    cut s (x.0 ++ y.0) r y.1 u y.2
    (x.2 ∙ (ap (λ t. x.0 ++ t) y.3 ∙ sym (append_assoc x.0 y.0 (y.1 ∷ r))))

pub raw-found : (n : ℕ) (s r : List ℕ) → IsUtf8 s → Some r ≡ after_raw n s
    → Some (chars r) ≡ after_raw n (chars s)
raw-found n s r u h = ap (option_map chars) h ∙ raw-chars n s u

pub raw-none : (n : ℕ) (s t : List ℕ) → IsUtf8 s → length t ≡ 0
    → after_raw n t ≡ after_raw n s → None ≡ after_raw n (chars s)
unfolding after_raw
raw-none n s [] u m h = ap (option_map chars) h ∙ raw-chars n s u
raw-none n s (c ∷ t) u m h = absurd (omega (arith, m))

pub ruleset raw_ends = (raw-cut, raw-found)

-- Lines.
line-wide : (k : Unit {0}) (b : ℕ) (t : Text) → 128 ≤ b
    → Some (rest_after is_in_line (b ∷ t)) ≡ Some (rest_after is_in_line t)
line-wide k b t big =
    let no : (b == 10) ≡ false = grind (arith, nat_tests) in
    ap (λ r. Some r) (cond-true (not (b == 10)) _ _ (no_pass (b == 10) no))

line-cond : (q : Bool) (w x y z : Text) → option_map chars (Some w) ≡ Some x → chars y ≡ z
    → option_map chars (Some (cond q w y)) ≡ Some (cond q x z)
line-cond true w x y z e f = e
line-cond false w x y z e f = ap (λ t. Some t) f

line-byte : (k : Unit {0}) (c : ℕ) (t : Text) → chars (c ∷ encodes t) ≡ c ∷ t
    → scalars t ≡ true
    → ((j : Unit {0}) → option_map chars (Some (rest_after is_in_line (encodes t)))
    ≡ Some (rest_after is_in_line t))
    → option_map chars (Some (rest_after is_in_line (c ∷ encodes t)))
    ≡ Some (rest_after is_in_line (c ∷ t))
line-byte k c t w v more = line-cond (is_in_line c) _ _ _ _ (more k) w

pub line-chars : (s r : List ℕ) → IsUtf8 s → r ≡ rest_after is_in_line s
    → chars r ≡ rest_after is_in_line (chars s)
line-chars s r u h =
    ap chars h ∙ same_Some _ _ (same-chars (λ t. Some (rest_after is_in_line t)) (λ t v.
    same (λ (k : Unit {0}) t. Some (rest_after is_in_line t)) (λ k. k) (λ k. ap (λ r. Some r)
    chars-nil)
    line-byte line-wide line-wide t tt v) s u)

line-cut-at : (s v r : List ℕ) → IsUtf8 s → s ≡ v ++ r → stops is_in_line r ≡ true → IsRest s r
line-cut-at s v [] u e stop =
    let size : length s ≡ length s - length {A = ℕ} [] = omega arith in
    record {
      within = omega arith;
      at = subst (IsCharBoundary s) size (IsCharBoundary-end s);
      rest = drop_all _ s (omega arith);
    }
line-cut-at s v (b ∷ r) u e stop =
    let n : length s ≡ length v + suc (length r) = ap length e ∙ length-append v (b ∷ r) in
    let at : length v ≡ length s - length (b ∷ r) = omega (arith, n) in
    let here : get_or s (length v) 0 ≡ b = ap (λ t. get_or t (length v) 0) e
    ∙ get_or-append_seam v b r 0 in
    let small : b ≡ 10 = eqb-true b 10 (not_not (b == 10) stop) in
    record {
      within = omega (arith, n);
      at = subst (IsCharBoundary s) at
          (IsCharBoundary-before_ascii s (length v) (omega (arith, n))
          (omega (arith, here, small)));
      rest = ap (λ k. drop k s) (sym at) ∙ (ap (drop (length v)) e ∙ drop-append_seam v (b ∷ r));
    }

pub line-cut : (s r : List ℕ) → IsUtf8 s → r ≡ rest_after is_in_line s → IsRest s r
line-cut s r u h =
    line-cut-at s (front is_in_line s) r u
    (front-rest_after is_in_line s ∙ ap (λ t. front is_in_line s ++ t) (sym h))
    (subst (λ t. stops is_in_line t ≡ true) (sym h) (stops-rest_after is_in_line s))

pub line-nil : (t : Text) → length t ≡ 0 → rest_after is_in_line t ≡ t
line-nil [] h = refl
line-nil (c ∷ t) h = absurd (omega (arith, h))

pub ruleset line_ends = (line-cut, line-chars, line-nil)
