-- The text of a path, part by part.
use Rattle.std.proofs.Common.{◌≡◌, ℕ, suc, ◌<◌, ◌≤◌, ◌/◌, ◌%◌, ◌*◌, ◌+◌, Bool, true, false, cond}
use Rattle.std.proofs.Common.{not, ◌==◌, List, [], ◌∷◌, ◌++◌, length, take, drop, refl, ap, ◌∙◌}
use Rattle.std.proofs.Common.{sym, append_assoc, append-nil, arith, string_bytes}
use Rattle.std.specs.Prelude.{flat_map, codes, Option, None, Some, MatchOption}
use Rattle.std.specs.List.{after_first, before_first, position_or_len}
use Rattle.std.specs.Str.Pattern.{FindsChar, SplitsAtFirstByte}
use denote.Ref.{Bor}
use Rattle.std.specs.Char.{digit_char, digit_value}
use Rattle.std.specs.List.{list_all}
use Rattle.std.proofs.lemmas.Bool.{and_parts}
use Rattle.std.proofs.lemmas.Bool.Decides.{nat_tests}
use Rattle.std.proofs.lemmas.List.{nil_from_length}
use Rattle.std.proofs.lemmas.List.Folds.{list_all-append}
use Rattle.std.proofs.lemmas.Str.{digit_value-digit_char}
use Rattle.file_paths.specs.Paths.{byte_named, escape, is_not_nul, path_bytes, shown_path}

-- the path of a text that begins with a byte other than NUL
first-plain : (b : ℕ) (t : List ℕ) → is_not_nul b ≡ true → path_bytes (b ∷ t) ≡ b ∷ path_bytes t
unfolding path_bytes
first-plain b [] e = refl
first-plain b (c ∷ []) e = refl
first-plain b (c ∷ d ∷ t) e = grind (arith, nat_tests)

-- bytes without NUL stand for themselves before another text
pub front-plain : (f t : List ℕ) → list_all is_not_nul f ≡ true
    → path_bytes (f ++ t) ≡ f ++ path_bytes t
front-plain [] t e = refl
front-plain (b ∷ f) t e =
    let parts = and_parts (is_not_nul b) (list_all is_not_nul f) e in
    first-plain b (f ++ t) parts.0 ∙ ap (λ x. b ∷ x) (front-plain f t parts.1)

named : (b : ℕ) → b < 256 → byte_named (digit_char (b / 16)) (digit_char (b % 16)) ≡ b
unfolding byte_named
named b h = rw (
  digit_value-digit_char (b / 16) (omega arith),
  digit_value-digit_char (b % 16) (omega arith),
) (omega arith)

-- the text of a byte before another text
pub escaped : (b : ℕ) (t : List ℕ) → b < 256 → path_bytes (escape b ++ t) ≡ b ∷ path_bytes t
unfolding path_bytes
escaped b t h = ap (λ x. x ∷ path_bytes t) (named b h)

-- a text that ends in NUL,
pub lone-escape : (text tail : List ℕ) (b : ℕ) → text ≡ b ∷ tail → b ≡ 0 → length tail ≡ 0
    → path_bytes text ≡ 0 ∷ path_bytes tail
unfolding path_bytes
lone-escape text tail b e z n =
    ap path_bytes (e ∙ (λ i. z i ∷ nil_from_length tail n i))
    ∙ ap (λ t. 0 ∷ path_bytes t) (sym (nil_from_length tail n))

-- or in NUL and a digit,
pub short-escape : (text tail after : List ℕ) (b d : ℕ) → text ≡ b ∷ tail → b ≡ 0
    → tail ≡ d ∷ after → length after ≡ 0 → path_bytes text ≡ 0 ∷ path_bytes tail
unfolding path_bytes
short-escape text tail after b d e z f n =
    let digit = f ∙ ap (λ t. d ∷ t) (nil_from_length after n) in
    ap path_bytes (e ∙ (λ i. z i ∷ digit i)) ∙ ap (λ t. 0 ∷ path_bytes t) (sym digit)

-- and one that begins with NUL and two digits
pub whole-escape : (text tail after rest : List ℕ) (b d h : ℕ) → text ≡ b ∷ tail → b ≡ 0
    → tail ≡ d ∷ after → after ≡ h ∷ rest → path_bytes text ≡ byte_named d h ∷ path_bytes rest
unfolding path_bytes
whole-escape text tail after rest b d h e z f g =
    ap path_bytes (e ∙ (λ i. z i ∷ (f ∙ ap (λ t. d ∷ t) g) i))

-- a text that begins with another byte
pub plain-first : (text tail : List ℕ) (b : ℕ) → text ≡ b ∷ tail → (b ≡ 0 → ⊥)
    → path_bytes text ≡ b ∷ path_bytes tail
plain-first text tail b e n = rw e (first-plain b tail (grind (arith, nat_tests)))

pub no-text : (text : List ℕ) → length text ≡ 0 → path_bytes text ≡ []
unfolding path_bytes
no-text text n = rw (nil_from_length text n) refl

-- the text of a path, where `done` is the path before `rest`: at its start,
pub text-begins : (path front rest out text : List ℕ) → path ≡ front ++ rest → out ≡ []
    → text ≡ out ++ front → (done : List ℕ) × (done ++ rest ≡ path)
    × ((more : List ℕ) → list_all is_not_nul path ≡ true
    → path_bytes (text ++ more) ≡ done ++ path_bytes more)
text-begins path front rest out text p o t = (
  front,
  sym p,
  λ more e. rw (t, o) (front-plain front more
      (and_parts (list_all is_not_nul front) (list_all is_not_nul rest)
      (sym (list_all-append is_not_nul front rest) ∙ (ap (list_all is_not_nul) (sym p) ∙ e))).0),
)

-- and after a byte and the front of what is after it
pub text-goes-on : (path rest tail front after text escaped next : List ℕ) (b : ℕ)
    → rest ≡ b ∷ tail → tail ≡ front ++ after → escaped ≡ text ++ escape b
    → next ≡ escaped ++ front
    → ((t : List ℕ) → path_bytes (escape b ++ t) ≡ b ∷ path_bytes t)
    → ((done : List ℕ) × (done ++ rest ≡ path)
    × ((more : List ℕ) → list_all is_not_nul path ≡ true
    → path_bytes (text ++ more) ≡ done ++ path_bytes more))
    → (done : List ℕ) × (done ++ after ≡ path)
    × ((more : List ℕ) → list_all is_not_nul path ≡ true
    → path_bytes (next ++ more) ≡ done ++ path_bytes more)
text-goes-on path rest tail front after text escaped next b r t x n s (done, all, before) =
    let whole : (done ++ (b ∷ front)) ++ after ≡ path =
    append_assoc done (b ∷ front) after
    ∙ (ap (λ z. done ++ (b ∷ z)) (sym t) ∙ (ap (λ z. done ++ z) (sym r) ∙ all)) in
    let clean : list_all is_not_nul path ≡ true → list_all is_not_nul front ≡ true = λ e.
    let parts = and_parts (list_all is_not_nul done) (list_all is_not_nul rest)
    (sym (list_all-append is_not_nul done rest) ∙ (ap (list_all is_not_nul) all ∙ e)) in
    let tails = and_parts (is_not_nul b) (list_all is_not_nul tail)
    (ap (list_all is_not_nul) (sym r) ∙ parts.1) in
    (and_parts (list_all is_not_nul front) (list_all is_not_nul after)
    (sym (list_all-append is_not_nul front after)
    ∙ (ap (list_all is_not_nul) (sym t) ∙ tails.1))).0 in (
      done ++ (b ∷ front),
      whole,
      λ more e. rw (n, x)
          (ap path_bytes (append_assoc (text ++ escape b) front more
          ∙ append_assoc text (escape b) (front ++ more))
          ∙ (before (escape b ++ (front ++ more)) e
          ∙ (ap (λ z. done ++ z) (s (front ++ more)
          ∙ ap (λ z. b ∷ z) (front-plain front more (clean e)))
          ∙ sym (append_assoc done (b ∷ front) (path_bytes more))))),
    )

-- at its end it stands for the path
pub text-ends : (path rest text : List ℕ) → length rest ≡ 0
    → ((done : List ℕ) × (done ++ rest ≡ path)
    × ((more : List ℕ) → list_all is_not_nul path ≡ true
    → path_bytes (text ++ more) ≡ done ++ path_bytes more))
    → list_all is_not_nul path ≡ true → path_bytes text ≡ path
unfolding path_bytes
text-ends path rest text n (done, all, before) e =
    ap path_bytes (sym (append-nil text))
    ∙ (before [] e ∙ (ap (λ z. done ++ z) (sym (nil_from_length rest n)) ∙ all))

abbrev is_nul : ℕ → Bool
is_nul b = b == 0

-- a text without NUL is shown as it is,
shown-none : (s : List ℕ) → position_or_len is_nul s ≡ length s → shown_path s ≡ s
shown-none [] h = refl
shown-none (b ∷ bs) h = by_test (is_nul b) h (shown-none bs)
  where
    by_test : (t : Bool) → cond (not t) (1 + position_or_len is_nul bs) 0 ≡ length (b ∷ bs)
        → (position_or_len is_nul bs ≡ length bs → shown_path bs ≡ bs)
        → (cond t (codes "\\x") (b ∷ [])) ++ shown_path bs ≡ b ∷ bs
    by_test true e rest = absurd (omega arith)
    by_test false e rest = ap (λ z. b ∷ z) (rest (omega arith))

-- and another up to its first NUL
shown-cut : (s : List ℕ) → position_or_len is_nul s < length s
    → shown_path s ≡ before_first is_nul s ++ (codes "\\x" ++ shown_path (after_first is_nul s))
shown-cut [] h = absurd (omega arith)
shown-cut (b ∷ bs) h = by_test (is_nul b) h (shown-cut bs)
  where
    by_test : (t : Bool) → cond (not t) (1 + position_or_len is_nul bs) 0 < length (b ∷ bs)
        → (position_or_len is_nul bs < length bs → shown_path bs
        ≡ before_first is_nul bs ++ (codes "\\x" ++ shown_path (after_first is_nul bs)))
        → (cond t (codes "\\x") (b ∷ [])) ++ shown_path bs
        ≡ take (cond (not t) (1 + position_or_len is_nul bs) 0) (b ∷ bs) ++ (codes "\\x"
        ++ shown_path (drop (cond (not t) (1 + position_or_len is_nul bs) 0 + 1) (b ∷ bs)))
    by_test true e rest = refl
    by_test false e rest =
        let n = position_or_len is_nul bs in
        let here : suc n ≡ 1 + n = omega arith in
        let past : suc (n + 1) ≡ 1 + n + 1 = omega arith in
        ap (λ z. b ∷ z) (rest (omega arith))
        ∙ (λ i. take (here i) (b ∷ bs)
        ++ (codes "\\x" ++ shown_path (drop (past i) (b ∷ bs))))

-- so what `split_once` gives is shown in its parts
pub parts-shown : (s : List ℕ) (r : Option (Bor (List ℕ) × Bor (List ℕ)))
    → SplitsAtFirstByte (FindsChar 0) (Some 0) s r
    → MatchOption r (shown_path s ≡ s)
    (λ x. shown_path s ≡ x.0.now ++ (codes "\\x" ++ shown_path x.1.now))
parts-shown s None h = shown-none s (h (omega arith) (λ w o f. f))
parts-shown s (Some x) h =
    let found = h (omega arith) (λ w o f. f) in rw (found.0, found.1) (shown-cut s found.2)

pub shown-goes-on : {whole : List ℕ} (text front tail out one two : List ℕ)
    → shown_path text ≡ front ++ (codes "\\x" ++ shown_path tail) → one ≡ out ++ front
    → two ≡ one ++ codes "\\x" → out ++ shown_path text ≡ whole
    → two ++ shown_path tail ≡ whole
shown-goes-on text front tail out one two p o t w =
    rw (t, o) (append_assoc (out ++ front) (codes "\\x") (shown_path tail)
    ∙ (append_assoc out front (codes "\\x" ++ shown_path tail)
    ∙ (ap (λ z. out ++ z) (sym p) ∙ w)))
