-- The walk over the tokens and the faults counts the literals in which there are faults.
use Rattle.std.proofs.Common.{◌≡◌, ◌∙◌, ◌+◌, ◌≤◌, ◌<◌, ◌&&◌, ◌||◌, ◌==◌, ℕ, Bool, List, [], ◌∷◌}
use Rattle.std.proofs.Common.{arith, drop, false, if◌then◌else◌, length, map, nat_le, nat_lt}
use Rattle.std.proofs.Common.{refl, sym, true}
use Rattle.std.specs.List.{list_any}
use Rattle.std.proofs.lemmas.Bool.{leb-true, lt-leb, ltb-true}
use Rattle.fault_fixes.specs.SeenEdits.{seen_edit}
use Rattle.fault_fixes.specs.declared.fixes.Edit.{Edit}
use Rattle.rust_tokens.specs.Spans.{end_of, placed_tokens}
use Rattle.rust_tokens.specs.Tokens.{Lexeme}
use Rattle.rust_tokens.specs.declared.kinds.Token.{Token}
use Rattle.source_report.specs.declared.report.Finding.{Finding}
use Rattle.source_report.specs.Suggestions.{are_after, edits_of, is_mended}
use Rattle.file_fixes.specs.FaultSearch.{walk_count}
use Rattle.file_fixes.specs.Mending.{have_literals, is_of_literal, is_string}
use Rattle.file_fixes.specs.Mending.{literal_count, starts_in}

-- Each token starts where the one before it ends or later, the first one at the offset `at` or
-- later, and none ends before it starts.
abbrev pub FollowOn : ℕ → List Token → Type 0
FollowOn at [] = Unit {0}
FollowOn at (t ∷ ts) = (at ≤ t.span.start) × (t.span.start ≤ t.span.end) × FollowOn t.span.end ts

-- No fault starts before the offset `at`.
abbrev pub AreFrom : ℕ → List Finding → Type 0
AreFrom at [] = Unit {0}
AreFrom at (x ∷ xs) = (at ≤ x.span.start) × AreFrom at xs

from-before : (m n : ℕ) (xs : List Finding) → m ≤ n → AreFrom n xs → AreFrom m xs
from-before m n [] l h = tt
from-before m n (x ∷ xs) l h = (omega (arith, l, h.0), from-before m n xs l h.1)

-- A fault of a literal starts in it.
own-start : (bs : List ℕ) (t : Token) (ts : List Token) (x : Finding)
    → is_of_literal bs t ts x ≡ true
    → (starts_in t x ≡ true) × (t.span.start ≤ x.span.start) × (x.span.start < t.span.end)
own-start bs t ts x h =
    let s = (three _ _ _ h).0 in
    let l = three _ _ _ s in
    (s, leb-true _ _ l.1, ltb-true _ _ l.2)
  where
    three : (b c d : Bool) → (b && c && d) ≡ true → (b ≡ true) × (c ≡ true) × (d ≡ true)
    three true true true h = (refl, refl, refl)
    three true true false h = absurd cc
    three true false d h = absurd cc
    three false c d h = absurd cc

-- What follows in both cases of a walk.
in-both : (o c d : Bool) (P : Type 0) → (if o then c else d) ≡ true
    → (o ≡ true → c ≡ true → P) → (o ≡ false → d ≡ true → P) → P
in-both true c d P h f g = f refl h
in-both false c d P h f g = g refl h

-- The faults that are in tokens start where these do or later.
starts-from : (bs : List ℕ) (n : ℕ) (ts : List Token) (xs : List Finding) → FollowOn n ts
    → have_literals bs ts xs ≡ true → AreFrom n xs
starts-from bs n ts [] f h = tt
starts-from bs n [] (x ∷ xs) f h = absurd cc
starts-from bs n (t ∷ ts) (x ∷ xs) f h =
    in-both (is_of_literal bs t (t ∷ ts) x) _ _ (AreFrom n (x ∷ xs)) h
    (λ yes k. let s = own-start bs t (t ∷ ts) x yes in
    (omega (arith, f.0, s.1), starts-from bs n (t ∷ ts) xs f k))
    (λ no k. from-before n t.span.end (x ∷ xs) (omega (arith, f.0, f.1))
    (starts-from bs t.span.end ts (x ∷ xs) f.2 k))

-- None of them starts in a token before these.
none-in : (t : Token) (xs : List Finding) → AreFrom t.span.end xs
    → list_any (starts_in t) xs ≡ false
none-in t [] h = refl
none-in t (x ∷ xs) h =
    let late : nat_lt x.span.start t.span.end ≡ false = lt-leb _ _ (omega (arith, h.0)) in
    neither (is_string t.kind) (nat_le t.span.start x.span.start) _ _ late (none-in t xs h.1)
  where
    neither : (b c d e : Bool) → d ≡ false → e ≡ false → ((b && c && d) || e) ≡ false
    neither true true d e h k = rw (h, k) refl
    neither true false d e h k = k
    neither false c d e h k = k

-- A fault before these tokens starts in none of them.
not-later : (n : ℕ) (ts : List Token) (x : Finding) (xs : List Finding) → FollowOn n ts
    → x.span.start < n → literal_count ts (x ∷ xs) ≡ literal_count ts xs
not-later n [] x xs f l = refl
not-later n (t ∷ ts) x xs f l =
    let early : nat_le t.span.start x.span.start ≡ false = lt-leb _ _ (omega (arith, f.0, l)) in
    same (is_string t.kind) _ (nat_lt x.span.start t.span.end) (list_any (starts_in t) xs) _ _ early
    (not-later t.span.end ts x xs f.2 (omega (arith, f.0, f.1, l)))
  where
    same : (b c d e : Bool) (us vs : List Token) → c ≡ false → length us ≡ length vs
        → length (if (b && c && d) || e then t ∷ us else us) ≡ length (if e then t ∷ vs else vs)
    same true c d true us vs h g = rw (h, g) refl
    same true c d false us vs h g = rw (h, g) refl
    same false c d true us vs h g = rw g refl
    same false c d false us vs h g = g

no-faults : (ts : List Token) → literal_count ts [] ≡ 0
no-faults [] = refl
no-faults (t ∷ ts) = no-faults ts

-- So the walk counts each literal once.
pub walk-counts : (bs : List ℕ) (n : ℕ) (b : Bool) (ts : List Token) (xs : List Finding)
    → FollowOn n ts → have_literals bs ts xs ≡ true
    → walk_count bs b ts xs ≡ literal_count (if b then ts else drop 1 ts) xs
walk-counts bs n b ts [] f h = sym (no-faults (if b then ts else drop 1 ts))
walk-counts bs n b [] (x ∷ xs) f h = absurd cc
walk-counts bs n b (t ∷ ts) (x ∷ xs) f h =
    either (is_of_literal bs t (t ∷ ts) x) _ _ _ _
    (λ k. k ≡ literal_count (if b then t ∷ ts else ts) (x ∷ xs)) h
    (λ yes k. let s = own-start bs t (t ∷ ts) x yes in
    first b (rw s.0 refl)
    (walk-counts bs n false (t ∷ ts) xs f k ∙ sym (not-later t.span.end ts x xs f.2 s.2)))
    (λ no k. later b (none-in t (x ∷ xs) (starts-from bs t.span.end ts (x ∷ xs) f.2 k))
    (walk-counts bs t.span.end true ts (x ∷ xs) f.2 k))
  where
    either : (o c d : Bool) (m k : ℕ) (P : ℕ → Type 0) → (if o then c else d) ≡ true
        → (o ≡ true → c ≡ true → P m) → (o ≡ false → d ≡ true → P k) → P (if o then m else k)
    either true c d m k P h f g = f refl h
    either false c d m k P h f g = g refl h

    first : (c : Bool) {m : ℕ} → list_any (starts_in t) (x ∷ xs) ≡ true
        → m ≡ literal_count ts (x ∷ xs)
        → (if c then 1 else 0) + m ≡ literal_count (if c then t ∷ ts else ts) (x ∷ xs)
    first true h g = rw h (omega (arith, g))
    first false h g = omega (arith, g)

    later : (c : Bool) {m : ℕ} → list_any (starts_in t) (x ∷ xs) ≡ false
        → m ≡ literal_count ts (x ∷ xs)
        → m ≡ literal_count (if c then t ∷ ts else ts) (x ∷ xs)
    later true h g = rw h g
    later false h g = g

-- A fault with edits that follow the last one is mended.
pub mended-edits : (at : ℕ) (x : Finding) (es : List Edit) → map seen_edit es ≡ edits_of x
    → 1 ≤ length es → are_after at (map seen_edit es) ≡ true → is_mended at x ≡ true
mended-edits at x [] e l h = absurd (omega (arith, l))
mended-edits at x (f ∷ fs) e l h = rw (sym e) h

-- The literals with that of one fault more, which is new unless it is the last one.
pub count-more : (bs : List ℕ) (b c : Bool) (m n : ℕ) (ts us : List Token) (x : Finding)
    (xs : List Finding)
    → walk_count bs b ts (x ∷ xs) ≡ (if c then 1 else 0) + walk_count bs false us xs
    → n ≡ m + (if c then 1 else 0) → (n == 0) ≡ false
    → m + walk_count bs b ts (x ∷ xs) ≡ n + walk_count bs (n == 0) us xs
count-more bs b c m n ts us x xs h e some = rw some (omega (arith, h, e))

-- The tokens of a text follow on each other.
pub placed-follow : (at : ℕ) (xs : List Lexeme) → FollowOn at (placed_tokens at xs)
placed-follow at [] = tt
placed-follow at (x ∷ xs) = (omega arith, omega arith, placed-follow (end_of at x) xs)
