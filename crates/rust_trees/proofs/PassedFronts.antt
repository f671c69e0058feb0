-- The tokens of a front of the rest of a file, and those after it.
use Rattle.std.proofs.Common.{◌≡◌, ◌++◌, ℕ, ◌+◌, ◌-◌, ◌≤◌, Bool, true, false, List, [], ◌∷◌}
use Rattle.std.proofs.Common.{refl, ap, sym, ◌∙◌, subst, length, arith, chars, IsUtf8}
use Rattle.std.specs.Prelude.{if◌then◌else◌}
use Rattle.std.specs.Char.{len_utf8}
use Rattle.std.proofs.lemmas.Bool.{false≢true}
use Rattle.std.proofs.lemmas.Str.{chars-append}
use Rattle.rust_tokens.specs.Texts.{Text}
use Rattle.rust_tokens.specs.Runs.{first_passes, is_id_start}
use Rattle.rust_tokens.specs.Tokens.{Lexeme, ReadsTo}
use Rattle.rust_tokens.specs.Spans.{byte_length, end_of, end_of_all}
use Rattle.rust_tokens.specs.Fronts.{ReadsBeforeWords}
use Rattle.rust_tokens.proofs.Readings.{bytes-join}
use Rattle.rust_tokens.proofs.ReadFronts.{joined, reads-join}
use Rattle.rust_trees.specs.Leaves.{AreLeft, Leaf, is_leaf, leaf_at, leaves}

-- Readings one after the other.
pub reads-both : (whole : Text) (xs : List Lexeme) (r : Text) (ys : List Lexeme) (e : Text)
    → ReadsTo whole xs r → ReadsTo r ys e → ReadsTo whole (xs ++ ys) e
reads-both whole [] r ys e f g = subst (λ t. ReadsTo t ys e) (sym f) g
reads-both whole (x ∷ xs) r ys e f g = (f.0, f.1, reads-both f.0 xs r ys e f.2 g)

pub leaves-both : (at : ℕ) (xs ys : List Lexeme)
    → leaves at (xs ++ ys) ≡ leaves at xs ++ leaves (end_of_all at xs) ys
leaves-both at [] ys = refl
leaves-both at (x ∷ xs) ys = by_test (is_leaf x.kind x.is_ended) (leaves-both (end_of at x) xs ys)
  where
    next : ℕ
    next = end_of at x

    by_test : (b : Bool)
        → leaves next (xs ++ ys) ≡ leaves next xs ++ leaves (end_of_all next xs) ys
        → (if b then leaf_at at x ∷ leaves next (xs ++ ys) else leaves next (xs ++ ys))
        ≡ (if b then leaf_at at x ∷ leaves next xs else leaves next xs)
        ++ leaves (end_of_all next xs) ys
    by_test true e = ap (λ t. leaf_at at x ∷ t) e
    by_test false e = e

bytes-both : (a b : Text) → byte_length (a ++ b) ≡ byte_length a + byte_length b
bytes-both [] b = omega arith
bytes-both (c ∷ a) b =
    let e = bytes-both a b in
    let s : len_utf8 c + byte_length (a ++ b) ≡ len_utf8 c + byte_length a + byte_length b =
    omega (arith, e) in s

-- Tokens end after the bytes of their text.
pub end-joined : (at : ℕ) (xs : List Lexeme) → end_of_all at xs ≡ at + byte_length (joined xs)
end-joined at [] = omega arith
end-joined at (x ∷ xs) =
    let e = end-joined (end_of at x) xs in
    let b = bytes-both x.body (x.suffix ++ joined xs) in
    let s = bytes-both x.suffix (joined xs) in omega (arith, e, b, s)

-- The rest of a file after a front of it.
pub left-past : (whole rest rest_after : List ℕ) (xs : List Lexeme) → IsUtf8 rest
    → IsUtf8 rest_after → length rest ≤ length whole → ReadsTo (chars rest) xs (chars rest_after)
    → (ls : List Leaf) → AreLeft (record { whole = whole; rest = rest_after }) ls
    → AreLeft (record { whole = whole; rest = rest })
    (leaves (length whole - length rest) xs ++ ls)
left-past whole rest rest_after xs u v h r ls l =
    let at : ℕ = length whole - length rest in
    let n = bytes-join rest rest_after (joined xs) u v
    (reads-join (chars rest) xs (chars rest_after) r) in
    let e : end_of_all at xs ≡ length whole - length rest_after =
    let d = end-joined at xs in omega (arith, d, n, h) in (
      xs ++ l.0,
      reads-both (chars rest) xs (chars rest_after) l.0 [] r l.1,
      ap (λ t. leaves at xs ++ t) (l.2 ∙ ap (λ k. leaves k l.0) (sym e))
          ∙ sym (leaves-both at xs l.0),
    )

-- A front before a word.
pub left-past_front : (whole rest front rest_after : List ℕ) → IsUtf8 rest → IsUtf8 front
    → IsUtf8 rest_after → length rest ≤ length whole → rest ≡ front ++ rest_after
    → first_passes is_id_start (chars rest_after) ≡ true → (xs : List Lexeme)
    → ReadsBeforeWords (chars front) xs → (ls : List Leaf)
    → AreLeft (record { whole = whole; rest = rest_after }) ls
    → AreLeft (record { whole = whole; rest = rest })
    (leaves (length whole - length rest) xs ++ ls)
left-past_front whole rest front rest_after u w v h e y xs r ls l =
    left-past whole rest rest_after xs u v h
    (subst (λ t. ReadsTo t xs (chars rest_after))
    (sym (ap (λ t. chars t) e ∙ chars-append front rest_after w))
    (word (chars rest_after) y)) ls l
  where
    word : (t : Text) → first_passes is_id_start t ≡ true → ReadsTo (chars front ++ t) xs t
    word [] n = absurd (false≢true n)
    word (c ∷ t) n = r c t n
