-- The tokens of a reading cover the text.
use Rattle.std.proofs.Common.{◌≡◌, ℕ, ◌<◌, ◌++◌, List, [], ◌∷◌, refl, ap, sym, ◌∙◌, inl}
use Rattle.std.proofs.Common.{inr}
use Rattle.std.proofs.Common.{subst, arith, chars, length, IsUtf8}
use Rattle.std.specs.Prelude.{encode_utf8_all}
use Rattle.std.proofs.lemmas.Str.{encodes-chars}
use Rattle.rust_tokens.specs.declared.kinds.Token.{Token}
use Rattle.rust_tokens.specs.Texts.{Text}
use Rattle.rust_tokens.specs.Tokens.{Lexeme, ReadsTo}
use Rattle.rust_tokens.specs.Files.{IsMarked, IsShebanged}
use Rattle.rust_tokens.specs.Spans.{byte_length, end_of, end_of_all, placed_tokens}
use Rattle.rust_tokens.specs.Covers.{Covers}
use Rattle.rust_tokens.proofs.Files.{Lexed}
use Rattle.rust_tokens.proofs.NotEmpty.{body-bytes}

-- No token is empty.
abbrev AllSome : List Lexeme → Type 0
AllSome [] = Unit
AllSome (x ∷ xs) = (0 < byte_length x.body) × AllSome xs

some-append : (xs ys : List Lexeme) → AllSome xs → AllSome ys → AllSome (xs ++ ys)
some-append [] ys f g = g
some-append (x ∷ xs) ys f g = (f.0, some-append xs ys f.1 g)

reads-some : (t r : Text) (xs : List Lexeme) → ReadsTo t xs r → AllSome xs
reads-some t r [] f = tt
reads-some t r (x ∷ xs) f = (body-bytes x t f.0 f.1, reads-some f.0 r xs f.2)

marked-some : (t u : Text) (xs : List Lexeme) → IsMarked t xs u → AllSome xs
marked-some t u xs (inl f) = subst (λ ys. AllSome ys) (sym f.0) (omega arith, tt)
marked-some t u xs (inr f) = subst (λ ys. AllSome ys) (sym f.0) tt

shebanged-some : (t u : Text) (xs : List Lexeme) → IsShebanged t xs u → AllSome xs
shebanged-some t u xs (inl f) = subst (λ ys. AllSome ys) (sym f.1) (omega arith, tt)
shebanged-some t u xs (inr f) = subst (λ ys. AllSome ys) (sym f.0) tt

placed-covers : (at end : ℕ) (xs : List Lexeme) → AllSome xs → end_of_all at xs ≡ end
    → Covers at (placed_tokens at xs) end
placed-covers at end [] f e = e
placed-covers at end (x ∷ xs) f e =
    (refl, omega (arith, f.0), omega arith, placed-covers (end_of at x) end xs f.1 e)

pub lexed-covers : (whole rest : List ℕ) (found : List Token) → Lexed whole found rest
    → IsUtf8 rest → chars rest ≡ [] → Covers 0 found (length whole)
lexed-covers whole rest found l u e =
    let all : List Lexeme = l.0 ++ (l.1 ++ l.2) in
    let some : AllSome all = some-append l.0 (l.1 ++ l.2) (marked-some (chars whole) l.3 l.0 l.5)
    (some-append l.1 l.2 (shebanged-some l.3 l.4 l.1 l.6) (reads-some l.4 (chars rest) l.2 l.7)) in
    let n = l.9 in
    let m : length rest ≡ 0 =
    ap (λ r. length r) (sym (encodes-chars rest u) ∙ ap (λ t. encode_utf8_all t) e) in
    subst (λ ts. Covers 0 ts (length whole)) (sym l.8)
    (placed-covers 0 (length whole) all some (omega (arith, n, m)))
