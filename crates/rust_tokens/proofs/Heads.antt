-- The head in front of the tokens of a file.
use Rattle.std.proofs.Common.{◌≡◌, ℕ, ◌+◌, ◌++◌, List, inl, inr, refl, subst, sym, chars, length}
use Rattle.std.proofs.Common.{arith}
use Rattle.std.specs.Prelude.{IsTrue}
use Rattle.std.specs.List.{list_all}
use Rattle.std.proofs.lemmas.List.{append_assoc}
use Rattle.rust_tokens.specs.Tokens.{Lexeme, Reads}
use Rattle.rust_tokens.specs.Files.{is_head, IsMarked, IsShebanged, ReadsFile}
use Rattle.rust_tokens.specs.Spans.{end_of_all}
use Rattle.rust_tokens.specs.Texts.{Text}
use Rattle.rust_tokens.proofs.Files.{end-append}

abbrev AllHeads : List Lexeme → Type 0
AllHeads xs = IsTrue (list_all (λ x. is_head x.kind) xs)

marked-heads : (t u : Text) (xs ys : List Lexeme) → IsMarked t xs u → AllHeads ys
    → AllHeads (xs ++ ys)
marked-heads t u xs ys (inl f) h = subst (λ zs. AllHeads (zs ++ ys)) (sym f.0) h
marked-heads t u xs ys (inr f) h = subst (λ zs. AllHeads (zs ++ ys)) (sym f.0) h

shebanged-heads : (t u : Text) (xs : List Lexeme) → IsShebanged t xs u → AllHeads xs
shebanged-heads t u xs (inl f) = subst (λ zs. AllHeads zs) (sym f.1) refl
shebanged-heads t u xs (inr f) = subst (λ zs. AllHeads zs) (sym f.0) refl

-- The mark and the shebang in front of the rest.
pub heads : (whole unmarked rest : List ℕ) (ms ss : List Lexeme)
    → IsMarked (chars whole) ms (chars unmarked)
    → end_of_all 0 ms + length unmarked ≡ length whole
    → IsShebanged (chars unmarked) ss (chars rest)
    → end_of_all (end_of_all 0 ms) ss + length rest ≡ end_of_all 0 ms + length unmarked
    → (hs : List Lexeme) × IsTrue (list_all (λ x. is_head x.kind) hs)
    × ((rs : List Lexeme) → Reads (chars rest) rs → ReadsFile (chars whole) (hs ++ rs))
    × (end_of_all 0 hs + length rest ≡ length whole)
heads whole unmarked rest ms ss m e s q = (
  ms ++ ss,
  marked-heads (chars whole) (chars unmarked) ms ss m
      (shebanged-heads (chars unmarked) (chars rest) ss s),
  λ rs r. (ms, ss, rs, chars unmarked, chars rest, m, s, r, append_assoc ms ss rs),
  omega (arith, end-append 0 ms ss, q, e),
)
