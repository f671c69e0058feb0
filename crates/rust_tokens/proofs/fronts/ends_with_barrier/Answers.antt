use Rattle.std.proofs.Common.{◌≡◌, ◌++◌, ◌∙◌, [], ◌∷◌, ℕ, List, IsTrue, IsUtf8, append-nil}
use Rattle.std.proofs.Common.{ap, arith, chars, length, length-append, rules, subst, sym, take}
use Rattle.std.specs.Prelude.{encode_utf8}
use Rattle.std.specs.Char.{IsScalar}
use Rattle.std.proofs.lemmas.List.{nil_from_length, same_from_push, take-append-le, take_all}
use Rattle.std.proofs.lemmas.Str.{IsCharBoundary-at_seam, IsUtf8-encode, IsUtf8-take, chars-append}
use Rattle.std.proofs.lemmas.Str.{chars-nil, chars_past_char}
use Rattle.rust_tokens.specs.Fronts.{is_barrier}
use Rattle.rust_tokens.proofs.fronts.ends_with_barrier.Goals as goal

-- The characters of a text of which the last one is given.
last-char : (s r : List ℕ) (c : ℕ) → IsUtf8 s → IsScalar c → s ≡ r ++ encode_utf8 c
    → chars s ≡ chars r ++ c ∷ []
last-char s r c u k e =
    let one = IsUtf8-encode c k in
    let n = length r in
    let same : take n s ≡ r = ap (λ t. take n t) e
    ∙ (take-append-le n r (encode_utf8 c) (omega arith) ∙ take_all n r (omega arith)) in
    let cut = IsCharBoundary-at_seam s r (encode_utf8 c) e one in
    let front : IsUtf8 r = subst (λ t. IsUtf8 t) same (IsUtf8-take s n u cut) in
    ap (λ t. chars t) e ∙ (chars-append r (encode_utf8 c) front
    ∙ ap (λ t. chars r ++ t) (chars_past_char (encode_utf8 c) [] c one
    (sym (append-nil (encode_utf8 c))) ∙ ap (λ t. c ∷ t) chars-nil))

pub returns-in-Some : goal.returns-in-Some
returns-in-Some c =
    let t = c.args.text.now in
    let r = c.next_back.new.self.rest.now in
    let d = c.in-Some.c in
    let k : IsScalar d = search rules in
    let e : chars t ≡ chars r ++ d ∷ [] =
    last-char t r d c.utf8.text k (sym c.chars.ensures.rest ∙ c.in-Some.ensures.steps) in (
      λ b. (chars r, d, subst (λ z. IsTrue z) c.is_barrier.ensures b, e),
      λ b.
          let same = same_from_push (chars r) b.0 d b.1 (sym e ∙ b.3) in
          let passes = ap (λ x. is_barrier x) (sym same.1) ∙ sym c.is_barrier.ensures in
          subst (λ z. IsTrue z) passes b.2,
    )

pub returns-in-None : goal.returns-in-None
returns-in-None c = (
  λ b. absurd (search (b, rules)),
  λ b.
      let bytes = ap (λ t. length t) (sym c.chars.ensures.rest) ∙ c.in-None.ensures.steps.0 in
      let empty : chars c.args.text.now ≡ [] =
      ap (λ t. chars t) (nil_from_length c.args.text.now bytes) ∙ chars-nil in
      let none = ap (λ t. length t) (sym b.3 ∙ empty) in
      let size = length-append b.0 (b.1 ∷ []) in absurd (omega (arith, size, none)),
)
