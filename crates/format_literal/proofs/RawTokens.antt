-- A raw literal that is one token.
use Rattle.std.proofs.Common.{◌≡◌, ℕ, ◌+◌, ◌++◌, List, [], ◌∷◌, refl, sym, ap, ◌∙◌, subst, true}
use Rattle.std.proofs.Common.{chars, length, IsUtf8, arith}
use Rattle.std.proofs.lemmas.Str.{encodes-chars, len_utf8_bounds}
use Rattle.rustc_parse_format.specs.Characters.{Text}
use Rattle.rust_tokens.specs.declared.kinds.Kind.TheVariants.{RawStr}
use Rattle.rust_tokens.specs.declared.kinds.Token.{Token}
use Rattle.rust_tokens.specs.Spans.{byte_length, token_at}
use Rattle.rust_tokens.specs.Tokens.{Begins, Lexeme}
use Rattle.rust_tokens.proofs.Readings.{byte-length}
use Rattle.rust_tokens.proofs.Suffixes.{begins-once}
use Rattle.format_literal.specs.Spelling.{IsRawToken}

no-bytes : (t : Text) → byte_length t ≡ 0 → t ≡ []
no-bytes [] e = refl
no-bytes (c ∷ t) e = let l = (len_utf8_bounds c).0 in absurd (omega (arith, l, e))

width-append : (s t : Text) → byte_length (s ++ t) ≡ byte_length s + byte_length t
width-append [] t = omega arith
width-append (c ∷ s) t = let e = width-append s t in omega (arith, e)

width-chars : (bs : List ℕ) → IsUtf8 bs → byte_length (chars bs) ≡ length bs
width-chars bs u = sym (byte-length (chars bs)) ∙ ap (λ (t : List ℕ). length t) (encodes-chars bs u)

no-front : (s t : Text) → s ++ t ≡ [] → (s ≡ []) × (t ≡ [])
no-front [] t e = (refl, e)
no-front (c ∷ s) t e = absurd cc

-- A first token whose body is as long as the text is all of it.
pub raw-token : (bs : List ℕ) (t : Token) (x : Lexeme) (r : Text) → IsUtf8 bs
    → Begins x (chars bs) r → t ≡ token_at 0 x → t.kind ≡ RawStr → t.is_ended ≡ true
    → t.suffix_start ≡ length bs → IsRawToken (chars bs)
raw-token bs t x r u b s k e n =
    let w = width-chars bs u in
    let j = ap byte_length b.joins in
    let a = width-append x.body (x.suffix ++ r) in
    let m : byte_length x.body ≡ length bs = let v = ap (λ (y : Token). y.suffix_start) s in
    omega (arith, v, n) in
    let parts = no-front x.suffix r (no-bytes (x.suffix ++ r) (omega (arith, w, j, a, m))) in
    record {
      token = x;
      begins = subst (λ y. Begins x (chars bs) y) parts.1 b;
      is_raw = sym (ap (λ (y : Token). y.kind) s) ∙ k;
      is_ended = sym (ap (λ (y : Token). y.is_ended) s) ∙ e;
      suffix = parts.0;
    }

-- What the first token of a text is that is one raw literal.
pub record IsFirst (bs : List ℕ) (t : Token) : Type 0 where
  pub is_raw : t.kind ≡ RawStr
  pub is_ended : t.is_ended ≡ true
  pub whole : t.suffix_start ≡ length bs

pub first-token : (bs : List ℕ) (t : Token) (x : Lexeme) (r : Text) → IsUtf8 bs
    → Begins x (chars bs) r → t ≡ token_at 0 x → IsRawToken (chars bs) → IsFirst bs t
first-token bs t x r u b s h =
    let same : x ≡ h.token = (begins-once x h.token (chars bs) r [] b h.begins).0 in
    let w = width-chars bs u in
    let j = ap byte_length h.begins.joins in
    let a = width-append h.token.body (h.token.suffix ++ []) in
    let e : byte_length (h.token.suffix ++ []) ≡ 0 = rw h.suffix refl in
    let n : byte_length h.token.body ≡ length bs = omega (arith, w, j, a, e) in
    rw (s, same) record { is_raw = h.is_raw; is_ended = h.is_ended; whole = omega (arith, n) }
