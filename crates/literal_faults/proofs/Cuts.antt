-- Where a text may be cut, by the rest of it.
use Rattle.std.proofs.Common.{◌≡◌, ℕ, ◌+◌, ◌-◌, ◌≤◌, ◌==◌, ◌++◌, ◌∷◌, List, [], sym, ap, subst}
use Rattle.std.proofs.Common.{◌∙◌, chars, length, length-append, IsUtf8, arith, Some}
use Rattle.std.proofs.Common.{append_assoc, refl, true}
use Rattle.std.proofs.Math.Utf8.{scalars}
use Rattle.std.specs.Prelude.{encode_utf8_all, IsCharBoundary}
use Rattle.std.proofs.lemmas.Bool.{and_parts, cond_both}
use Rattle.std.proofs.lemmas.Str.{IsCharBoundary-at_seam, encodes-append, encodes-chars}
use Rattle.std.proofs.lemmas.Str.{scalars-chars}
use Rattle.rustc_parse_format.specs.Characters.{Text, byte_length}
use Rattle.rustc_parse_format.proofs.Sources.PlainPlaces.{width_chars}
use Rattle.rust_tokens.specs.declared.kinds.Token.{Token}
use Rattle.rust_tokens.specs.Spans.{byte_length as token_length, token_at}
use Rattle.rust_tokens.specs.Tokens.{Begins, Lexeme}
use Rattle.rust_tokens.proofs.Readings.{byte-length}
use Rattle.literal_faults.specs.declared.fault.FaultKind.{FaultKind}
use Rattle.literal_faults.specs.Faults.{IsStringFault, fault_rest, stop_fault}
use Rattle.literal_faults.specs.Stops.{StopsAt}
use Rattle.literal_faults.proofs.Reading.{stop-end}

-- The bytes of a text that joins from two.
pub record IsCut (s r : List ℕ) (p : Text) : Type 0 where
  pub joins : s ≡ encode_utf8_all p ++ r
  pub within : length r ≤ length s
  pub boundary : IsCharBoundary s (length s - length r)

pub cut : (s r : List ℕ) (p : Text) → IsUtf8 s → IsUtf8 r → chars s ≡ p ++ chars r → IsCut s r p
cut s r p u v h =
    let e : s ≡ encode_utf8_all p ++ r =
    sym (encodes-chars s u) ∙ (ap (λ t. encode_utf8_all t) h ∙ (encodes-append p (chars r)
    ∙ ap (λ t. encode_utf8_all p ++ t) (encodes-chars r v))) in
    let n : length s ≡ length (encode_utf8_all p) + length r =
    ap (λ t. length t) e ∙ length-append (encode_utf8_all p) r in
    let same : length (encode_utf8_all p) ≡ length s - length r = omega arith in
    record {
      joins = e;
      within = omega arith;
      boundary = subst (IsCharBoundary s) same
          (IsCharBoundary-at_seam s (encode_utf8_all p) r e v);
    }

rest-end : (r : Text) → (p : Text) × (r ≡ p ++ fault_rest r)
rest-end [] = ([], refl)
rest-end (c ∷ t) = cond_both {A = Text} (c == 34) t (c ∷ t) (λ x. (p : Text) × (c ∷ t ≡ p ++ x))
    (λ _. (c ∷ [], refl)) (λ _. ([], refl))

-- The rest from a fault on is an end of the text.
pub fault-cut : (text rest : List ℕ) (content stop : Text) → IsUtf8 text → IsUtf8 rest
    → chars text ≡ 34 ∷ content → StopsAt content stop → chars rest ≡ fault_rest stop
    → (p : Text) × IsCut text rest p
fault-cut text rest content stop u v e a f =
    let x = stop-end content stop a in
    let y = rest-end stop in
    let p : Text = 34 ∷ (x.0 ++ y.0) in
    let h : chars text ≡ p ++ chars rest = e ∙ ap (λ t. 34 ∷ t)
    (x.1 ∙ (ap (λ t. x.0 ++ t) (y.1 ∙ ap (λ t. y.0 ++ t) (sym f))
    ∙ sym (append_assoc x.0 y.0 (chars rest)))) in
    (p, cut text rest p u v h)

-- The fault of a text that begins with a quote.
pub string-fault : (text rest : List ℕ) (content stop : Text) (k : FaultKind) → IsUtf8 text
    → IsUtf8 rest → chars text ≡ 34 ∷ content → StopsAt content stop
    → chars rest ≡ fault_rest stop → Some k ≡ stop_fault stop
    → IsStringFault (chars text) (record { kind = k; offset = length text - length rest })
string-fault text rest content stop k u v e a f g =
    let x = fault-cut text rest content stop u v e a f in
    let n : byte_length (fault_rest stop) ≡ length rest =
    ap byte_length (sym f) ∙ width_chars rest v in
    let m : byte_length (chars text) ≡ length text = width_chars text u in
    let within = x.1.within in
    record {
      content = content;
      stop = stop;
      opens = e;
      stops = a;
      is_kind = sym g;
      is_place = omega arith;
    }

scalars-end : (s t : Text) → scalars (s ++ t) ≡ true → scalars t ≡ true
scalars-end [] t h = h
scalars-end (c ∷ s) t h = scalars-end s t (and_parts _ _ h).1

-- The place after the body of a token is an end of a character.
pub after-body : (text : List ℕ) (x : Lexeme) (r : Text) → IsUtf8 text → Begins x (chars text) r
    → IsCharBoundary text (token_length x.body)
after-body text x r u b =
    let e : text ≡ encode_utf8_all x.body ++ encode_utf8_all (x.suffix ++ r) =
    sym (encodes-chars text u) ∙ (ap (λ t. encode_utf8_all t) b.joins
    ∙ encodes-append x.body (x.suffix ++ r)) in
    let s = scalars-end x.body (x.suffix ++ r) (rw b.joins at (scalars-chars text u)) in
    subst (IsCharBoundary text) (byte-length x.body)
    (IsCharBoundary-at_seam text (encode_utf8_all x.body) (encode_utf8_all (x.suffix ++ r)) e
    (x.suffix ++ r, (s, refl)))

pub token-place : (text : List ℕ) (x : Lexeme) (r : Text) (t : Token) → IsUtf8 text
    → Begins x (chars text) r → t ≡ token_at 0 x → IsCharBoundary text t.suffix_start
token-place text x r t u b e =
    let same : token_length x.body ≡ t.suffix_start = let h = ap (λ y. y.suffix_start) e in
    omega (arith, h) in
    subst (IsCharBoundary text) same (after-body text x r u b)
