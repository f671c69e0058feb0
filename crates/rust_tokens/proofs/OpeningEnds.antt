-- Where a text begins with an opening, it is found.
use Rattle.std.proofs.Common.{◌≡◌, ℕ, Bool, true, false, ◌&&◌, ◌++◌, cond, [], ◌∷◌, inl, inr}
use Rattle.std.proofs.Common.{Option, Some, None, refl, ap, sym, ◌∙◌, append_assoc, subst}
use Rattle.std.specs.Prelude.{◌==◌, codes, is_some, replicate, option_map}
use Rattle.std.specs.Option.{option_or}
use Rattle.std.proofs.lemmas.Bool.{eqb-true, false≢true, and_parts, cond_both, cond-true}
use Rattle.rust_tokens.specs.declared.kinds.Kind.{Kind}
use Rattle.rust_tokens.specs.declared.kinds.Kind.TheVariants.{Str, ByteStr, CStr, RawStr}
use Rattle.rust_tokens.specs.declared.kinds.Kind.TheVariants.{RawByteStr, RawCStr}
use Rattle.rust_tokens.specs.declared.openings.Opening.{Opening}
use Rattle.rust_tokens.specs.declared.openings.Opening.TheVariants.{Quote, Raw, ByteQuote, RawWord}
use Rattle.rust_tokens.specs.Texts.{Text, strip, HasNoFront}
use Rattle.rust_tokens.specs.Runs.{rest_after, count, is_hash, is_id_start}
use Rattle.rust_tokens.specs.Openings.{IsOpening, first_opening, raw_opening}
use Rattle.rust_tokens.specs.Openings.{word_opening, byte_opening, c_opening}
use Rattle.rust_tokens.proofs.Basics.{front-rest_after, hash-front, strip-reads}
use Rattle.rust_tokens.proofs.Classes.{apart, rest_after-hashes, count-hashes, starts-hash}
use Rattle.rust_tokens.proofs.Classes.{starts-quote}

pub raw-opens : (k : Kind) (n : ℕ) (t : Text)
    → raw_opening k (replicate n 35 ++ 34 ∷ t) ≡ Some (Raw k n, t)
raw-opens k n t =
    ap (λ u. option_map (λ v. (Raw k (count is_hash (replicate n 35 ++ 34 ∷ t)), v)) (strip 34 u))
    (rest_after-hashes n t) ∙ ap (λ m. Some (Raw k m, t)) (count-hashes n t)

pub word-opens : (c : ℕ) (t : Text) → is_id_start c ≡ true
    → first_opening (114 ∷ 35 ∷ c ∷ t) ≡ Some (RawWord, t)
word-opens c t y =
    rw (apart is_id_start c 35 starts-hash y) (rw (apart is_id_start c 34 starts-quote y)
    (cond-true (is_id_start c) _ _ y))

raw-there : (p : Text) (k : Kind) (n : ℕ) (r : Text)
    → (p ++ (replicate n 35 ++ 34 ∷ [])) ++ r ≡ p ++ (replicate n 35 ++ 34 ∷ r)
raw-there p k n r =
    append_assoc p (replicate n 35 ++ 34 ∷ []) r
    ∙ ap (λ t. p ++ t) (append_assoc (replicate n 35) (34 ∷ []) r)

-- Each opening is found.
found : (p r : Text) → IsOpening p → is_some (first_opening (p ++ r)) ≡ true
found p r (inl (inl e)) = ap (λ t. is_some (first_opening (t ++ r))) e
found p r (inl (inr (inl e))) = ap (λ t. is_some (first_opening (t ++ r))) e
found p r (inl (inr (inr (inl e)))) = ap (λ t. is_some (first_opening (t ++ r))) e
found p r (inl (inr (inr (inr e)))) = ap (λ t. is_some (first_opening (t ++ r))) e
found p r (inr (inl (n, inl e))) =
    ap (λ t. is_some (first_opening t)) (ap (λ t. t ++ r) e ∙ raw-there (codes "r") RawStr n r)
    ∙ ap (λ o. is_some (option_or o (word_opening (replicate n 35 ++ 34 ∷ r)))) (raw-opens RawStr n
    r)
found p r (inr (inl (n, inr (inl e)))) =
    ap (λ t. is_some (first_opening t)) (ap (λ t. t ++ r) e ∙ raw-there (codes "br") RawStr n r)
    ∙ ap (λ o. is_some o) (raw-opens RawByteStr n r)
found p r (inr (inl (n, inr (inr e)))) =
    ap (λ t. is_some (first_opening t)) (ap (λ t. t ++ r) e ∙ raw-there (codes "cr") RawStr n r)
    ∙ ap (λ o. is_some o) (raw-opens RawCStr n r)
found p r (inr (inr x)) =
    ap (λ t. is_some (first_opening (t ++ r))) x.2 ∙ ap (λ o. is_some o) (word-opens x.0 r x.1)

-- The front that is found is an opening.
abbrev Reads : Text → Option (Opening × Text) → Type 0
Reads t None = Unit
Reads t (Some x) = (p r : Text) × (t ≡ p ++ r) × IsOpening p

raw-reads : (p : Text) (k : Kind) → ((n : ℕ) (q : Text) → q ≡ p ++ (replicate n 35 ++ 34 ∷ [])
    → IsOpening q) → (t : Text) → Reads (p ++ t) (raw_opening k t)
raw-reads p k as_opening t = by_quote (strip 34 (rest_after is_hash t)) refl
  where
    by_quote : (o : Option Text) → strip 34 (rest_after is_hash t) ≡ o
        → Reads (p ++ t) (option_map (λ u. (Raw k (count is_hash t), u)) o)
    by_quote None e = tt
    by_quote (Some u) e =
        let n : ℕ = count is_hash t in
        let shape : t ≡ replicate n 35 ++ 34 ∷ u =
        front-rest_after is_hash t ∙ (ap (λ v. v ++ rest_after is_hash t) (hash-front t)
        ∙ ap (λ v. replicate n 35 ++ v) (strip-reads 34 _ u e)) in (
          p ++ (replicate n 35 ++ 34 ∷ []),
          u,
          ap (λ v. p ++ v) shape ∙ sym (raw-there p k n u),
          as_opening n (p ++ (replicate n 35 ++ 34 ∷ [])) refl,
        )

word-reads : (t : Text) → Reads (114 ∷ t) (word_opening t)
word-reads [] = tt
word-reads (c ∷ []) = tt
word-reads (c ∷ d ∷ t) = by_test (c == 35 && is_id_start d) refl
  where
    by_test : (b : Bool) → (c == 35 && is_id_start d) ≡ b
        → Reads (114 ∷ c ∷ d ∷ t) (cond b (Some (RawWord, t)) None)
    by_test false e = tt
    by_test true e =
        let x = and_parts (c == 35) (is_id_start d) e in (
          114 ∷ c ∷ d ∷ [],
          t,
          refl,
          inr (inr (d, x.1, ap (λ h. 114 ∷ h ∷ d ∷ []) (eqb-true c 35 x.0))),
        )

at : (o : Option (Opening × Text)) (p t : Text) (c d : ℕ) → (c == d) ≡ true → Reads (p ++ d ∷ t) o
    → Reads (p ++ c ∷ t) o
at o p t c d e f = subst (λ x. Reads (p ++ x ∷ t) o) (sym (eqb-true c d e)) f

byte-reads : (t : Text) → Reads (98 ∷ t) (byte_opening t)
byte-reads [] = tt
byte-reads (c ∷ t) =
    cond_both (c == 34) (Some (Quote ByteStr, t)) _ (λ o. Reads (98 ∷ c ∷ t) o)
    (λ y. at (Some (Quote ByteStr, t)) (codes "b") t c 34 y
    (codes "b\"", t, refl, inl (inr (inl refl))))
    (λ n. cond_both (c == 39) (Some (ByteQuote, t)) _ (λ o. Reads (98 ∷ c ∷ t) o)
    (λ y. at (Some (ByteQuote, t)) (codes "b") t c 39 y
    (codes "b'", t, refl, inl (inr (inr (inr refl)))))
    (λ n. cond_both (c == 114) (raw_opening RawByteStr t) None (λ o. Reads (98 ∷ c ∷ t) o)
    (λ y. at (raw_opening RawByteStr t) (codes "b") t c 114 y
    (raw-reads (codes "br") RawByteStr (λ m q e. inr (inl (m, inr (inl e)))) t))
    (λ n. tt)))

c-reads : (t : Text) → Reads (99 ∷ t) (c_opening t)
c-reads [] = tt
c-reads (c ∷ t) =
    cond_both (c == 34) (Some (Quote CStr, t)) _ (λ o. Reads (99 ∷ c ∷ t) o)
    (λ y. at (Some (Quote CStr, t)) (codes "c") t c 34 y
    (codes "c\"", t, refl, inl (inr (inr (inl refl)))))
    (λ n. cond_both (c == 114) (raw_opening RawCStr t) None (λ o. Reads (99 ∷ c ∷ t) o)
    (λ y. at (raw_opening RawCStr t) (codes "c") t c 114 y
    (raw-reads (codes "cr") RawCStr (λ m q e. inr (inl (m, inr (inr e)))) t))
    (λ n. tt))

r-reads : (t : Text) → Reads (114 ∷ t) (option_or (raw_opening RawStr t) (word_opening t))
r-reads t =
    by_raw (raw_opening RawStr t) (raw-reads (codes "r") RawStr (λ m q e. inr (inl (m, inl e))) t)
  where
    by_raw : (o : Option (Opening × Text)) → Reads (114 ∷ t) o
        → Reads (114 ∷ t) (option_or o (word_opening t))
    by_raw None f = word-reads t
    by_raw (Some x) f = f

reads : (t : Text) → Reads t (first_opening t)
reads [] = tt
reads (c ∷ t) =
    cond_both (c == 34) (Some (Quote Str, t)) _ (λ o. Reads (c ∷ t) o)
    (λ y. at (Some (Quote Str, t)) [] t c 34 y (codes "\"", t, refl, inl (inl refl)))
    (λ n. cond_both (c == 98) (byte_opening t) _ (λ o. Reads (c ∷ t) o)
    (λ y. at (byte_opening t) [] t c 98 y (byte-reads t))
    (λ n. cond_both (c == 99) (c_opening t) _ (λ o. Reads (c ∷ t) o)
    (λ y. at (c_opening t) [] t c 99 y (c-reads t))
    (λ n. cond_both (c == 114) (option_or (raw_opening RawStr t) (word_opening t)) None
    (λ o. Reads (c ∷ t) o)
    (λ y. at (option_or (raw_opening RawStr t) (word_opening t)) [] t c 114 y (r-reads t))
    (λ n. tt))))

-- Where no opening begins, none is found, and the other way round.
pub opening-none : (t : Text) → HasNoFront IsOpening t → first_opening t ≡ None
opening-none t f = by_opening (first_opening t) refl (reads t)
  where
    by_opening : (o : Option (Opening × Text)) → first_opening t ≡ o → Reads t o
        → first_opening t ≡ None
    by_opening None e x = e
    by_opening (Some y) e x = absurd (f x.0 x.1 x.2 x.3)

pub no-opening-begins : (t : Text) → first_opening t ≡ None → HasNoFront IsOpening t
no-opening-begins t e p r j x =
    false≢true (ap (λ o. is_some o) (sym e) ∙ (ap (λ u. is_some (first_opening u)) j ∙ found p r x))
