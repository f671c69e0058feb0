-- The start of a file.
use Rattle.std.proofs.Common.{◌≡◌, ℕ, ◌+◌, ◌-◌, ◌<◌, ◌≤◌, Bool, true, false, ◌++◌, List}
use Rattle.std.proofs.Common.{[], ◌∷◌, cond}
use Rattle.std.proofs.Common.{Some, None, Option, refl, ap, sym, ◌∙◌, inl, inr, subst, chars}
use Rattle.std.proofs.Common.{length, arith}
use Rattle.std.proofs.Common.{append_assoc, IsUtf8}
use Rattle.std.specs.Prelude.{IsTrue, is_some, codes, nat_lt, ◌==◌, option_map}
use Rattle.std.specs.List.{list_all}
use Rattle.std.proofs.lemmas.Bool.{false≢true, and_parts, and_from, eqb-true, cond-true, cond-false}
use Rattle.std.proofs.lemmas.List.Folds.{list_all-append}
use Rattle.std.proofs.lemmas.Option.{none-some, same_Some}
use Rattle.rust_tokens.specs.declared.kinds.Kind.{Kind}
use Rattle.rust_tokens.specs.declared.kinds.Kind.TheVariants.{Punct, Shebang, ByteOrderMark}
use Rattle.rust_tokens.specs.declared.kinds.Token.{Token}
use Rattle.rust_tokens.specs.Texts.{Text, strip}
use Rattle.rust_tokens.specs.Runs.{first_passes, stops, rest_after, is_id_start, is_in_line}
use Rattle.rust_tokens.specs.Tokens.{Lexeme, Begins, ReadsTo}
use Rattle.rust_tokens.specs.Files.{is_gap, is_bracket, OpensAttribute, mark, shebang}
use Rattle.rust_tokens.specs.Files.{IsMarked, IsShebanged}
use Rattle.rust_tokens.specs.First.{Body, first_of}
use Rattle.rust_tokens.specs.Spans.{byte_length, end_of, end_of_all, token_at, placed_tokens}
use Rattle.rust_tokens.specs.Spans.{token_between}
use Rattle.rust_tokens.proofs.Basics.{no_pass, front, front-rest_after, all-front, stops-rest_after}
use Rattle.rust_tokens.proofs.Basics.{strip-reads}
use Rattle.rust_tokens.proofs.Classes.{start_at}
use Rattle.rust_tokens.proofs.Readings.{reads-more, placed-more, end-more, bytes-join}
use Rattle.rust_tokens.proofs.Readings.{not-at-end}
use Rattle.rust_tokens.proofs.Suffixes.{begins-once, begins-first}

-- The tokens that were found of a file, up to the bytes that are left.
abbrev pub Lexed : List ℕ → List Token → List ℕ → Type 0
Lexed whole found rest = (ms ss xs : List Lexeme) × (t u : Text) × IsMarked (chars whole) ms t
    × IsShebanged t ss u × ReadsTo u xs (chars rest) × (found ≡ placed_tokens 0 (ms ++ (ss ++ xs)))
    × (end_of_all 0 (ms ++ (ss ++ xs)) + length rest ≡ length whole)

-- One token more.
pub lexed-more : (whole rest more : List ℕ) (found : List Token) (x : Lexeme) (token : Token)
    → Lexed whole found rest → Begins x (chars rest) (chars more)
    → length rest ≡ byte_length x.body + (byte_length x.suffix + length more)
    → ((at : ℕ) → at + length rest ≡ length whole → token ≡ token_at at x)
    → Lexed whole (found ++ token ∷ []) more
lexed-more whole rest more found x token l b n t =
    let all : List Lexeme = l.0 ++ (l.1 ++ l.2) in
    let at : ℕ = end_of_all 0 all in
    let same : l.0 ++ (l.1 ++ (l.2 ++ x ∷ [])) ≡ all ++ x ∷ [] =
    ap (λ r. l.0 ++ r) (sym (append_assoc l.1 l.2 (x ∷ [])))
    ∙ sym (append_assoc l.0 (l.1 ++ l.2) (x ∷ [])) in
    let e : end_of_all 0 (l.0 ++ (l.1 ++ (l.2 ++ x ∷ []))) ≡ end_of at x =
    ap (λ r. end_of_all 0 r) same ∙ end-more 0 all x in
    let w = l.9 in (
      l.0,
      l.1,
      l.2 ++ x ∷ [],
      l.3,
      l.4,
      l.5,
      l.6,
      reads-more l.4 l.2 (chars rest) x (chars more) l.7 b,
      ap (λ r. r ++ token ∷ []) l.8 ∙ (ap (λ r. placed_tokens 0 all ++ r ∷ []) (t at l.9)
          ∙ (sym (placed-more 0 all x) ∙ ap (λ r. placed_tokens 0 r) (sym same))),
      omega (arith, e, n, w),
    )

-- A mark and a shebang.
append_none : (xs : List Lexeme) → xs ++ [] ≡ xs
append_none [] = refl
append_none (x ∷ xs) = ap (λ r. x ∷ r) (append_none xs)

placed-append : (at : ℕ) (xs ys : List Lexeme)
    → placed_tokens at (xs ++ ys) ≡ placed_tokens at xs ++ placed_tokens (end_of_all at xs) ys
placed-append at [] ys = refl
placed-append at (x ∷ xs) ys = ap (λ r. token_at at x ∷ r) (placed-append (end_of at x) xs ys)

pub end-append : (at : ℕ) (xs ys : List Lexeme)
    → end_of_all at (xs ++ ys) ≡ end_of_all (end_of_all at xs) ys
end-append at [] ys = refl
end-append at (x ∷ xs) ys = end-append (end_of at x) xs ys

pub lexed-start : (whole unmarked rest : List ℕ) (found : List Token) (ms ss : List Lexeme)
    → IsMarked (chars whole) ms (chars unmarked)
    → placed_tokens 0 ms ≡ token_between ByteOrderMark 0 (length whole - length unmarked)
    → end_of_all 0 ms + length unmarked ≡ length whole
    → IsShebanged (chars unmarked) ss (chars rest)
    → ((at : ℕ) → (placed_tokens at ss
    ≡ token_between Shebang at (at + (length unmarked - length rest)))
    × (end_of_all at ss + length rest ≡ at + length unmarked))
    → length rest ≤ length unmarked
    → found ≡ ([] ++ token_between ByteOrderMark 0 (length whole - length unmarked))
    ++ token_between Shebang (length whole - length unmarked) (length whole - length rest)
    → Lexed whole found rest
lexed-start whole unmarked rest found ms ss m p e s q l f =
    let at : ℕ = end_of_all 0 ms in
    let start : length whole - length unmarked ≡ at = omega (arith, e) in
    let end : length whole - length rest ≡ at + (length unmarked - length rest) =
    omega (arith, e, l) in
    let y = q at in
    let z = y.1 in
    let n : end_of_all 0 (ms ++ (ss ++ [])) ≡ end_of_all at ss =
    end-append 0 ms (ss ++ []) ∙ ap (λ r. end_of_all at r) (append_none ss) in (
      ms,
      ss,
      [],
      chars unmarked,
      chars rest,
      m,
      s,
      refl,
      f ∙ (ap (λ r. token_between ByteOrderMark 0 (length whole - length unmarked) ++ r)
          (rw (start, end) refl) ∙ (ap (λ r. r ++ token_between Shebang at (at +
          (length unmarked - length rest))) (sym p)
          ∙ (ap (λ r. placed_tokens 0 ms ++ r) (sym y.0)
          ∙ sym (placed-append 0 ms (ss ++ []) ∙ ap (λ r. placed_tokens 0 ms ++ placed_tokens at r)
          (append_none ss))))),
      omega (arith, e, n, z),
    )

between-some : (k : Kind) (a b : ℕ) → a < b → token_between k a b ≡ record {
  kind = k;
  span = record { start = a; end = b };
  suffix_start = b;
  is_ended = true;
} ∷ []
between-some k a b h = cond-true (nat_lt a b) _ _ (search (arith, h))

between-none : (k : Kind) (a b : ℕ) → b ≡ a → token_between k a b ≡ []
between-none k a b h = cond-false (nat_lt a b) _ _ (search (arith, h))

-- A rest that follows the mark, with the token of the mark.
pub marked : (whole rest : List ℕ) → IsUtf8 whole → IsUtf8 rest
    → Some (chars rest) ≡ strip 0xFEFF (chars whole)
    → (xs : List Lexeme) × IsMarked (chars whole) xs (chars rest)
    × (placed_tokens 0 xs ≡ token_between ByteOrderMark 0 (length whole - length rest))
    × (end_of_all 0 xs + length rest ≡ length whole)
marked whole rest u v h =
    let j : chars whole ≡ 0xFEFF ∷ chars rest = strip-reads 0xFEFF (chars whole) (chars rest)
    (sym h) in
    let n : length whole ≡ 3 + length rest = bytes-join whole rest (0xFEFF ∷ []) u v j in
    let d : length whole - length rest ≡ 3 = omega (arith, n) in (
      mark ∷ [],
      inl (refl, j),
      sym (ap (λ b. token_between ByteOrderMark 0 b) d),
      omega (arith, n),
    )

no-strip : (d : ℕ) (t : Text) → None ≡ strip d t → first_passes (λ c. c == d) t ≡ false
no-strip d [] h = refl
no-strip d (c ∷ t) h = by_test (c == d) h
  where
    by_test : (b : Bool) → ◌≡◌ {A = Option Text} None (cond b (Some t) None) → b ≡ false
    by_test true h = absurd (none-some t h)
    by_test false h = refl

pub unmarked : (whole : List ℕ) → None ≡ strip 0xFEFF (chars whole)
    → (xs : List Lexeme) × IsMarked (chars whole) xs (chars whole)
    × (placed_tokens 0 xs ≡ token_between ByteOrderMark 0 (length whole - length whole))
    × (end_of_all 0 xs + length whole ≡ length whole)
unmarked whole h =
    let d : length whole - length whole ≡ 0 = omega arith in (
      [],
      inr (refl, refl, no_pass _ (no-strip 0xFEFF (chars whole) h)),
      sym (ap (λ b. token_between ByteOrderMark 0 b) d),
      omega arith,
    )

-- A bracket begins no gap.
bracket-first : (t r : Text) (x : Lexeme) → IsTrue (first_passes is_bracket t) → Begins x t r
    → is_gap x.kind ≡ false
bracket-first [] r x h b = absurd (false≢true h)
bracket-first (c ∷ t) r x h b =
    let e : c ≡ 91 = eqb-true c 91 h in
    let f : first_of (91 ∷ t) ≡ Some (x.kind, x.is_ended, x.suffix ++ r) =
    ap (λ d. first_of (d ∷ t)) (sym e) ∙ begins-first x (c ∷ t) r b in
    let g : ◌≡◌ {A = Body} (Punct, true, t) (x.kind, x.is_ended, x.suffix ++ r) =
    same_Some _ _ (ap (λ z. Some z) (sym (cond-false (is_id_start 91) _ _ (start_at 91
    (omega arith)))) ∙ f) in
    ap (λ z. is_gap z.0) (sym g)

-- Gaps up to a text that begins with none, and gaps up to a bracket, end at the same place.
pub gaps-once : (t a b : Text) (xs ys : List Lexeme) → ReadsTo t xs a → ReadsTo t ys b
    → IsTrue (list_all (λ x. is_gap x.kind) xs) → IsTrue (list_all (λ x. is_gap x.kind) ys)
    → ((x : Lexeme) (r : Text) → Begins x a r → is_gap x.kind ≡ false)
    → IsTrue (first_passes is_bracket b) → a ≡ b
gaps-once t a b [] [] f g p q n h = sym f ∙ g
gaps-once t a b [] (y ∷ ys) f g p q n h =
    absurd (false≢true (sym (n y g.0 (subst (λ u. Begins y u g.0) f g.1)) ∙ (and_parts _ _ q).0))
gaps-once t a b (x ∷ xs) [] f g p q n h =
    absurd (false≢true (sym (bracket-first b f.0 x h (subst (λ u. Begins x u f.0) g f.1))
    ∙ (and_parts _ _ p).0))
gaps-once t a b (x ∷ xs) (y ∷ ys) f g p q n h =
    let same = begins-once x y t f.0 g.0 f.1 g.1 in
    gaps-once g.0 a b xs ys (subst (λ u. ReadsTo u xs a) same.1 f.2) g.2 (and_parts _ _ p).1
    (and_parts _ _ q).1 n h

-- The gaps that were passed.
abbrev pub Passed : Text → Text → Type 0
Passed t r = (xs : List Lexeme) × ReadsTo t xs r × IsTrue (list_all (λ x. is_gap x.kind) xs)

pub passed-more : (t r m : Text) (x : Lexeme) → Passed t r → Begins x r m → is_gap x.kind ≡ true
    → Passed t m
passed-more t r m x p b g = (
  p.0 ++ x ∷ [],
  reads-more t p.0 r x m p.1 b,
  list_all-append (λ y. is_gap y.kind) p.0 (x ∷ []) ∙ and_from _ _ p.2 (and_from _ _ g refl),
)

bracket-there : (t : Text) → is_some (strip 91 t) ≡ first_passes is_bracket t
bracket-there [] = refl
bracket-there (c ∷ t) = by_test (c == 91)
  where
    by_test : (b : Bool) → is_some (cond b (Some t) None) ≡ b
    by_test true = refl
    by_test false = refl

some-map : {A B : Type 0} (f : A → B) (o : Option A) → is_some o ≡ is_some (option_map f o)
some-map f None = refl
some-map f (Some x) = refl

-- Where gaps end before another token, that decides.
pub no-attribute : {A : Type 0} (f : A → Text) (o : Option A) (t rest m : Text) (x : Lexeme)
    → Passed t rest → Begins x rest m → is_gap x.kind ≡ false → option_map f o ≡ strip 91 rest
    → is_some o ≡ false → OpensAttribute t → ⊥
no-attribute f o t rest m x p b g e n a =
    let same = gaps-once t rest a.1 p.0 a.0 p.1 a.2 p.2 a.3
    (λ y r d. ap (λ z. is_gap z.kind) (begins-once y x rest r m d b).0 ∙ g) a.4 in
    false≢true (sym n ∙ (some-map f o ∙ (ap (λ z. is_some z) e ∙ (bracket-there rest
    ∙ (ap (λ u. first_passes is_bracket u) same ∙ a.4)))))

pub attribute-there : {A : Type 0} (f : A → Text) (o : Option A) (t rest : Text) → Passed t rest
    → option_map f o ≡ strip 91 rest → is_some o ≡ true → OpensAttribute t
attribute-there f o t rest p e y = (
  p.0,
  rest,
  p.1,
  p.2,
  sym (bracket-there rest) ∙ (ap (λ z. is_some z) (sym e) ∙ (sym (some-map f o) ∙ y)),
)

pub no-attribute-at-end : (t rest : Text) → Passed t rest → rest ≡ [] → OpensAttribute t → ⊥
no-attribute-at-end t rest p e a =
    let same = gaps-once t rest a.1 p.0 a.0 p.1 a.2 p.2 a.3
    (λ y r d. absurd (not-at-end y rest r e d)) a.4 in
    false≢true (ap (λ u. first_passes is_bracket u) (sym e ∙ same) ∙ a.4)

-- A rest that follows a shebang, with the token of the shebang.
pub shebanged : (whole hash line rest : List ℕ) → IsUtf8 whole → IsUtf8 rest
    → Some (chars hash) ≡ strip 35 (chars whole) → Some (chars line) ≡ strip 33 (chars hash)
    → chars rest ≡ rest_after is_in_line (chars line) → (OpensAttribute (chars line) → ⊥)
    → (xs : List Lexeme) × IsShebanged (chars whole) xs (chars rest)
    × ((at : ℕ) → (placed_tokens at xs
    ≡ token_between Shebang at (at + (length whole - length rest)))
    × (end_of_all at xs + length rest ≡ at + length whole))
shebanged whole hash line rest u v h g b n =
    let f : Text = front is_in_line (chars line) in
    let j : chars line ≡ f ++ chars rest =
    front-rest_after is_in_line (chars line) ∙ ap (λ t. f ++ t) (sym b) in
    let w : chars whole ≡ codes "#!" ++ (f ++ chars rest) =
    strip-reads 35 (chars whole) (chars hash) (sym h)
    ∙ ap (λ t. 35 ∷ t) (strip-reads 33 (chars hash) (chars line) (sym g) ∙ ap (λ t. 33 ∷ t) j) in
    let k : length whole ≡ 1 + (1 + byte_length f) + length rest =
    bytes-join whole rest (35 ∷ 33 ∷ f) u v w in (
      shebang f ∷ [],
      inl (
        f,
        refl,
        w,
        all-front is_in_line (chars line),
        subst (λ t. IsTrue (stops is_in_line t)) (sym b) (stops-rest_after is_in_line (chars line)),
        λ a. n (subst (λ t. OpensAttribute t) (sym j) a),
      ),
      λ at.
          let c : at + (1 + (1 + byte_length f)) + 0 ≡ at + (length whole - length rest) =
          omega (arith, k) in
          let d : at + (1 + (1 + byte_length f)) ≡ at + (length whole - length rest) =
          omega (arith, k) in
          let l : at < at + (length whole - length rest) = omega (arith, k) in (
            rw (c, d) (sym (between-some Shebang at (at + (length whole - length rest)) l)),
            omega (arith, k),
          ),
    )

pub shebang-within : (whole hash line rest : List ℕ) → IsUtf8 whole → IsUtf8 rest
    → Some (chars hash) ≡ strip 35 (chars whole) → Some (chars line) ≡ strip 33 (chars hash)
    → chars rest ≡ rest_after is_in_line (chars line) → length rest ≤ length whole
shebang-within whole hash line rest u v h g b =
    let f : Text = front is_in_line (chars line) in
    let j : chars line ≡ f ++ chars rest =
    front-rest_after is_in_line (chars line) ∙ ap (λ t. f ++ t) (sym b) in
    let w : chars whole ≡ codes "#!" ++ (f ++ chars rest) =
    strip-reads 35 (chars whole) (chars hash) (sym h)
    ∙ ap (λ t. 35 ∷ t) (strip-reads 33 (chars hash) (chars line) (sym g) ∙ ap (λ t. 33 ∷ t) j) in
    let k : length whole ≡ 1 + (1 + byte_length f) + length rest =
    bytes-join whole rest (35 ∷ 33 ∷ f) u v w in
    omega (arith, k)

unshebanged : (whole : List ℕ) → ((u : Text) → chars whole ≡ codes "#!" ++ u → OpensAttribute u)
    → (xs : List Lexeme) × IsShebanged (chars whole) xs (chars whole)
    × ((at : ℕ) → (placed_tokens at xs
    ≡ token_between Shebang at (at + (length whole - length whole)))
    × (end_of_all at xs + length whole ≡ at + length whole))
unshebanged whole f = (
  [],
  inr (refl, refl, f),
  λ at. (sym (between-none Shebang at (at + (length whole - length whole)) (omega arith)), refl),
)

pub no-hash : (whole : List ℕ) → None ≡ strip 35 (chars whole)
    → (xs : List Lexeme) × IsShebanged (chars whole) xs (chars whole)
    × ((at : ℕ) → (placed_tokens at xs
    ≡ token_between Shebang at (at + (length whole - length whole)))
    × (end_of_all at xs + length whole ≡ at + length whole))
no-hash whole h =
    unshebanged whole (λ u j. absurd (none-some _ (h ∙ ap (λ t. strip 35 t) j)))

pub no-bang : (whole hash : List ℕ) → Some (chars hash) ≡ strip 35 (chars whole)
    → None ≡ strip 33 (chars hash)
    → (xs : List Lexeme) × IsShebanged (chars whole) xs (chars whole)
    × ((at : ℕ) → (placed_tokens at xs
    ≡ token_between Shebang at (at + (length whole - length whole)))
    × (end_of_all at xs + length whole ≡ at + length whole))
no-bang whole hash h g =
    unshebanged whole (λ u j. absurd (none-some _ (g ∙ ap (λ t. strip 33 t)
    (same_Some _ _ (h ∙ ap (λ t. strip 35 t) j)))))

pub attribute : (whole hash line : List ℕ) → Some (chars hash) ≡ strip 35 (chars whole)
    → Some (chars line) ≡ strip 33 (chars hash) → OpensAttribute (chars line)
    → (xs : List Lexeme) × IsShebanged (chars whole) xs (chars whole)
    × ((at : ℕ) → (placed_tokens at xs
    ≡ token_between Shebang at (at + (length whole - length whole)))
    × (end_of_all at xs + length whole ≡ at + length whole))
attribute whole hash line h g a =
    unshebanged whole (λ u j. subst (λ t. OpensAttribute t)
    (same_Some _ _ (g ∙ ap (λ t. strip 33 t) (same_Some _ _ (h ∙ ap (λ t. strip 35 t) j)))) a)
