-- The tokens of a call, by the piece that it returns.
use Rattle.std.proofs.Common.{◌≡◌, ℕ, ◌++◌, ◌-◌, ◌==◌, Bool, true, false, cond, List, [], ◌∷◌}
use Rattle.std.proofs.Common.{length, chars, take, refl, sym, ap, subst, ◌∙◌, arith, length-append}
use Rattle.std.proofs.Common.{Option, Some, None, codes, inl, inr}
use Rattle.std.specs.Prelude.{option_map}
use Rattle.std.specs.Char.{is_whitespace, len_utf8}
use Rattle.std.specs.Int.{from_bool}
use Rattle.std.proofs.lemmas.Bool.{cond_both, eqb-true, false≢true, or_cases}
use Rattle.std.proofs.lemmas.List.Sums.{sum_by-append}
use Rattle.std.proofs.Math.Seq.{take-append_seam}
use Rattle.rustc_parse_format.specs.Characters.{Text, is_brace, is_no_brace, front, rest_after}
use Rattle.rustc_parse_format.specs.Characters.{begins_with, after_first, after_white}
use Rattle.rustc_parse_format.specs.Characters.{byte_length}
use Rattle.rustc_parse_format.specs.Characters.{first_passes}
use Rattle.rustc_parse_format.specs.Types.{Mode, Argument, Piece, Lit, NextArgument, bare_piece}
use Rattle.rustc_parse_format.specs.Types.{bare_argument}
use Rattle.rustc_parse_format.specs.Marks.{Span}
use Rattle.rustc_parse_format.specs.Meaning.{argument}
use Rattle.rustc_parse_format.specs.Placeholder.{cut}
use Rattle.rustc_parse_format.specs.Call.{Call, call, placeholder, unmatched_call}
use Rattle.rustc_parse_format.specs.World.{World, Place, piece_in}
use Rattle.rustc_parse_format.proofs.Grammar.BarePieces.{bare-piece_in}
use Rattle.rustc_parse_format.proofs.Grammar.Fronts.{front-rest_after}
use Rattle.rustc_parse_format.proofs.Grammar.Rests.{IsRest}
use Rattle.rustc_parse_format.proofs.Readers.Recoveries.{recovery_rest}
use Rattle.format_tokens.specs.declared.kinds.Kind.TheVariants.{Text as TextKind, EscapedBrace}
use Rattle.format_tokens.specs.declared.kinds.Kind.TheVariants.{CloseBrace}
use Rattle.format_tokens.specs.declared.kinds.Label.{Label as Sized}
use Rattle.format_tokens.specs.Labels.{Adds}
use Rattle.format_tokens.specs.Tokens.{opened_tokens, token}
use Rattle.format_tokens.specs.Walk.{call_tokens, placeholder_tokens, skipped_tokens, up_to_rest}
use Rattle.format_tokens.proofs.Skipping.{Skips}
use Rattle.format_tokens.proofs.Taking.{Takes, then, width-nil}

-- The byte length of a front, by what is left.
pub front-width : (t u s : Text) → t ≡ u ++ s → byte_length t - byte_length s ≡ byte_length u
front-width t u s e = omega (arith, ap byte_length e, sum_by-append len_utf8 u s)

-- What is taken from the front of a text up to what is left of it.
pub take-rest : (t r : Text) → IsRest t r → t ≡ up_to_rest t r ++ r
take-rest t r h =
    let n : length t - length r ≡ length h.front =
    omega (arith, ap length h.whole, length-append h.front r) in
    h.whole ∙ ap (λ u. u ++ r) (sym (ap (λ k. take k t) n
    ∙ (ap (take (length h.front)) h.whole ∙ take-append_seam h.front r)))

pub cut_first : (c : ℕ) (t : Text) → begins_with c t ≡ true → t ≡ c ∷ after_first t
cut_first c [] h = absurd (false≢true h)
cut_first c (d ∷ t) h = ap (λ x. x ∷ t) (eqb-true d c h)

-- What comes after a field: its closing brace, or what is taken in place of it.
tail-closed : (e f g : List ℕ) (x y z : List Sized) (b m left : ℕ) (r : Text) → chars e ≡ r
    → b ≡ from_bool (begins_with 125 (chars e)) → begins_with 125 r ≡ true
    → Takes CloseBrace b e x y f → m ≡ byte_length (chars f) - left → Skips m f y z g
    → left ≡ byte_length (after_first r) → Adds (token CloseBrace (codes "}")) (after_first r) x z g
tail-closed e f g x y z b m left r s i q close j takes k =
    let whole = cut_first 125 r q in
    let first = close (codes "}") (after_first r) (s ∙ whole)
    (i ∙ ap from_bool (ap (begins_with 125) s ∙ q)) in
    then first (takes [] (after_first r) first.leaves
    (j ∙ (ap (λ u. byte_length u - left) first.leaves ∙ omega (arith, k))))

tail-open : (e f g : List ℕ) (x y z : List Sized) (b m left : ℕ) (r s : Text) → chars e ≡ r
    → b ≡ from_bool (begins_with 125 (chars e)) → begins_with 125 r ≡ false
    → Takes CloseBrace b e x y f → m ≡ byte_length (chars f) - left → Skips m f y z g
    → IsRest r s → left ≡ byte_length s → Adds (skipped_tokens (up_to_rest r s)) s x z g
tail-open e f g x y z b m left r s h i q close j takes within k =
    let whole = take-rest r s within in
    let first = close [] r h (i ∙ (ap from_bool (ap (begins_with 125) h ∙ q) ∙ width-nil)) in
    then first (takes (up_to_rest r s) s (first.leaves ∙ whole)
    (j ∙ (ap (λ u. byte_length u - left) first.leaves
    ∙ (ap (λ n. byte_length r - n) k ∙ front-width r (up_to_rest r s) s whole))))

-- A placeholder, from what is read before its closing brace.
pub ended : (mode : Mode) (n : ℕ) (o t : Text) (e f g : List ℕ) (w x y z : List Sized)
    (b m left : ℕ)
    → Adds (opened_tokens (cut mode t).field (front is_whitespace (cut mode t).rest))
    (after_white (cut mode t).rest) w x e
    → b ≡ from_bool (begins_with 125 (chars e)) → Takes CloseBrace b e x y f
    → m ≡ byte_length (chars f) - left → Skips m f y z g
    → left ≡ byte_length (placeholder mode n o t).rest
    → Adds (placeholder_tokens mode t (placeholder mode n o t).rest)
    (placeholder mode n o t).rest w z g
unfolding placeholder placeholder_tokens
ended mode n o t e f g w x y z b m left h i close j takes k =
    by_brace (begins_with 125 (after_white (cut mode t).rest)) refl
  where
    by_brace : (v : Bool) → begins_with 125 (after_white (cut mode t).rest) ≡ v
        → Adds (placeholder_tokens mode t (placeholder mode n o t).rest)
        (placeholder mode n o t).rest w z g
    by_brace true q = let few = rw q at k in
        rw q (then h (tail-closed e f g x y z b m left _ h.leaves i q close j takes few))
    by_brace false q = let few = rw q at k in
        rw q (then h (tail-open e f g x y z b m left _ _ h.leaves i q close j takes
        (recovery_rest mode _ o _ (after_white (cut mode t).rest)) few))

pub white-rest_after : (t : Text) → t ≡ front is_whitespace t ++ after_white t
unfolding after_white
white-rest_after t = front-rest_after is_whitespace t

brace-width : (b : ℕ) → is_brace b ≡ true → 2 ≡ byte_length (b ∷ b ∷ [])
brace-width b h = elim (or_cases _ _ h) [
  | inl e ↦ subst (λ c. 2 ≡ byte_length (c ∷ c ∷ [])) (sym (eqb-true b 123 e)) refl
  | inr e ↦ subst (λ c. 2 ≡ byte_length (c ∷ c ∷ [])) (sym (eqb-true b 125 e)) refl
]

-- Literal text: a doubled brace or none, and then what has no braces.
text-took : (p u r : Text) (t d g : List ℕ) (x y z : List Sized) (b m left : ℕ)
    → chars t ≡ p ++ (u ++ r) → b ≡ byte_length p → Takes EscapedBrace b t x y d
    → m ≡ byte_length (chars d) - left → Takes TextKind m d y z g → left ≡ byte_length r
    → Adds (token EscapedBrace p ++ token TextKind u) r x z g
text-took p u r t d g x y z b m left h i escape j takes k =
    let first = escape p (u ++ r) h i in
    then first (takes u r first.leaves
    (j ∙ (ap (λ s. byte_length s - left) first.leaves
    ∙ (ap (λ n. byte_length (u ++ r) - n) k ∙ front-width (u ++ r) u r refl))))

-- A placeholder is an argument,
pub placeholder-piece : (mode : Mode) (n : ℕ) (o t : Text)
    → (placeholder mode n o t).piece ≡ Some (NextArgument (argument n (cut mode t)))
unfolding placeholder
placeholder-piece mode n o t =
    cond_both {A = Call} (begins_with 125 (after_white (cut mode t).rest)) _ _
    (λ k. k.piece ≡ Some (NextArgument (argument n (cut mode t)))) (λ q. refl) (λ q. refl)

-- and so a brace alone is no text.
brace-no_text : (mode : Mode) (n : ℕ) (o t : Text) (l : Text) (v : Bool)
    → (cond {A = Call} v (placeholder mode n o t) (unmatched_call n o t)).piece ≡ Some (Lit l) → ⊥
brace-no_text mode n o t l true h = let p = placeholder-piece mode n o t in cc
brace-no_text mode n o t l false h = cc

pub literal-took : (mode : Mode) (n : ℕ) (t : Text) (l : Text) (s d g : List ℕ)
    (x y z : List Sized) (b m left : ℕ) → chars s ≡ t → (call mode n t).piece ≡ Some (Lit l)
    → b ≡ cond (first_passes is_brace t) 2 0 → Takes EscapedBrace b s x y d
    → m ≡ byte_length (chars d) - left → Takes TextKind m d y z g
    → left ≡ byte_length (call mode n t).rest
    → Adds (call_tokens mode t (call mode n t).rest) (call mode n t).rest x z g
unfolding call call_tokens
literal-took mode n [] l s d g x y z b m left h given i escape j takes k = absurd (cc given)
literal-took mode n (c ∷ t) l s d g x y z b m left h given i escape j takes k =
    by_brace (is_brace c) refl
  where
    by_double : (v : Bool) → is_brace c ≡ true → begins_with c t ≡ v
        → Adds (call_tokens mode (c ∷ t) (call mode n (c ∷ t)).rest) (call mode n (c ∷ t)).rest x z
        g
    by_double true e q =
        let few = rw (e, q) at k in
        rw (e, q) (text-took (c ∷ c ∷ []) (front is_no_brace (after_first t))
        (rest_after is_no_brace (after_first t)) s d g x y z b m left
        (h ∙ ap (λ u. c ∷ u) (cut_first c t q
        ∙ ap (λ u. c ∷ u) (front-rest_after is_no_brace (after_first t))))
        (i ∙ (ap (λ v. cond v 2 0) e ∙ brace-width c e)) escape j takes few)
    by_double false e q =
        absurd (brace-no_text mode n (c ∷ t) t l (c == 123) (rw (e, q) at given))

    by_brace : (v : Bool) → is_brace c ≡ v
        → Adds (call_tokens mode (c ∷ t) (call mode n (c ∷ t)).rest) (call mode n (c ∷ t)).rest x z
        g
    by_brace true e = by_double (begins_with c t) e refl
    by_brace false e =
        let few = rw e at k in
        rw e (text-took [] (c ∷ front is_no_brace t) (rest_after is_no_brace t) s d g x y z b m left
        (h ∙ ap (λ u. c ∷ u) (front-rest_after is_no_brace t))
        (i ∙ ap (λ v. cond v 2 0) e) escape j takes few)

-- A call that returns an argument reads a placeholder.
pub record Opens (mode : Mode) (n : ℕ) (t : Text) (a : Argument Span) : Type 0 where
  pub inside : Text
  pub opens : t ≡ codes "{" ++ inside
  pub same : call mode n t ≡ placeholder mode n t inside
  pub tokens : (s : Text) → call_tokens mode t s ≡ placeholder_tokens mode inside s
  pub means : a ≡ argument n (cut mode inside)

pub argument-opens : (mode : Mode) (n : ℕ) (t : Text) (a : Argument Span)
    → (call mode n t).piece ≡ Some (NextArgument a) → Opens mode n t a
unfolding call call_tokens
argument-opens mode n [] a h = absurd (cc h)
argument-opens mode n (c ∷ t) a h = by_brace (is_brace c) refl
  where
    same_argument : {x : Argument Span} {o : Option (Piece Span)} → o ≡ Some (NextArgument a)
        → o ≡ Some (NextArgument x) → a ≡ x
    same_argument e f = cc

    by_sign : (v : Bool) → is_brace c ≡ true → begins_with c t ≡ false → (c == 123) ≡ v
        → Opens mode n (c ∷ t) a
    by_sign true e q o = record {
      inside = t;
      opens = ap (λ x. x ∷ t) (eqb-true c 123 o);
      same = rw (e, q, o) refl;
      tokens = λ s. rw (e, q, o) refl;
      means = same_argument (rw (e, q, o) at h) (placeholder-piece mode n (c ∷ t) t);
    }
    by_sign false e q o = absurd (let g = rw (e, q, o) at h in cc g)

    by_double : (v : Bool) → is_brace c ≡ true → begins_with c t ≡ v → Opens mode n (c ∷ t) a
    by_double true e q = absurd (let g = rw (e, q) at h in cc g)
    by_double false e q = by_sign (c == 123) e q refl

    by_brace : (v : Bool) → is_brace c ≡ v → Opens mode n (c ∷ t) a
    by_brace true e = by_double (begins_with c t) e refl
    by_brace false e = absurd (let g = rw e at h in cc g)

-- A call that returns no piece is at the end, or reads a brace that closes nothing.
pub none-took : (mode : Mode) (n : ℕ) (t : Text) (s g : List ℕ) (x y : List Sized) (m left : ℕ)
    → chars s ≡ t → (call mode n t).piece ≡ None → m ≡ byte_length t - left
    → Takes CloseBrace m s x y g → left ≡ byte_length (call mode n t).rest
    → Adds (call_tokens mode t (call mode n t).rest) (call mode n t).rest x y g
unfolding call call_tokens
none-took mode n [] s g x y m left h none j takes k = takes [] [] h (j ∙ omega arith)
none-took mode n (c ∷ t) s g x y m left h none j takes k = by_brace (is_brace c) refl
  where
    by_sign : (v : Bool) → is_brace c ≡ true → begins_with c t ≡ false → (c == 123) ≡ v
        → Adds (call_tokens mode (c ∷ t) (call mode n (c ∷ t)).rest) (call mode n (c ∷ t)).rest x y
        g
    by_sign true e q o = absurd (let p = rw (e, q, o) at none in
        let a = placeholder-piece mode n (c ∷ t) t in cc (p, a))
    by_sign false e q o =
        let few = rw (e, q, o) at k in
        rw (e, q, o) (takes (c ∷ []) t h
        (j ∙ (ap (λ i. byte_length (c ∷ t) - i) few ∙ front-width (c ∷ t) (c ∷ []) t refl)))

    by_double : (v : Bool) → is_brace c ≡ true → begins_with c t ≡ v
        → Adds (call_tokens mode (c ∷ t) (call mode n (c ∷ t)).rest) (call mode n (c ∷ t)).rest x y
        g
    by_double true e q = absurd (let p = rw (e, q) at none in cc p)
    by_double false e q = by_sign (c == 123) e q refl

    by_brace : (v : Bool) → is_brace c ≡ v
        → Adds (call_tokens mode (c ∷ t) (call mode n (c ∷ t)).rest) (call mode n (c ∷ t)).rest x y
        g
    by_brace true e = by_double (begins_with c t) e refl
    by_brace false e = absurd (let p = rw e at none in cc p)

-- The facts of a call that the piece it gave shows.
pub text-given : (w : World) (o : Option (Piece Span)) (l : Text)
    → Some (Lit l) ≡ option_map (piece_in w) o → o ≡ Some (Lit l)
text-given w None l e = cc e
text-given w (Some (Lit m)) l e = cc
text-given w (Some (NextArgument a)) l e = cc e

pub record Given (o : Option (Piece Span)) (x : Argument Place) : Type 0 where
  pub argument : Argument Span
  pub is : o ≡ Some (NextArgument argument)
  pub same : bare_argument x ≡ bare_argument argument

same_bare : (x : Argument Place) (a : Argument Span)
    → bare_piece (NextArgument x) ≡ bare_piece (NextArgument a)
    → bare_argument x ≡ bare_argument a
same_bare x a e = cc

pub argument-given : (w : World) (o : Option (Piece Span)) (x : Argument Place)
    → Some (NextArgument x) ≡ option_map (piece_in w) o → Given o x
argument-given w None x e = absurd (cc e)
argument-given w (Some (Lit m)) x e = absurd (cc e)
argument-given w (Some (NextArgument a)) x e = record {
  argument = a;
  is = refl;
  same = same_bare x a (ap bare_piece (some_same e) ∙ bare-piece_in w (NextArgument a));
}
  where
    some_same : {p q : Piece Place} → Some p ≡ Some q → p ≡ q
    some_same f = cc
