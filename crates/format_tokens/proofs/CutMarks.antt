-- Tokens that are cut at escapes keep their marks.
use Rattle.std.proofs.Common.{◌≡◌, ℕ, suc, zero, ◌++◌, ◌+◌, ◌-◌, ◌≤◌, ◌<◌, ◌⊎◌, Bool, true, false}
use Rattle.std.proofs.Common.{List, [], ◌∷◌, length, refl, sym, ap, ◌∙◌, arith, nat_lt, inl, inr}
use Rattle.std.proofs.Common.{Option, Some, None}
use Rattle.std.specs.Prelude.{◌||◌}
use Rattle.std.specs.List.{AllByRecursion}
use Rattle.std.proofs.lemmas.Bool.{false≢true, lt-ltb}
use Rattle.std.proofs.lemmas.List.Folds.{list_any-append}
use Rattle.std.proofs.lemmas.Str.{len_utf8_bounds}
use Rattle.rustc_parse_format.specs.Characters.{Text, byte_length}
use Rattle.rustc_parse_format.proofs.Literals.Widths.{width-append, width-cons}
use Rattle.format_tokens.specs.declared.kinds.Kind.{Kind}
use Rattle.format_tokens.specs.declared.kinds.Kind.TheVariants.{Text as TextKind, EscapedBrace}
use Rattle.format_tokens.specs.declared.kinds.Kind.TheVariants.{OpenBrace}
use Rattle.format_tokens.specs.declared.kinds.Kind.TheVariants.{CloseBrace, Integer, Identifier}
use Rattle.format_tokens.specs.declared.kinds.Kind.TheVariants.{RawPrefix, Whitespace, Colon, Fill}
use Rattle.format_tokens.specs.declared.kinds.Kind.TheVariants.{Alignment, Sign, NumberSign, Zero}
use Rattle.format_tokens.specs.declared.kinds.Kind.TheVariants.{DollarSign, Dot, Asterisk}
use Rattle.format_tokens.specs.declared.kinds.Kind.TheVariants.{«Type» as TypeKind, Modifier}
use Rattle.format_tokens.specs.declared.kinds.Kind.TheVariants.{DiagnosticText, Unexpected, Quote}
use Rattle.format_tokens.specs.declared.kinds.Kind.TheVariants.{EscapeSequence}
use Rattle.format_tokens.specs.Covers.{AreParts, IsCover, ranges_of}
use Rattle.format_tokens.specs.Escapes.{Placed, cut, escape_at, front_within, is_apart, is_text}
use Rattle.format_tokens.specs.Escapes.{parts, parts_within, rest_within, run}
use Rattle.format_tokens.specs.Sections.{has_mark, is_mark}
use Rattle.format_tokens.proofs.Boundaries.{HasNoLine, IsBoundary, IsStart, between, escape-some}
use Rattle.format_tokens.proofs.CutCovering.{escape-narrower, token-cover}
use Rattle.format_tokens.proofs.Cuts.{front_within-append, rest_within-append}

-- The tokens are of this kind, or escapes.
abbrev pub AreOf : Kind → List Placed → Type 0
AreOf k ys = AllByRecursion (λ (y : Placed). (y.0 ≡ k) ⊎ (y.0 ≡ EscapeSequence)) ys

both-of : (k : Kind) (xs ys : List Placed) → AreOf k xs → AreOf k ys → AreOf k (xs ++ ys)
both-of k [] ys h g = g
both-of k (x ∷ xs) ys (h, hs) g = (h, both-of k xs ys hs g)

run-of : (k : Kind) (from to : ℕ) → AreOf k (run k from to)
run-of k from to = by_some (nat_lt from to) refl
  where
    by_some : (b : Bool) → nat_lt from to ≡ b → AreOf k (run k from to)
    by_some true e = rw e (inl refl, tt)
    by_some false e = rw e tt

step-of : (n : ℕ) (k : Kind) (from e c : ℕ) (t : Text)
    → ((at : ℕ) (r : Text) → AreOf k (parts_within n k at e r))
    → AreOf k (parts_within (suc n) k from e (c ∷ t))
step-of n k from e c t others = by_escape (escape_at (c ∷ t)) refl
  where
    by_part : (v r : Text) (b : Bool) → escape_at (c ∷ t) ≡ Some (v, r) → is_apart k v ≡ b
        → AreOf k (parts_within (suc n) k from e (c ∷ t))
    by_part v r true q a = rw (q, a, parts_within)
        (both-of k (run k from (e - byte_length (c ∷ t))) _ (run-of k from _)
        (inr refl, others (e - byte_length r) r))
    by_part v r false q a = rw (q, a, parts_within) (others from r)

    by_escape : (o : Option (Text × Text)) → escape_at (c ∷ t) ≡ o
        → AreOf k (parts_within (suc n) k from e (c ∷ t))
    by_escape None q = rw (q, parts_within) (others from t)
    by_escape (Some (v, r)) q = by_part v r (is_apart k v) q refl

within-of : (n : ℕ) (k : Kind) (from e : ℕ) (t : Text) → AreOf k (parts_within n k from e t)
within-of zero k from e t = run-of k from e
within-of (suc n) k from e [] = run-of k from e
within-of (suc n) k from e (c ∷ t) = step-of n k from e c t (λ at r. within-of n k at e r)

part-of : (x : Placed) (t : Text) → AreOf x.0 (parts x t)
unfolding parts
part-of x t = within-of (length t) x.0 x.1.0 x.1.1 t

-- None of the parts of a token is a mark if the token is none.
of-unmarked : (k : Kind) (ys : List Placed) → is_mark k ≡ false → AreOf k ys
    → has_mark ys ≡ false
unfolding is_mark
of-unmarked k [] h a = refl
of-unmarked k (y ∷ ys) h (inl e, a) =
    let no : is_mark y.0 ≡ false = ap is_mark e ∙ h in rw no (of-unmarked k ys h a)
of-unmarked k (y ∷ ys) h (inr e, a) =
    let no : is_mark y.0 ≡ false = ap is_mark e in rw no (of-unmarked k ys h a)

-- A part that is not empty is a mark if the token is one,
run-marked : (k : Kind) (from to : ℕ) → is_mark k ≡ true → from < to
    → has_mark (run k from to) ≡ true
run-marked k from to m h = rw (lt-ltb from to h, m) refl

front-marked : (k : Kind) (from to : ℕ) (ys : List Placed) → is_mark k ≡ true → from < to
    → has_mark (run k from to ++ ys) ≡ true
front-marked k from to ys m h = rw (lt-ltb from to h, m) refl

-- and so are the parts from the first character on that is no continued line.
step-marked : (n : ℕ) (k : Kind) (from e c : ℕ) (t : Text) → is_mark k ≡ true
    → ((r : Text) → from + byte_length r < e → has_mark (parts_within n k from e r) ≡ true)
    → from + byte_length (c ∷ t) < e → has_mark (parts_within (suc n) k from e (c ∷ t)) ≡ true
step-marked n k from e c t m others h = by_escape (escape_at (c ∷ t)) refl
  where
    by_part : (v r : Text) (b : Bool) → escape_at (c ∷ t) ≡ Some (v, r) → is_apart k v ≡ b
        → has_mark (parts_within (suc n) k from e (c ∷ t)) ≡ true
    by_part v r true q a = rw (q, a, parts_within)
        (front-marked k from (e - byte_length (c ∷ t)) _ m (omega (arith, h)))
    by_part v r false q a = rw (q, a, parts_within)
        (others r (omega (arith, h, escape-narrower (c ∷ t) v r q)))

    by_escape : (o : Option (Text × Text)) → escape_at (c ∷ t) ≡ o
        → has_mark (parts_within (suc n) k from e (c ∷ t)) ≡ true
    by_escape None q = rw (q, parts_within) (others t (omega (arith, h, width-cons c t)))
    by_escape (Some (v, r)) q = by_part v r (is_apart k v) q refl

later-marked : (n : ℕ) (k : Kind) (from e : ℕ) (t : Text) → is_mark k ≡ true
    → from + byte_length t < e → has_mark (parts_within n k from e t) ≡ true
later-marked zero k from e t m h = run-marked k from e m (omega (arith, h))
later-marked (suc n) k from e [] m h = run-marked k from e m (omega (arith, h))
later-marked (suc n) k from e (c ∷ t) m h =
    step-marked n k from e c t m (λ r l. later-marked n k from e r m l) h

-- A mark is no text.
mark-no_text : (k : Kind) → is_mark k ≡ true → is_text k ≡ false
unfolding is_mark is_text
mark-no_text TextKind h = absurd (false≢true h)
mark-no_text EscapedBrace h = refl
mark-no_text OpenBrace h = refl
mark-no_text CloseBrace h = refl
mark-no_text Integer h = refl
mark-no_text Identifier h = refl
mark-no_text RawPrefix h = refl
mark-no_text Whitespace h = refl
mark-no_text Colon h = refl
mark-no_text Fill h = refl
mark-no_text Alignment h = refl
mark-no_text Sign h = refl
mark-no_text NumberSign h = refl
mark-no_text Zero h = refl
mark-no_text DollarSign h = refl
mark-no_text Dot h = refl
mark-no_text Asterisk h = refl
mark-no_text TypeKind h = refl
mark-no_text Modifier h = refl
mark-no_text DiagnosticText h = refl
mark-no_text Unexpected h = refl
mark-no_text Quote h = refl
mark-no_text EscapeSequence h = refl

-- A mark that begins with no continued line leaves a part.
first-marked : (n : ℕ) (k : Kind) (from e : ℕ) (t : Text) → is_mark k ≡ true → from < e
    → from + byte_length t ≤ e → HasNoLine t → has_mark (parts_within n k from e t) ≡ true
first-marked zero k from e t m some h none = run-marked k from e m some
first-marked (suc n) k from e [] m some h none = run-marked k from e m some
first-marked (suc n) k from e (c ∷ t) m some h none = by_escape (escape_at (c ∷ t)) refl
  where
    by_text : (v r : Text) → escape_at (c ∷ t) ≡ Some (v, r)
        → has_mark (parts_within (suc n) k from e (c ∷ t)) ≡ true
    by_text [] r q = absurd (escape-some (c ∷ t) r none q)
    by_text (d ∷ v) r q =
        let no : is_apart k (d ∷ v) ≡ false = mark-no_text k m in
        rw (q, no, parts_within) (later-marked n k from e r m
        (omega (arith, h, escape-narrower (c ∷ t) (d ∷ v) r q)))

    by_escape : (o : Option (Text × Text)) → escape_at (c ∷ t) ≡ o
        → has_mark (parts_within (suc n) k from e (c ∷ t)) ≡ true
    by_escape None q = rw (q, parts_within) (later-marked n k from e t m
        (omega (arith, h, width-cons c t, len_utf8_bounds c)))
    by_escape (Some (v, r)) q = by_text v r q

part-marks : (x : Placed) (t : Text) → x.1.0 < x.1.1 → x.1.0 + byte_length t ≤ x.1.1
    → (is_mark x.0 ≡ true → HasNoLine t) → has_mark (parts x t) ≡ is_mark x.0
unfolding parts
part-marks x t some h none = by_mark (is_mark x.0) refl
  where
    by_mark : (b : Bool) → is_mark x.0 ≡ b
        → has_mark (parts_within (length t) x.0 x.1.0 x.1.1 t) ≡ is_mark x.0
    by_mark true e = first-marked (length t) x.0 x.1.0 x.1.1 t e some h (none e) ∙ sym e
    by_mark false e = of-unmarked x.0 _ e (within-of (length t) x.0 x.1.0 x.1.1 t) ∙ sym e

-- The token ends between two characters of the source text, and if it is a mark, it starts at one.
pub record IsPlaced (source : Text) (x : Placed) : Type 0 where
  pub ends : IsBoundary source x.1.1
  pub starts : is_mark x.0 ≡ true → IsStart source x.1.0

no_width : (t : Text) → byte_length t ≡ 0 → t ≡ []
no_width [] h = refl
no_width (c ∷ t) h = absurd (omega (arith, h, width-cons c t, len_utf8_bounds c))

-- There is one text from a boundary on.
same-line : (source before t : Text) (n : ℕ) → source ≡ before ++ t → byte_length before ≡ n
    → IsStart source n → HasNoLine t
same-line source before t n h w s r e =
    let p = s.boundary in
    let k = between before p.before t p.after (sym h ∙ p.whole) (omega (arith, w, p.width)) in
    let width : byte_length p.before ≡ byte_length before + byte_length k.middle =
    ap byte_length k.front ∙ width-append before k.middle in
    let none = no_width k.middle (omega (arith, w, p.width, width)) in
    s.no_line r (sym (ap (λ u. u ++ p.after) none) ∙ (sym k.back ∙ e))

-- A token, whose source characters are m, in its parts.
record Takes (w : ℕ) (t m s : Text) : Type 0 where
  front : front_within w t ≡ m
  back : rest_within w t ≡ s

takes : (w : ℕ) (t m s : Text) → t ≡ m ++ s → byte_length m ≡ w → Takes w t m s
takes w t m s e h =
    let front : front_within w (m ++ s) ≡ m = front_within-append w m s (omega (arith, h))
    (λ c u f. omega (arith, h, len_utf8_bounds c)) in
    record {
      front = ap (front_within w) e ∙ front;
      back = ap (rest_within w) e ∙ rest_within-append w m s front;
    }

-- Tokens that cover a source text and are placed in it are in their parts where they are cut.
pub cut-parts : (source before t : Text) (a b : ℕ) (ts : List Placed) → source ≡ before ++ t
    → byte_length before ≡ a → IsCover a b (ranges_of ts) → AllByRecursion (IsPlaced source) ts
    → AreParts ts (cut t ts)
cut-parts source before t a b [] h w cover all = refl
cut-parts source before t a b (x ∷ xs) h w (e, some, cover) (one, all) =
    let p = one.ends in
    let k = between before p.before t p.after (sym h ∙ p.whole)
    (omega (arith, w, p.width, e, some)) in
    let n = x.1.1 - x.1.0 in
    let size : byte_length k.middle ≡ n = omega (
      arith,
      ap byte_length k.front,
      width-append before k.middle,
      p.width,
      w,
      e,
    ) in
    let c = takes n t k.middle p.after k.back size in
    let none : is_mark x.0 ≡ true → HasNoLine k.middle =
    λ m r f. same-line source before t x.1.0 h (w ∙ sym e) (one.starts m) (r ++ p.after)
    (k.back ∙ ap (λ u. u ++ p.after) f) in (
      parts x (front_within n t),
      cut (rest_within n t) xs,
      refl,
      token-cover x t (omega (arith, e, some)),
      part-of x (front_within n t),
      rw c.front (part-marks x k.middle (omega (arith, e, some))
          (omega (arith, size, e, some)) none),
      rw c.back (cut-parts source p.before p.after x.1.1 b xs p.whole p.width cover all),
    )

pub or-nothing : (m : Bool) → (m || false) ≡ m
or-nothing true = refl
or-nothing false = refl

-- Tokens that are not cut are their own parts.
pub whole-parts : (ts : List Placed) (a b : ℕ) → IsCover a b (ranges_of ts) → AreParts ts ts
whole-parts [] a b h = refl
whole-parts (x ∷ xs) a b (e, some, cover) = (
  x ∷ [],
  xs,
  refl,
  (refl, omega (arith, e, some), refl),
  (inl refl, tt),
  or-nothing (is_mark x.0),
  whole-parts xs x.1.1 b cover,
)

-- So one of them is a mark exactly if one of the others is.
pub parts-marks : (xs ts : List Placed) → AreParts xs ts → has_mark ts ≡ has_mark xs
parts-marks [] ts h = ap has_mark h
parts-marks (x ∷ xs) ts (ys, zs, e, cover, kinds, marks, others) =
    ap has_mark e ∙ (list_any-append (λ (t : Placed). is_mark t.0) ys zs
    ∙ (ap (λ b. b || has_mark zs) marks
    ∙ ap (λ b. is_mark x.0 || b) (parts-marks xs zs others)))
