-- The front of a text that ends where a word begins, as the tokens of the rest of a file say.
use Rattle.std.proofs.Common.{◌≡◌, ◌++◌, ℕ, ◌-◌, Bool, true, false, List, []}
use Rattle.std.proofs.Common.{◌∷◌, refl, ap, sym, ◌∙◌, subst, length, arith, chars}
use Rattle.std.proofs.Common.{IsUtf8}
use Rattle.std.specs.Prelude.{IsTrue, if◌then◌else◌}
use Rattle.std.specs.List.{list_all}
use Rattle.std.specs.Char.{len_utf8}
use Rattle.std.proofs.lemmas.Bool.{and_from, and_parts, false≢true}
use Rattle.std.proofs.lemmas.Str.{chars-append, encodes-chars, len_utf8_bounds}
use Rattle.rust_tokens.specs.declared.kinds.Kind.{Kind}
use Rattle.rust_tokens.specs.declared.kinds.Kind.TheVariants.{Whitespace, LineComment, OuterLineDoc}
use Rattle.rust_tokens.specs.declared.kinds.Kind.TheVariants.{InnerLineDoc, BlockComment}
use Rattle.rust_tokens.specs.declared.kinds.Kind.TheVariants.{OuterBlockDoc, InnerBlockDoc}
use Rattle.rust_tokens.specs.declared.kinds.Kind.TheVariants.{Ident, RawIdent}
use Rattle.rust_tokens.specs.declared.kinds.Kind.TheVariants.{Shebang, ByteOrderMark}
use Rattle.rust_tokens.specs.Texts.{Text}
use Rattle.rust_tokens.specs.Runs.{first_passes, is_id_start}
use Rattle.rust_tokens.specs.Tokens.{Lexeme, ReadsTo, Stands}
use Rattle.rust_tokens.specs.Spans.{byte_length, end_of, end_of_all}
use Rattle.rust_tokens.specs.Fronts.{EndsWithBarrier, ReadsBeforeWords}
use Rattle.rust_tokens.proofs.Classes.{starts-r}
use Rattle.rust_tokens.proofs.Readings.{byte-length}
use Rattle.rust_tokens.proofs.ReadFronts.{before-words, joined, reads-join}
use Rattle.rust_trees.specs.Balances.{AreEnded}
use Rattle.rust_trees.specs.Leaves.{AreLeft, Leaf, is_leaf, leaf_at, leaves}
use Rattle.rust_trees.proofs.Lists.{no-cons, same-first, same-rest}
use Rattle.rust_trees.proofs.PassedFronts.{end-joined}
use Rattle.format_calls.specs.Gaps.{IsClear, IsGapText}
use Rattle.format_calls.specs.Marks.{is_ident}
use Rattle.format_calls.specs.Rows.{Entry}
use Rattle.format_calls.proofs.ClearGaps.{clear-elsewhere}

-- Readings that are cut.
pub reads-split : (whole : Text) (xs ys : List Lexeme) (e : Text) → ReadsTo whole (xs ++ ys) e
    → (r : Text) × ReadsTo whole xs r × ReadsTo r ys e
reads-split whole [] ys e h = (whole, refl, h)
reads-split whole (x ∷ xs) ys e h =
    let z = reads-split h.0 xs ys e h.2 in (z.0, (h.0, h.1, z.1), z.2)

-- The tokens before the one that is this leaf.
pub record Found (at : ℕ) (xs : List Lexeme) (gap : List Leaf) (n : Leaf) : Type 0 where
  pub before : List Lexeme
  pub token : Lexeme
  pub after : List Lexeme
  pub joins : xs ≡ before ++ token ∷ after
  pub gap_is : leaves at before ≡ gap
  pub leaf_is : leaf_at (end_of_all at before) token ≡ n

more-found : (at : ℕ) (x : Lexeme) (xs : List Lexeme) (gap : List Leaf) (n : Leaf)
    (hs : List Leaf) → ((ys : List Lexeme) → leaves (end_of at x) ys ≡ gap
    → leaves at (x ∷ ys) ≡ hs) → Found (end_of at x) xs gap n → Found at (x ∷ xs) hs n
more-found at x xs gap n hs e f = record {
  before = x ∷ f.before;
  token = f.token;
  after = f.after;
  joins = ap (λ t. x ∷ t) f.joins;
  gap_is = e f.before f.gap_is;
  leaf_is = f.leaf_is;
}

pub leaf-found : (at : ℕ) (xs : List Lexeme) (gap : List Leaf) (n : Leaf) (more : List Leaf)
    → leaves at xs ≡ gap ++ n ∷ more → Found at xs gap n
leaf-found at [] [] n more e = no-cons n more e
leaf-found at [] (g ∷ gap) n more e = no-cons g (gap ++ n ∷ more) e
leaf-found at (x ∷ xs) gap n more e =
    by_test (is_leaf x.kind x.is_ended) refl (λ hs f. leaf-found (end_of at x) xs hs n more f) e
  where
    next : ℕ
    next = end_of at x

    by_test : (b : Bool) → is_leaf x.kind x.is_ended ≡ b
        → ((hs : List Leaf) → leaves next xs ≡ hs ++ n ∷ more → Found next xs hs n)
        → (if b then leaf_at at x ∷ leaves next xs else leaves next xs) ≡ gap ++ n ∷ more
        → Found at (x ∷ xs) gap n
    by_test false q rec f = more-found at x xs gap n gap
        (λ ys g. ap (λ b. if b then leaf_at at x ∷ leaves next ys else leaves next ys) q ∙ g)
        (rec gap f)
    by_test true q rec f = by_gap gap f
      where
        by_gap : (gs : List Leaf) → leaf_at at x ∷ leaves next xs ≡ gs ++ n ∷ more
            → Found at (x ∷ xs) gs n
        by_gap [] h = record {
          before = [];
          token = x;
          after = xs;
          joins = refl;
          gap_is = refl;
          leaf_is = same-first (leaf_at at x) n (leaves next xs) more h;
        }
        by_gap (g ∷ gs) h = more-found at x xs gs n (g ∷ gs)
            (λ ys k. ap (λ b. if b then leaf_at at x ∷ leaves next ys else leaves next ys) q
            ∙ (ap (λ t. leaf_at at x ∷ t) k
            ∙ ap (λ t. t ∷ gs) (same-first (leaf_at at x) g (leaves next xs) (gs ++ n ∷ more) h)))
            (rec gs (same-rest (leaf_at at x) g (leaves next xs) (gs ++ n ∷ more) h))

-- Fronts of one text that have as many bytes are the same.
abbrev head_of : Text → ℕ
head_of [] = 0
head_of (c ∷ t) = c

abbrev tail_of : Text → Text
tail_of [] = []
tail_of (c ∷ t) = t

pub same-fronts : (a b c d : Text) → a ++ b ≡ c ++ d → byte_length a ≡ byte_length c
    → (a ≡ c) × (b ≡ d)
same-fronts [] b [] d e n = (refl, e)
same-fronts [] b (y ∷ c) d e n = let l = (len_utf8_bounds y).0 in absurd (omega (arith, l, n))
same-fronts (x ∷ a) b [] d e n = let l = (len_utf8_bounds x).0 in absurd (omega (arith, l, n))
same-fronts (x ∷ a) b (y ∷ c) d e n =
    let h : x ≡ y = ap (λ t. head_of t) e in
    let k = ap (λ z. len_utf8 z) h in
    let m : byte_length a ≡ byte_length c = omega (arith, n, k) in
    let f = same-fronts a b c d (ap (λ t. tail_of t) e) m in
    (ap (λ z. z ∷ a) h ∙ ap (λ t. y ∷ t) f.0, f.1)

-- A token that is not kept has its end.
ended-unless : (k : Kind) (e : Bool) (b a : Text) → Stands k e b a → is_leaf k e ≡ false
    → e ≡ true
ended-unless Whitespace e b a x h = x.0
ended-unless LineComment e b a x h = x.0
ended-unless OuterLineDoc e b a x h = x.0
ended-unless InnerLineDoc e b a x h = x.0
ended-unless BlockComment true b a x h = refl
ended-unless BlockComment false b a x h = absurd (false≢true (sym h))
ended-unless OuterBlockDoc true b a x h = refl
ended-unless OuterBlockDoc false b a x h = absurd (false≢true (sym h))
ended-unless InnerBlockDoc true b a x h = refl
ended-unless InnerBlockDoc false b a x h = absurd (false≢true (sym h))
ended-unless Shebang e b a x h = absurd x
ended-unless ByteOrderMark e b a x h = absurd x
ended-unless k e b a x h = absurd (false≢true (sym h))

pub ended-all : (whole : Text) (at : ℕ) (xs : List Lexeme) (r : Text) → ReadsTo whole xs r
    → AreEnded (leaves at xs) → IsTrue (list_all (λ x. x.is_ended) xs)
ended-all whole at [] r h e = refl
ended-all whole at (x ∷ xs) r h e =
    by_test (is_leaf x.kind x.is_ended) refl (ended-all h.0 (end_of at x) xs r h.2) e
  where
    by_test : (b : Bool) → is_leaf x.kind x.is_ended ≡ b
        → (AreEnded (leaves (end_of at x) xs) → IsTrue (list_all (λ x. x.is_ended) xs))
        → AreEnded (if b then leaf_at at x ∷ leaves (end_of at x) xs else leaves (end_of at x) xs)
        → IsTrue (list_all (λ x. x.is_ended) (x ∷ xs))
    by_test true q rec f =
        let p = and_parts x.is_ended _ f in and_from _ _ p.0 (rec p.1)
    by_test false q rec f =
        and_from _ _ (ended-unless x.kind x.is_ended x.body (x.suffix ++ h.0) h.1.stands q) (rec f)

-- A word begins with a character that begins a word.
word-start : (k : Kind) (e : Bool) (b a : Text) → Stands k e b a → is_ident k ≡ true
    → first_passes is_id_start b ≡ true
word-start Ident e b a x h =
    let w = x.1 in subst (λ t. first_passes is_id_start t ≡ true) (sym w.4) w.2
word-start RawIdent e b a x h = subst (λ t. first_passes is_id_start t ≡ true) (sym x.3) starts-r
word-start k e b a x h = absurd (false≢true h)

start-on : (b a : Text) → first_passes is_id_start b ≡ true
    → first_passes is_id_start (b ++ a) ≡ true
start-on [] a h = absurd (false≢true h)
start-on (c ∷ b) a h = h

-- The bytes of a front, where the word n begins after it, read as its tokens before each word.
pub known-front : (whole rest g after : List ℕ) (gap : List Leaf) (n : Leaf) (more : List Leaf)
    → IsUtf8 g → rest ≡ g ++ after
    → AreLeft (record { whole = whole; rest = rest }) (gap ++ n ∷ more)
    → length g ≡ n.start - (length whole - length rest) → is_ident n.kind ≡ true
    → EndsWithBarrier (chars g) → AreEnded gap → (xs : List Lexeme)
    × ReadsBeforeWords (chars g) xs × IsTrue (list_all (λ x. x.is_ended) xs)
    × (leaves (length whole - length rest) xs ≡ gap)
known-front whole rest g after gap n more u j l s w b k =
    let at : ℕ = length whole - length rest in
    let f = leaf-found at l.0 gap n more (sym l.2) in
    let r = reads-split (chars rest) f.before (f.token ∷ f.after) []
    (subst (λ t. ReadsTo (chars rest) t []) f.joins l.1) in
    let start : end_of_all at f.before ≡ n.start = ap (λ x. x.start) f.leaf_is in
    let joined-end = end-joined at f.before in
    let size : byte_length (chars g) ≡ length g =
    sym (byte-length (chars g)) ∙ ap (λ t. length t) (encodes-chars g u) in
    let bytes : byte_length (joined f.before) ≡ byte_length (chars g) =
    omega (arith, start, joined-end, s, size) in
    let same = same-fronts (joined f.before) r.0 (chars g) (chars after)
    (sym (reads-join (chars rest) f.before r.0 r.1)
    ∙ (ap (λ t. chars t) j ∙ chars-append g after u)) bytes in
    let next = r.2 in
    let kind : f.token.kind ≡ n.kind = ap (λ x. x.kind) f.leaf_is in
    let first : first_passes is_id_start r.0 ≡ true =
    ap (λ t. first_passes is_id_start t) next.1.joins
    ∙ start-on f.token.body (f.token.suffix ++ next.0)
    (word-start f.token.kind f.token.is_ended f.token.body (f.token.suffix ++ next.0)
    next.1.stands (ap (λ x. is_ident x) kind ∙ w)) in
    let ends : IsTrue (list_all (λ x. x.is_ended) f.before) =
    ended-all (chars rest) at f.before r.0 r.1 (subst (λ t. AreEnded t) (sym f.gap_is) k) in
    let whole-is : chars rest ≡ chars g ++ r.0 =
    reads-join (chars rest) f.before r.0 r.1 ∙ ap (λ t. t ++ r.0) same.0 in (
      f.before,
      by_word f.before r.0 first ends (subst (λ t. ReadsTo t f.before r.0) whole-is r.1),
      ends,
      f.gap_is,
    )
  where
    by_word : (xs : List Lexeme) (t : Text) → first_passes is_id_start t ≡ true
        → IsTrue (list_all (λ x. x.is_ended) xs) → ReadsTo (chars g ++ t) xs t
        → ReadsBeforeWords (chars g) xs
    by_word xs [] h e y = absurd (false≢true h)
    by_word xs (c ∷ t) h e y = before-words (chars g) t c xs b h e y

-- The text of such a front, whose tokens begin no call.
pub known-text : (es : List Entry) (whole rest g after : List ℕ) (gap : List Leaf) (n : Leaf)
    (more : List Leaf) (at : ℕ) → at ≡ length whole - length rest → IsUtf8 g → rest ≡ g ++ after
    → AreLeft (record { whole = whole; rest = rest }) (gap ++ n ∷ more)
    → length g ≡ n.start - at → is_ident n.kind ≡ true → EndsWithBarrier (chars g)
    → AreEnded gap → IsClear es gap
    → (xs : List Lexeme) × IsGapText es g xs × (leaves at xs ≡ gap)
known-text es whole rest g after gap n more at o u j l s w b k c =
    let f = known-front whole rest g after gap n more u j l (s ∙ ap (λ i. n.start - i) o) w b k in
    let e : leaves at f.0 ≡ gap = ap (λ i. leaves i f.0) o ∙ f.3 in (
      f.0,
      record {
        reads = f.1;
        are_ended = f.2;
        is_clear = clear-elsewhere es at 0 f.0 (subst (λ v. IsClear es v) (sym e) c);
      },
      e,
    )
