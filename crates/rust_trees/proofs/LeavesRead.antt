-- Tokens of a file that are read.
use Rattle.std.proofs.Common.{◌≡◌, ◌++◌, ℕ, ◌+◌, ◌-◌, ◌<◌, ◌≤◌, Bool, true, false, List, [], ◌∷◌}
use Rattle.std.proofs.Common.{refl}
use Rattle.std.proofs.Common.{ap, sym, ◌∙◌, subst, length, length-append, arith, chars, IsUtf8}
use Rattle.std.proofs.Common.{take}
use Rattle.std.specs.Prelude.{IsTrue, encode_utf8_all, if◌then◌else◌, nat_lt}
use Rattle.std.specs.Str.{IsCharBoundary}
use Rattle.std.specs.List.{list_all}
use Rattle.std.proofs.Common.{map}
use Rattle.std.proofs.lemmas.List.{append_assoc, map-append}
use Rattle.std.proofs.lemmas.Str.{encodes-chars, encodes-append, IsCharBoundary-at_seam}
use Rattle.std.proofs.lemmas.Bool.{and_parts, false≢true}
use Rattle.std.specs.Char.{len_utf8}
use Rattle.std.proofs.lemmas.Str.{len_utf8_bounds}
use Rattle.std.proofs.Math.Seq.{take-append_seam}
use Rattle.rust_tokens.specs.declared.kinds.Kind.{Kind}
use Rattle.rust_tokens.specs.declared.kinds.Kind.TheVariants.{Shebang, ByteOrderMark}
use Rattle.rust_tokens.specs.Texts.{Text}
use Rattle.rust_tokens.specs.Tokens.{Lexeme, Begins, Reads}
use Rattle.rust_tokens.specs.Files.{is_head, ReadsFile}
use Rattle.rust_tokens.specs.declared.kinds.Token.{Token}
use Rattle.rust_tokens.specs.Spans.{byte_length, end_of, end_of_all, token_at}
use Rattle.rust_tokens.proofs.Readings.{byte-length}
use Rattle.rust_trees.specs.Leaves.{AreLeft, Leaf, leaf_at, leaves, is_leaf, is_some_text}

-- A text is cut after its first token.
pub record Cut (rest rest_after : List ℕ) (x : Lexeme) : Type 0 where
  pub joins : rest ≡ encode_utf8_all (x.body ++ x.suffix) ++ rest_after
  pub size : length (encode_utf8_all (x.body ++ x.suffix)) ≡ end_of 0 x

cut : (rest rest_after : List ℕ) (x : Lexeme) → IsUtf8 rest → IsUtf8 rest_after
    → Begins x (chars rest) (chars rest_after) → Cut rest rest_after x
cut rest rest_after x u v b =
    let e : chars rest ≡ (x.body ++ x.suffix) ++ chars rest_after =
    b.joins ∙ sym (append_assoc x.body x.suffix (chars rest_after)) in
    let n = ap (λ t. length t) (encodes-append x.body x.suffix)
    ∙ length-append (encode_utf8_all x.body) (encode_utf8_all x.suffix) in
    let l = byte-length x.body in
    let m = byte-length x.suffix in record {
      joins = sym (encodes-chars rest u) ∙ (ap (λ t. encode_utf8_all t) e
          ∙ (encodes-append (x.body ++ x.suffix) (chars rest_after)
          ∙ ap (λ t. encode_utf8_all (x.body ++ x.suffix) ++ t) (encodes-chars rest_after v)));
      size = omega (arith, n, l, m);
    }

pub cut-boundary : (rest rest_after : List ℕ) (x : Lexeme) → IsUtf8 rest → IsUtf8 rest_after
    → Begins x (chars rest) (chars rest_after) → IsCharBoundary rest (end_of 0 x)
cut-boundary rest rest_after x u v b =
    let c = cut rest rest_after x u v b in
    subst (λ n. IsCharBoundary rest n) c.size
    (IsCharBoundary-at_seam rest _ rest_after c.joins v)

cut-front : (rest rest_after : List ℕ) (x : Lexeme) → IsUtf8 rest → IsUtf8 rest_after
    → Begins x (chars rest) (chars rest_after)
    → take (end_of 0 x) rest ≡ encode_utf8_all (x.body ++ x.suffix)
cut-front rest rest_after x u v b =
    let c = cut rest rest_after x u v b in
    ap (λ n. take n rest) (sym c.size)
    ∙ (ap (λ t. take (length (encode_utf8_all (x.body ++ x.suffix))) t) c.joins
    ∙ take-append_seam (encode_utf8_all (x.body ++ x.suffix)) rest_after)

head-no-leaf : (k : Kind) (e : Bool) → is_head k ≡ true → is_leaf k e ≡ false
head-no-leaf Shebang e h = refl
head-no-leaf ByteOrderMark e h = refl
head-no-leaf k e h = absurd (false≢true h)

leaves-rest_after : (at : ℕ) (xs ys : List Lexeme) → IsTrue (list_all (λ x. is_head x.kind) xs)
    → leaves at (xs ++ ys) ≡ leaves (end_of_all at xs) ys
leaves-rest_after at [] ys h = refl
leaves-rest_after at (x ∷ xs) ys h =
    let p = and_parts _ _ h in
    ap (λ b. if b then leaf_at at x ∷ leaves (end_of at x) (xs ++ ys)
    else leaves (end_of at x) (xs ++ ys)) (head-no-leaf x.kind x.is_ended p.0)
    ∙ leaves-rest_after (end_of at x) xs ys p.1

-- The leaves of the rest of a file after its head are those of the file.
pub left-all : (whole rest : List ℕ) (hs : List Lexeme)
    → IsTrue (list_all (λ x. is_head x.kind) hs)
    → ((rs : List Lexeme) → Reads (chars rest) rs → ReadsFile (chars whole) (hs ++ rs))
    → end_of_all 0 hs + length rest ≡ length whole → (ls : List Leaf)
    → AreLeft (record { whole = whole; rest = rest }) ls
    → (xs : List Lexeme) × ReadsFile (chars whole) xs × (ls ≡ leaves 0 xs)
left-all whole rest hs h j e ls l =
    let at : length whole - length rest ≡ end_of_all 0 hs = omega (arith, e) in
    (hs ++ l.0, j l.0 l.1, l.2 ∙ (ap (λ n. leaves n l.0) at ∙ sym (leaves-rest_after 0 hs l.0 h)))

-- Where the rest begins after its first token.
next-at : (whole rest rest_after : List ℕ) (x : Lexeme) → IsUtf8 rest → IsUtf8 rest_after
    → Begins x (chars rest) (chars rest_after) → length rest ≤ length whole
    → end_of (length whole - length rest) x ≡ length whole - length rest_after
next-at whole rest rest_after x u v b h =
    let c = cut rest rest_after x u v b in
    let l = ap (λ t. length t) c.joins
    ∙ length-append (encode_utf8_all (x.body ++ x.suffix)) rest_after in
    let s = c.size in omega (arith, l, s, h)

-- A token that is no leaf changes nothing of the rest.
pub left-rest_after : (whole rest rest_after : List ℕ) (x : Lexeme) → IsUtf8 rest
    → IsUtf8 rest_after
    → Begins x (chars rest) (chars rest_after) → length rest ≤ length whole
    → is_leaf x.kind x.is_ended ≡ false → (ls : List Leaf)
    → AreLeft (record { whole = whole; rest = rest_after }) ls
    → AreLeft (record { whole = whole; rest = rest }) ls
left-rest_after whole rest rest_after x u v b h e ls l = (
  x ∷ l.0,
  (chars rest_after, b, l.1),
  l.2 ∙ (ap (λ n. leaves n l.0) (sym (next-at whole rest rest_after x u v b h))
      ∙ sym (ap (λ t. if t then leaf_at (length whole - length rest) x
      ∷ leaves (end_of (length whole - length rest) x) l.0
      else leaves (end_of (length whole - length rest) x) l.0) e)),
)

-- A token that is a leaf is the first of the rest.
pub left-more : (whole rest rest_after : List ℕ) (x : Lexeme) → IsUtf8 rest → IsUtf8 rest_after
    → Begins x (chars rest) (chars rest_after) → length rest ≤ length whole
    → is_leaf x.kind x.is_ended ≡ true → (ls : List Leaf)
    → AreLeft (record { whole = whole; rest = rest_after }) ls
    → AreLeft (record { whole = whole; rest = rest })
    (leaf_at (length whole - length rest) x ∷ ls)
left-more whole rest rest_after x u v b h e ls l = (
  x ∷ l.0,
  (chars rest_after, b, l.1),
  ap (λ t. leaf_at (length whole - length rest) x ∷ t)
      (l.2 ∙ ap (λ n. leaves n l.0) (sym (next-at whole rest rest_after x u v b h)))
      ∙ sym (ap (λ t. if t then leaf_at (length whole - length rest) x
      ∷ leaves (end_of (length whole - length rest) x) l.0
      else leaves (end_of (length whole - length rest) x) l.0) e),
)

-- Nothing is left of an empty rest.
pub left-none : (whole rest : List ℕ) → chars rest ≡ []
    → AreLeft (record { whole = whole; rest = rest }) []
left-none whole rest h = ([], h, refl)

-- A suffix is there exactly if the token does not end where its suffix starts.
pub suffix-test : (n : ℕ) (t : Text) → nat_lt n (n + byte_length t) ≡ is_some_text t
suffix-test n [] = search (arith)
suffix-test n (c ∷ t) =
    let l : 1 ≤ len_utf8 c = (len_utf8_bounds c).0 in
    let more : n < n + (len_utf8 c + byte_length t) = omega (arith, l) in
    search (arith, more)

-- The token as it is kept.
pub leaf-of : (t : Token) (x : Lexeme) (front rest rest_after : List ℕ) (at : ℕ) → IsUtf8 rest
    → IsUtf8 rest_after → Begins x (chars rest) (chars rest_after) → t ≡ token_at 0 x
    → front ≡ take t.span.end rest
    → ◌≡◌ {A = Leaf} (record {
      kind = t.kind;
      is_ended = t.is_ended;
      has_suffix = nat_lt t.suffix_start t.span.end;
      text = front;
      start = at;
    }) (leaf_at at x)
leaf-of t x front rest rest_after at u v b e f =
    let text : front ≡ encode_utf8_all (x.body ++ x.suffix) =
    f ∙ (ap (λ s. take s.span.end rest) e ∙ cut-front rest rest_after x u v b) in
    let suffix : nat_lt t.suffix_start t.span.end ≡ is_some_text x.suffix =
    ap (λ s. nat_lt s.suffix_start s.span.end) e
    ∙ suffix-test (0 + byte_length x.body) x.suffix in
    let kind : t.kind ≡ x.kind = ap (λ s. s.kind) e in
    let ended : t.is_ended ≡ x.is_ended = ap (λ s. s.is_ended) e in
    rw (text, suffix, kind, ended) refl

-- A list with one more, each as a contract sees it.
pub map-push : {A B : Type 0} (f : A → B) (xs ys : List A) (x : A) (y : B) → ys ≡ xs ++ x ∷ []
    → f x ≡ y → map f ys ≡ map f xs ++ y ∷ []
map-push f xs ys x y e h = ap (λ t. map f t) e ∙ (map-append f xs (x ∷ [])
    ∙ ap (λ t. map f xs ++ t ∷ []) h)
