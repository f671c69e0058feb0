-- A file in which the word `macro_rules` does not stand defines no macro.
use Prim.Native.Char.{code}
use Rattle.std.proofs.Common.{◌≡◌, ◌++◌, ◌∙◌, ℕ, List, [], ◌∷◌, Bool, true, false, Option, None}
use Rattle.std.proofs.Common.{Some, ap, append_assoc, chars, inl, inr, refl, subst, sym, IsUtf8}
use Rattle.std.specs.Prelude.{◌&&◌, ◌||◌, ◌⊎◌, codes, encode_utf8_all, if◌then◌else◌}
use Rattle.std.specs.List.{list_any}
use Rattle.std.specs.Str.{bytes_eq}
use Rattle.std.specs.Str.Iter.{HasSubslice}
use Rattle.std.proofs.lemmas.Bool.{and_parts, false_from_ne_true, false≢true}
use Rattle.std.proofs.lemmas.List.{append-nil}
use Rattle.std.proofs.lemmas.Slice.Eq.{bytes_eq-Decides}
use Rattle.std.proofs.lemmas.Str.{encodes-append, encodes-chars}
use Rattle.rust_tokens.specs.Files.{IsMarked, IsShebanged, ReadsFile}
use Rattle.rust_tokens.specs.Spans.{end_of}
use Rattle.rust_tokens.specs.Texts.{Text}
use Rattle.rust_tokens.specs.Tokens.{Lexeme, ReadsTo}
use Rattle.rust_tokens.proofs.Basics.{neither}
use Rattle.rust_tokens.proofs.FileLaws.{file-some}
use Rattle.rust_trees.specs.Leaves.{Leaf, is_leaf, leaf_at, leaves}
use Rattle.format_calls.specs.Marks.{is_mark_of, is_word, word}
use Rattle.source_lint.specs.Files.{AreLeaves}
use Rattle.source_lint.specs.Macros.{begins_definition, is_macro_rules, macro_names, names_after}

-- The texts of tokens, one after the other.
abbrev texts : List Lexeme → Text
texts [] = []
texts (x ∷ xs) = (x.body ++ x.suffix) ++ texts xs

texts-append : (xs ys : List Lexeme) → texts (xs ++ ys) ≡ texts xs ++ texts ys
texts-append [] ys = refl
texts-append (x ∷ xs) ys =
    ap (λ t. (x.body ++ x.suffix) ++ t) (texts-append xs ys)
    ∙ sym (append_assoc (x.body ++ x.suffix) (texts xs) (texts ys))

reads-texts : (whole r : Text) (xs : List Lexeme) → ReadsTo whole xs r → whole ≡ texts xs ++ r
reads-texts whole r [] h = h
reads-texts whole r (x ∷ xs) h =
    h.1.joins ∙ (sym (append_assoc x.body x.suffix h.0)
    ∙ (ap (λ t. (x.body ++ x.suffix) ++ t) (reads-texts h.0 r xs h.2)
    ∙ sym (append_assoc (x.body ++ x.suffix) (texts xs) r)))

marked-texts : (whole t : Text) (xs : List Lexeme) → IsMarked whole xs t → whole ≡ texts xs ++ t
marked-texts whole t xs (inl h) = h.1 ∙ ap (λ ys. texts ys ++ t) (sym h.0)
marked-texts whole t xs (inr h) = h.1 ∙ ap (λ ys. texts ys ++ t) (sym h.0)

shebanged-texts : (whole t : Text) (xs : List Lexeme) → IsShebanged whole xs t
    → whole ≡ texts xs ++ t
shebanged-texts whole t xs (inl h) =
    let u = codes "#!" ++ h.0 in
    h.2 ∙ (sym (append_assoc (codes "#!") h.0 t)
    ∙ (ap (λ v. v ++ t) (sym (append-nil (u ++ []) ∙ append-nil u))
    ∙ ap (λ ys. texts ys ++ t) (sym h.1)))
shebanged-texts whole t xs (inr h) = h.1 ∙ ap (λ ys. texts ys ++ t) (sym h.0)

file-texts : (whole : Text) (xs : List Lexeme) → ReadsFile whole xs → whole ≡ texts xs
file-texts whole xs h =
    marked-texts whole h.3 h.0 h.5
    ∙ (ap (λ t. texts h.0 ++ t) (shebanged-texts h.3 h.4 h.1 h.6
    ∙ (ap (λ t. texts h.1 ++ t) (reads-texts h.4 [] h.2 h.7 ∙ append-nil (texts h.2))
    ∙ sym (texts-append h.1 h.2))) ∙ (sym (texts-append h.0 (h.1 ++ h.2))
    ∙ ap (λ ys. texts ys) (sym h.8)))

-- The word stands in a text.
abbrev Stands : Text → Type 0
Stands whole = (a t b : Text) × (whole ≡ a ++ (t ++ b))
    × (encode_utf8_all t ≡ codes "macro_rules")

later : (s t : Text) → Stands t → Stands (s ++ t)
later s t h = (
  s ++ h.0,
  h.1,
  h.2,
  ap (λ u. s ++ u) h.3 ∙ sym (append_assoc s h.0 (h.1 ++ h.2)),
  h.4,
)

either : (a b : Bool) → (a || b) ≡ true → (a ≡ true) ⊎ (b ≡ true)
either true b e = inl refl
either false b e = inr e

word-stands : (at : ℕ) (xs : List Lexeme) → list_any is_macro_rules (leaves at xs) ≡ true
    → Stands (texts xs)
word-stands at [] e = absurd (false≢true e)
word-stands at (x ∷ xs) e =
    by (is_leaf x.kind x.is_ended) (word-stands (end_of at x) xs) e
  where
    this : bytes_eq (leaf_at at x).text (codes "macro_rules") ≡ true → Stands (texts (x ∷ xs))
    this f = ([], x.body ++ x.suffix, texts xs, refl, (bytes_eq-Decides _ _).0 f)

    one : (list_any is_macro_rules (leaves (end_of at x) xs) ≡ true → Stands (texts xs))
        → (is_macro_rules (leaf_at at x) ≡ true)
        ⊎ (list_any is_macro_rules (leaves (end_of at x) xs) ≡ true) → Stands (texts (x ∷ xs))
    one more (inl f) = this (and_parts _ _ f).1
    one more (inr f) = later (x.body ++ x.suffix) (texts xs) (more f)

    by : (k : Bool)
        → (list_any is_macro_rules (leaves (end_of at x) xs) ≡ true → Stands (texts xs))
        → list_any is_macro_rules (if k then leaf_at at x ∷ leaves (end_of at x) xs
        else leaves (end_of at x) xs) ≡ true → Stands (texts (x ∷ xs))
    by true more f = one more (either (is_macro_rules (leaf_at at x)) _ f)
    by false more f = later (x.body ++ x.suffix) (texts xs) (more f)

word-there : (bs : List ℕ) → IsUtf8 bs → Stands (chars bs) → HasSubslice bs (codes "macro_rules")
word-there bs u h = (
  encode_utf8_all h.0,
  encode_utf8_all h.2,
  sym (encodes-chars bs u) ∙ (ap (λ t. encode_utf8_all t) h.3
      ∙ (encodes-append h.0 (h.1 ++ h.2)
      ∙ ap (λ t. encode_utf8_all h.0 ++ t) (encodes-append h.1 h.2
      ∙ ap (λ t. t ++ encode_utf8_all h.2) h.4))),
)

-- Without the word there is no definition.
abbrev is_rules : Option Leaf → Bool
is_rules None = false
is_rules (Some x) = is_macro_rules x

begins-not : (w m : Option Leaf) → is_rules w ≡ false → begins_definition w m ≡ false
begins-not None m e = refl
begins-not (Some w) None e = refl
begins-not (Some w) (Some m) e = ap (λ b. b && is_mark_of (code "!") (Some m)) e

no-names : (w m : Option Leaf) (xs : List Leaf) → is_rules w ≡ false → is_rules m ≡ false
    → list_any is_macro_rules xs ≡ false → names_after w m xs ≡ []
no-names w m [] e f g = refl
no-names w m (x ∷ xs) e f g =
    let h = neither (is_macro_rules x) _ g in
    ap (λ b. (if b && is_word x then word x ∷ [] else []) ++ names_after m (Some x) xs)
    (begins-not w m e) ∙ no-names m (Some x) xs f h.0 h.1

pub undefined : (bs : List ℕ) → IsUtf8 bs → (HasSubslice bs (codes "macro_rules") → ⊥)
    → (ls : List Leaf) × AreLeaves bs ls × (macro_names ls ≡ [])
undefined bs u none =
    let f = file-some (chars bs) in (
      leaves 0 f.0,
      (f.0, f.1, refl),
      no-names None None (leaves 0 f.0) refl refl
          (false_from_ne_true _ (λ e. none (word-there bs u
          (subst (λ t. Stands t) (sym (file-texts (chars bs) f.0 f.1)) (word-stands 0 f.0 e))))),
    )
