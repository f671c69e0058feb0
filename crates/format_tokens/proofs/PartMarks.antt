-- The tokens of the parts of a field, and which of them are marked: none of a clean part is.
use Rattle.std.proofs.Common.{◌≡◌, ℕ, ◌++◌, Bool, true, false, cond, List, [], ◌∷◌}
use Rattle.std.proofs.Common.{refl, sym, ap, ◌∙◌, codes, append_assoc}
use Rattle.std.specs.Prelude.{◌||◌, not, bytes_eq}
use Rattle.std.specs.Str.Parse.{digits_value}
use Rattle.std.proofs.lemmas.Bool.{cond_both, false≢true, false_from_ne_true, le-ltb}
use Rattle.std.proofs.lemmas.Bool.{ltb-false, or_from}
use Rattle.std.proofs.lemmas.Slice.Eq.{bytes_eq-Decides}
use Rattle.rustc_parse_format.specs.Characters.{Text, is_over}
use Rattle.rustc_parse_format.specs.Grammar.{IsCleanCount}
use Rattle.rustc_parse_format.specs.Grammar.{IsCleanPrecision, IsCleanType}
use Rattle.rustc_parse_format.specs.Grammar.{IsCleanWidth, IsNamed, IsSmall}
use Rattle.rustc_parse_format.specs.Spelling.{IsPart}
use Rattle.rustc_parse_format.specs.Syntax.{CountText, NumberCount, IndexCount, NameCount, NoCount}
use Rattle.rustc_parse_format.specs.Syntax.{DotPrecision, NoPrecision}
use Rattle.rustc_parse_format.specs.Syntax.{PaddedWidth, PlainWidth, PrecisionText, StarPrecision}
use Rattle.rustc_parse_format.specs.Syntax.{TypeText, CharacterType, DebugHexType}
use Rattle.rustc_parse_format.specs.Syntax.{WordType, WidthText, ZeroIndexWidth}
use Rattle.rustc_parse_format.specs.Syntax.{is_type_character}
use Rattle.rustc_parse_format.specs.Syntax.{type_part}
use Rattle.rustc_parse_format.specs.Types.{Lower, Upper}
use Rattle.rustc_parse_format.specs.Values.{type_of}
use Rattle.format_tokens.specs.declared.culprits.Role.{Role}
use Rattle.format_tokens.specs.declared.culprits.Role.TheVariants.{OpenBrace, CloseBrace}
use Rattle.format_tokens.specs.declared.culprits.Role.TheVariants.{Text as TextRole}
use Rattle.format_tokens.specs.declared.culprits.Role.TheVariants.{Name, Number, Message, Other}
use Rattle.format_tokens.specs.declared.kinds.Kind.{Kind}
use Rattle.format_tokens.specs.declared.kinds.Kind.TheVariants.{Asterisk, DollarSign}
use Rattle.format_tokens.specs.declared.kinds.Kind.TheVariants.{Dot, Identifier, Integer}
use Rattle.format_tokens.specs.declared.kinds.Kind.TheVariants.{«Type» as TypeKind}
use Rattle.format_tokens.specs.declared.kinds.Kind.TheVariants.{Unexpected}
use Rattle.format_tokens.specs.declared.kinds.Kind.TheVariants.{Zero}
use Rattle.format_tokens.specs.Culprits.{closes, closes_or, fits, inside_after}
use Rattle.format_tokens.specs.Culprits.{marked_tokens, role_of}
use Rattle.format_tokens.specs.Sections.{has_mark, is_mark}
use Rattle.format_tokens.specs.Tokens.{Label, count_tokens}
use Rattle.format_tokens.specs.Tokens.{integer_kind, precision_tokens}
use Rattle.format_tokens.specs.Tokens.{token, width_tokens, word_kind}

-- The role of a token of a field.
abbrev pub IsInner : Role → Type 0
IsInner OpenBrace = ⊥
IsInner CloseBrace = ⊥
IsInner TextRole = ⊥
IsInner Name = Unit {0}
IsInner Number = Unit {0}
IsInner Message = Unit {0}
IsInner Other = Unit {0}

-- Such a token is in place, wherever it is.
abbrev in_place : Bool → Role → Bool
in_place names OpenBrace = true
in_place names CloseBrace = true
in_place names TextRole = true
in_place names Name = true
in_place names Number = not names
in_place names Message = not names
in_place names Other = true

fits-inner : (names inside : Bool) (ts : List Label) (r : Role) → IsInner r
    → fits names inside ts r ≡ in_place names r
fits-inner names inside ts OpenBrace h = absurd h
fits-inner names inside ts CloseBrace h = absurd h
fits-inner names inside ts TextRole h = absurd h
fits-inner names inside ts Name h = refl
fits-inner names inside ts Number h = refl
fits-inner names inside ts Message h = refl
fits-inner names inside ts Other h = refl

inside-inner : (inside f : Bool) (r : Role) → IsInner r → inside_after inside f r ≡ inside
inside-inner inside f OpenBrace h = absurd h
inside-inner inside f CloseBrace h = absurd h
inside-inner inside f TextRole h = absurd h
inside-inner inside f Name h = refl
inside-inner inside f Number h = refl
inside-inner inside f Message h = refl
inside-inner inside f Other h = refl

closes-inner : (b : Bool) (r : Role) → IsInner r → closes_or b r ≡ b
closes-inner b OpenBrace h = absurd h
closes-inner b CloseBrace h = absurd h
closes-inner b TextRole h = absurd h
closes-inner b Name h = refl
closes-inner b Number h = refl
closes-inner b Message h = refl
closes-inner b Other h = refl

-- A token of this kind in a field is a mark.
abbrev inner_mark : Bool → Kind → Bool
inner_mark names k = is_mark (cond (in_place names (role_of k)) k Unexpected)

-- These tokens are in a field, and the flag says whether one of them is a mark, whatever follows.
pub record Inner (names : Bool) (ls : List Label) (m : Bool) : Type 0 where
  pub passes : (inside : Bool) (ts : List Label)
      → has_mark (marked_tokens names inside (ls ++ ts))
      ≡ (m || has_mark (marked_tokens names inside ts))
  pub closing : (ts : List Label) → closes (ls ++ ts) ≡ closes ts

pub inner-none : (names : Bool) → Inner names [] false
inner-none names = record { passes = λ inside ts. refl; closing = λ ts. refl }

inner-one : (names : Bool) (k : Kind) (u : Text) → IsInner (role_of k)
    → Inner names ((k, u) ∷ []) (inner_mark names k)
inner-one names k u h = record {
  passes = λ inside ts.
      ap (λ f. is_mark (cond f k Unexpected)
      || has_mark (marked_tokens names (inside_after inside f (role_of k)) ts))
      (fits-inner names inside ts (role_of k) h)
      ∙ ap (λ b. inner_mark names k || has_mark (marked_tokens names b ts))
      (inside-inner inside (in_place names (role_of k)) (role_of k) h);
  closing = λ ts. closes-inner (closes ts) (role_of k) h;
}

or-assoc : (a b c : Bool) → ((a || b) || c) ≡ (a || (b || c))
or-assoc true b c = refl
or-assoc false b c = refl

pub both : {names : Bool} {x y : List Label} {m n : Bool} → Inner names x m → Inner names y n
    → Inner names (x ++ y) (m || n)
both {names = names} {x = x} {y = y} {m = m} {n = n} h k = record {
  passes = λ inside ts. ap (λ l. has_mark (marked_tokens names inside l)) (append_assoc x y ts)
      ∙ (h.passes inside (y ++ ts) ∙ (ap (λ b. m || b) (k.passes inside ts)
      ∙ sym (or-assoc m n (has_mark (marked_tokens names inside ts)))));
  closing = λ ts. ap closes (append_assoc x y ts) ∙ (h.closing (y ++ ts) ∙ k.closing ts);
}

-- The token of a text is a mark. The empty text has none.
abbrev pub token_mark : Bool → Kind → Text → Bool
token_mark names k [] = false
token_mark names k (c ∷ u) = inner_mark names k

pub inner-token : (names : Bool) (k : Kind) (u : Text) → IsInner (role_of k)
    → Inner names (token k u) (token_mark names k u)
inner-token names k [] h = inner-none names
inner-token names k (c ∷ u) h = inner-one names k (c ∷ u) h

-- Tokens that are never marked.
pub unmarked : (names : Bool) (k : Kind) (u : Text) → inner_mark names k ≡ false
    → token_mark names k u ≡ false
unmarked names k [] e = refl
unmarked names k (c ∷ u) e = e

pub quiet : (names : Bool) (k : Kind) (u : Text) → IsInner (role_of k)
    → inner_mark names k ≡ false → Inner names (token k u) false
quiet names k [] h e = inner-none names
quiet names k (c ∷ u) h e =
    let one = inner-one names k (c ∷ u) h in record {
      passes = λ inside ts. one.passes inside ts
          ∙ ap (λ m. m || has_mark (marked_tokens names inside ts)) e;
      closing = one.closing;
    }

-- Words,
pub word-inner : (names : Bool) (k : Kind) (w : Text) → IsInner (role_of k)
    → IsInner (role_of (word_kind k w))
unfolding role_of
word-inner names k w h =
    cond_both {A = Kind} (bytes_eq w (codes "_")) Unexpected k (λ x. IsInner (role_of x))
    (λ e. tt) (λ e. h)

pub word-clean : (names : Bool) (k : Kind) (w u : Text) → inner_mark names k ≡ false → IsNamed w
    → token_mark names (word_kind k w) u ≡ false
word-clean names k w u e h =
    let no : bytes_eq w (codes "_") ≡ false =
    false_from_ne_true (bytes_eq w (codes "_")) (λ y. h ((bytes_eq-Decides w (codes "_")).0 y)) in
    ap (λ b. token_mark names (cond b Unexpected k) u) no ∙ unmarked names k u e

word-marked : (names : Bool) (k : Kind) → token_mark names (word_kind k (codes "_")) (codes "_")
    ≡ true
unfolding is_mark role_of
word-marked names k = refl

pub clean-word : (names : Bool) (k : Kind) (w : Text) → token_mark names (word_kind k w) w ≡ false
    → IsNamed w
clean-word names k w e same =
    false≢true (sym e ∙ (ap (λ v. token_mark names (word_kind k v) v) same
    ∙ word-marked names k))

-- and integers.
pub integer-inner : (ds : Text) → IsInner (role_of (integer_kind ds))
unfolding role_of
integer-inner ds = cond_both {A = Kind} (is_over ds) Unexpected Integer (λ x. IsInner (role_of x))
    (λ e. tt) (λ e. tt)

pub integer-clean : (names : Bool) (ds : Text) → names ≡ false → IsSmall ds
    → token_mark names (integer_kind ds) ds ≡ false
unfolding is_mark role_of
integer-clean names ds e h =
    ap (λ b. token_mark names (cond b Unexpected Integer) ds)
    (le-ltb 65535 (digits_value 10 ds) h)
    ∙ (ap (λ b. token_mark b Integer ds) e ∙ unmarked false Integer ds refl)

pub clean-integer : (names : Bool) (ds : Text) → token_mark names (integer_kind ds) ds ≡ false
    → IsSmall ds
unfolding is_mark role_of
clean-integer names [] e = ltb-false 65535 (digits_value 10 []) refl
clean-integer names (c ∷ ds) e = by_size (is_over (c ∷ ds)) refl e
  where
    by_size : (b : Bool) → is_over (c ∷ ds) ≡ b
        → inner_mark names (cond b Unexpected Integer) ≡ false → IsSmall (c ∷ ds)
    by_size true q e = absurd (false≢true (sym e))
    by_size false q e = ltb-false 65535 (digits_value 10 (c ∷ ds)) q

-- Where names are wanted, an integer is a mark.
pub integer-marked : (c : ℕ) (ds : Text) → token_mark true (integer_kind (c ∷ ds)) (c ∷ ds) ≡ true
unfolding is_mark role_of
integer-marked c ds = cond_both {A = Kind} (is_over (c ∷ ds)) Unexpected Integer
    (λ k. inner_mark true k ≡ true) (λ e. refl) (λ e. refl)

-- Neither of two.
pub or-left : (a b : Bool) → (a || b) ≡ false → a ≡ false
or-left true b e = e
or-left false b e = refl

pub or-right : (a b : Bool) → (a || b) ≡ false → b ≡ false
or-right true b e = absurd (false≢true (sym e))
or-right false b e = e

-- Counts.
abbrev count_mark : Bool → CountText → Bool
count_mark names (NumberCount ds) = token_mark names (integer_kind ds) ds
count_mark names (IndexCount ds) = token_mark names (integer_kind ds) ds || false
count_mark names (NameCount w) = token_mark names (word_kind Identifier w) w || false
count_mark names NoCount = false

count-inner : (names : Bool) (k : CountText) → Inner names (count_tokens k) (count_mark names k)
unfolding is_mark role_of
count-inner names (NumberCount ds) = inner-token names (integer_kind ds) ds (integer-inner ds)
count-inner names (IndexCount ds) =
    both (inner-token names (integer_kind ds) ds (integer-inner ds))
    (quiet names DollarSign (codes "$") tt refl)
count-inner names (NameCount w) =
    both (inner-token names (word_kind Identifier w) w (word-inner names Identifier w tt))
    (quiet names DollarSign (codes "$") tt refl)
count-inner names NoCount = inner-none names

count-clean : (names : Bool) (k : CountText) → names ≡ false → IsCleanCount k
    → count_mark names k ≡ false
unfolding is_mark role_of
count-clean names (NumberCount ds) e h = integer-clean names ds e h
count-clean names (IndexCount ds) e h =
    or_from (token_mark names (integer_kind ds) ds) false (integer-clean names ds e h) refl
count-clean names (NameCount w) e h =
    or_from (token_mark names (word_kind Identifier w) w) false
    (word-clean names Identifier w w refl h) refl
count-clean names NoCount e h = refl

clean-count : (names : Bool) (k : CountText) → count_mark names k ≡ false → IsCleanCount k
clean-count names (NumberCount ds) e = clean-integer names ds e
clean-count names (IndexCount ds) e =
    clean-integer names ds (or-left (token_mark names (integer_kind ds) ds) false e)
clean-count names (NameCount w) e =
    clean-word names Identifier w (or-left (token_mark names (word_kind Identifier w) w) false e)
clean-count names NoCount e = tt

abbrev pub width_mark : Bool → WidthText → Bool
width_mark names (PaddedWidth k) = count_mark names k
width_mark names ZeroIndexWidth = token_mark names Integer (codes "0") || false
width_mark names (PlainWidth k) = count_mark names k

pub width-inner : (names : Bool) (w : WidthText) → Inner names (width_tokens w) (width_mark names w)
unfolding is_mark role_of
width-inner names (PaddedWidth k) =
    both (quiet names Zero (codes "0") tt refl) (count-inner names k)
width-inner names ZeroIndexWidth =
    both (inner-token names Integer (codes "0") tt) (quiet names DollarSign (codes "$") tt refl)
width-inner names (PlainWidth k) = count-inner names k

pub width-clean : (names : Bool) (w : WidthText) → names ≡ false → IsCleanWidth w
    → width_mark names w ≡ false
unfolding is_mark role_of
width-clean names (PaddedWidth k) e h = count-clean names k e h
width-clean names ZeroIndexWidth e h = ap (λ b. token_mark b Integer (codes "0") || false) e
width-clean names (PlainWidth k) e h = count-clean names k e h

pub clean-width : (names : Bool) (w : WidthText) → width_mark names w ≡ false → IsCleanWidth w
clean-width names (PaddedWidth k) e = clean-count names k e
clean-width names ZeroIndexWidth e = tt
clean-width names (PlainWidth k) e = clean-count names k e

abbrev pub precision_mark : Bool → PrecisionText → Bool
precision_mark names NoPrecision = false
precision_mark names StarPrecision = false
precision_mark names (DotPrecision k) = count_mark names k

pub precision-inner : (names : Bool) (p : PrecisionText)
    → Inner names (precision_tokens p) (precision_mark names p)
unfolding is_mark role_of
precision-inner names NoPrecision = inner-none names
precision-inner names StarPrecision =
    both (quiet names Dot (codes ".") tt refl) (quiet names Asterisk (codes "*") tt refl)
precision-inner names (DotPrecision k) =
    both (quiet names Dot (codes ".") tt refl) (count-inner names k)

pub precision-clean : (names : Bool) (p : PrecisionText) → names ≡ false → IsCleanPrecision p
    → precision_mark names p ≡ false
precision-clean names NoPrecision e h = refl
precision-clean names StarPrecision e h = refl
precision-clean names (DotPrecision k) e h = count-clean names k e h

pub clean-precision : (names : Bool) (p : PrecisionText) → precision_mark names p ≡ false
    → IsCleanPrecision p
clean-precision names NoPrecision e = tt
clean-precision names StarPrecision e = tt
clean-precision names (DotPrecision k) e = clean-count names k e

-- Types.
abbrev pub type_mark : Bool → TypeText → Bool
type_mark names y = token_mark names (word_kind TypeKind (type_of y)) (type_part y).spelling

one_letter : (c d : ℕ) → c ∷ [] ≡ d ∷ [] → c ≡ d
one_letter c d e = cc e

letter_named : (c : ℕ) → is_type_character c ≡ true → IsNamed (c ∷ [])
letter_named c h e = by_letter c (one_letter c 95 e) h
  where
    by_letter : (d : ℕ) → d ≡ 95 → is_type_character d ≡ true → ⊥
    by_letter d e h = false≢true (sym (ap is_type_character e) ∙ h)

pub type-clean : (names : Bool) (y : TypeText) {t r : Text} → IsPart t (type_part y) r
    → IsCleanType y → type_mark names y ≡ false
unfolding is_mark role_of
type-clean names (DebugHexType Lower) p h = refl
type-clean names (DebugHexType Upper) p h = refl
type-clean names (CharacterType c) p h =
    word-clean names TypeKind (c ∷ []) (c ∷ []) refl (letter_named c p.formed)
type-clean names (WordType w) p h =
    word-clean names TypeKind w (type_part (WordType w)).spelling refl h

type-marked : (names : Bool) → type_mark names (WordType (codes "_")) ≡ true
unfolding is_mark role_of
type-marked names = refl

pub clean-type : (names : Bool) (y : TypeText) → type_mark names y ≡ false → IsCleanType y
clean-type names (DebugHexType h) e = tt
clean-type names (CharacterType c) e = tt
clean-type names (WordType w) e = λ same. false≢true (sym e
    ∙ (ap (λ v. type_mark names (WordType v)) same ∙ type-marked names))
