-- An input is a string literal in at most one way, and gives the parser one source.
use Rattle.std.proofs.Common.{◌≡◌, ◌≢◌, ℕ, zero, suc, ◌++◌, Bool, true, false, [], ◌∷◌, Option}
use Rattle.std.proofs.Common.{Some, None, refl, sym, ap, ◌∙◌, subst, append_assoc, append-nil}
use Rattle.std.proofs.Common.{add-one, arith, replicate, get_or}
use Rattle.std.proofs.lemmas.List.{append_cancel_right, replicate_more, same_from_push}
use Rattle.std.proofs.lemmas.Option.{same_Some}
use Rattle.rustc_parse_format.specs.Characters.{Text}
use Rattle.rustc_parse_format.specs.Literal.{IsLiteral, content_value, newline, ordinary_frame}
use Rattle.rustc_parse_format.specs.Literal.{raw_closing, raw_frame, raw_opening, units}
use Rattle.rustc_parse_format.proofs.Literals.Contents.{units-complete}
use Rattle.piece_listing.specs.Source.{IsInLiteral, IsSourceOf, Source}
use Rattle.piece_listing.proofs.Literals.{raw_frame-parts, same_hashes}

-- The last character of a literal is a quote or a hash, so no newline stands at its end.
record EndsApart (s : Text) : Type 0 where
  front : Text
  last : ℕ
  split : s ≡ front ++ last ∷ []
  apart : last ≢ 10

raw_closing-end : (n : ℕ) → EndsApart (raw_closing n)
raw_closing-end zero = record {
  front = [];
  last = 34;
  split = refl;
  apart = λ (e : ◌≡◌ {A = ℕ} 34 10). omega arith;
}
raw_closing-end (suc n) = record {
  front = 34 ∷ replicate n 35;
  last = 35;
  split = ap (λ k. 34 ∷ replicate k 35) (sym (add-one n))
      ∙ ap (λ s. 34 ∷ s) (sym (replicate_more n 35));
  apart = λ (e : ◌≡◌ {A = ℕ} 35 10). omega arith;
}

literal-end : (style : Option ℕ) (l t : Text) → IsLiteral style l t → EndsApart l
literal-end None l t (content, us, e, h, v) =
    record {
      front = 34 ∷ content;
      last = 34;
      split = e;
      apart = λ (e : ◌≡◌ {A = ℕ} 34 10). omega arith;
    }
literal-end (Some n) l t e =
    let closing = raw_closing-end n in
    let opened = raw_opening n ++ t in
    record {
      front = opened ++ closing.front;
      last = closing.last;
      split = e ∙ ap (λ s. opened ++ s) closing.split
          ∙ sym (append_assoc opened closing.front (closing.last ∷ []));
      apart = closing.apart;
    }

no_newline : (l u : Text) → EndsApart l → u ++ newline true ≡ l → ⊥
no_newline l u h e = h.apart (sym ((same_from_push u h.front 10 h.last (e ∙ h.split)).1))

-- texts in front of at most one newline, which have none at their own end
same_front : (l m : Text) (a b : Bool) → EndsApart l → EndsApart m → l ++ newline a ≡ m ++ newline b
    → l ≡ m
same_front l m true true h k e = (same_from_push l m 10 10 e).0
same_front l m true false h k e = absurd (no_newline m l k (e ∙ append-nil m))
same_front l m false true h k e = absurd (no_newline l m h (sym e ∙ append-nil l))
same_front l m false false h k e = sym (append-nil l) ∙ e ∙ append-nil m

-- an ordinary literal has one content, and a content one row of units
ordinary-only : (l t w : Text) → IsLiteral None l t → IsLiteral None l w → t ≡ w
ordinary-only l t w (content, us, e, h, v) (other, vs, f, k, z) =
    let fronts : 34 ∷ content ≡ 34 ∷ other =
    (same_from_push (34 ∷ content) (34 ∷ other) 34 34 (sym e ∙ f)).0 in
    let contents : content ≡ other = cc in
    let rows : us ≡ vs = same_Some us vs (sym (units-complete content us h) ∙ ap units contents
    ∙ units-complete other vs k) in
    sym v ∙ ap content_value rows ∙ z

-- a raw literal has one number of hashes, and one text
raw-only : (n m : ℕ) (t w : Text) → raw_frame n t ≡ raw_frame m w → (n ≡ m) × (t ≡ w)
raw-only n m t w e =
    let whole : 114 ∷ (replicate n 35 ++ 34 ∷ ((t ++ 34 ∷ []) ++ replicate n 35))
    ≡ 114 ∷ (replicate m 35 ++ 34 ∷ ((w ++ 34 ∷ []) ++ replicate m 35)) =
    sym (raw_frame-parts n t) ∙ e ∙ raw_frame-parts m w in
    let rest : replicate n 35 ++ 34 ∷ ((t ++ 34 ∷ []) ++ replicate n 35)
    ≡ replicate m 35 ++ 34 ∷ ((w ++ 34 ∷ []) ++ replicate m 35) = cc in
    let same = same_hashes n m (34 ∷ ((w ++ 34 ∷ []) ++ replicate m 35))
    ((t ++ 34 ∷ []) ++ replicate n 35) rest quote-no_hash in
    let texts : 34 ∷ ((t ++ 34 ∷ []) ++ replicate n 35) ≡ 34 ∷ ((w ++ 34 ∷ []) ++ replicate n 35) =
    same.1 ∙ ap (λ k. 34 ∷ ((w ++ 34 ∷ []) ++ replicate k 35)) (sym same.0) in
    let closed : (t ++ 34 ∷ []) ++ replicate n 35 ≡ (w ++ 34 ∷ []) ++ replicate n 35 = cc in (
      same.0,
      (same_from_push t w 34 34
          (append_cancel_right (t ++ 34 ∷ []) (w ++ 34 ∷ []) (replicate n 35) closed)).0,
    )
  where
    quote-no_hash : (u : Text) → 34 ∷ ((w ++ 34 ∷ []) ++ replicate m 35) ≡ 35 ∷ u → ⊥
    quote-no_hash u f = let no : ◌≡◌ {A = ℕ} 34 35 = ap (λ x. get_or x 0 0) f in omega (arith, no)

-- an ordinary literal begins with a quote, and a raw one does not
ordinary-not_raw : (n : ℕ) (content t : Text) → ordinary_frame content ≡ raw_frame n t → ⊥
ordinary-not_raw n content t e = let no : ◌≡◌ {A = ℕ} 34 114 = ap (λ x. get_or x 0 0) e in
    omega (arith, no)

pub literal-only : (style other : Option ℕ) (l t w : Text) → IsLiteral style l t
    → IsLiteral other l w → (style ≡ other) × (t ≡ w)
literal-only None None l t w h k = (refl, ordinary-only l t w h k)
literal-only None (Some m) l t w (content, us, e, h, v) k =
    absurd (ordinary-not_raw m content w (sym e ∙ k))
literal-only (Some n) None l t w h (content, us, e, k, v) =
    absurd (ordinary-not_raw n content t (sym e ∙ h))
literal-only (Some n) (Some m) l t w h k = let same = raw-only n m t w (sym h ∙ k) in
    (ap Some same.0, same.1)

same_source : (s r : Source) → s.text ≡ r.text → s.style ≡ r.style → s.snippet ≡ r.snippet → s ≡ r
same_source s r e f g =
    ap (λ (t : Text). record s { text = t }) e
    ∙ ap (λ (o : Option ℕ). record s { text = r.text; style = o }) f
    ∙ ap (λ (o : Option Text). record r { snippet = o }) g

in_literal-only : (input : Text) (s r : Source) → IsInLiteral input s → IsInLiteral input r → s ≡ r
in_literal-only input s r h k =
    let literals : h.literal ≡ k.literal =
    same_front h.literal k.literal h.appended k.appended
    (literal-end s.style h.literal s.text h.is_literal)
    (literal-end r.style k.literal r.text k.is_literal) (h.is_whole ∙ sym k.is_whole) in
    let same = literal-only s.style r.style h.literal s.text r.text h.is_literal
    (subst (λ l. IsLiteral r.style l r.text) (sym literals) k.is_literal) in
    same_source s r same.1 same.0 (h.is_snippet ∙ ap Some literals ∙ sym k.is_snippet)

pub source-only : (is_literal : Bool) (input : Text) (s r : Source) → IsSourceOf is_literal input s
    → IsSourceOf is_literal input r → s ≡ r
source-only true input s r h k = in_literal-only input s r h k
source-only false input s r h k = h ∙ sym k
