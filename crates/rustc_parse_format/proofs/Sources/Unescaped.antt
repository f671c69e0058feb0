-- Bytes of a kept snippet that are not backslashes stand for themselves: the text read of them is
-- in the snippet as it is.
use Rattle.std.proofs.Common.{◌≡◌, ◌≢◌, ◌++◌, ◌+◌, ◌-◌, ◌<◌, ◌≤◌, Bool, true, false}
use Rattle.std.proofs.Common.{List, ℕ, [], ◌∷◌, take, drop, length, get_or, chars, IsUtf8}
use Rattle.std.proofs.Common.{IsCharBoundary}
use Rattle.std.proofs.Common.{suc, zero, inl, inr, ◌⊎◌, ap, refl, subst, sym, ◌∙◌, arith}
use Rattle.std.proofs.Common.{append_assoc, length-drop}
use Rattle.std.specs.Char.{len_utf8}
use Rattle.std.specs.Prelude.{◌&&◌, IsTrue, encode_utf8}
use Rattle.std.specs.List.{list_all}
use Rattle.std.proofs.Math.Seq.{take-append-add}
use Rattle.std.proofs.Math.Utf8.{encodes}
use Rattle.std.proofs.lemmas.Bool.{and_parts, and_from, false≢true, eqb-true, cases_eq}
use Rattle.std.proofs.lemmas.List.{append_cancel_right, drop-drop, drop_more, get_or-take}
use Rattle.std.proofs.lemmas.List.{length-take-le, take-append-drop, take-take}
use Rattle.std.proofs.lemmas.List.Folds.{list_all-append, list_all_at}
use Rattle.std.proofs.lemmas.Str.{IsCharBoundary-from_drop, IsUtf8-drop, IsUtf8-from_is_utf8}
use Rattle.std.proofs.lemmas.Str.{is_utf8-from_IsUtf8}
use Rattle.std.proofs.lemmas.Str.{encode_ascii, encodes-append, encodes-chars, len_utf8_bounds}
use Rattle.std.proofs.lemmas.Str.{length-encode}
use Rattle.rustc_parse_format.specs.declared.source.anchor.Anchor.{Anchor}
use Rattle.rustc_parse_format.specs.Bytes.{IsLeft}
use Rattle.rustc_parse_format.specs.Characters.{Text, after_first, byte_length}
use Rattle.rustc_parse_format.specs.Literal.{IsContent, content_value, newline}
use Rattle.rustc_parse_format.specs.LiteralUnits.{LiteralUnit, Plain, SimpleEscape, ByteEscape}
use Rattle.rustc_parse_format.specs.LiteralUnits.{UnicodeEscape, Continuation}
use Rattle.rustc_parse_format.specs.LiteralUnits.{is_plain}
use Rattle.rustc_parse_format.specs.SourceViews.{IsAnchor, IsHere, IsUnescaped, begins_continuation}
use Rattle.rustc_parse_format.specs.SourceViews.{character_width, closed_by_quote, is_unescaped}
use Rattle.rustc_parse_format.specs.World.{World, place_at}
use Rattle.rustc_parse_format.proofs.Literals.Widths.{width-append, width-cons}
use Rattle.rustc_parse_format.proofs.Sources.PlainPlaces.{begun, after_width, left, width_chars}
use Rattle.rustc_parse_format.proofs.Sources.Contents.{gap-none}
use Rattle.rustc_parse_format.proofs.Sources.Moves.{Gaps, false_if, front_gone, here_plain}
use Rattle.rustc_parse_format.proofs.Sources.Moves.{plain_width}
use Rattle.rustc_parse_format.proofs.Sources.Steps.{cut_from, through_character}

-- In front of the closing quote there is always a byte.
pub here_inside : (s : List ℕ) (w : World) (rest : Text) (at : ℕ) → IsHere s w rest at
    → at < length s
here_inside s w rest at h =
    let within = h.within in
    omega (
      arith,
      width_chars (drop at s) (IsUtf8-from_is_utf8 (drop at s) h.valid),
      ap byte_length h.left,
      width-append h.content (34 ∷ []),
      width-cons 34 [],
      (len_utf8_bounds 34).0,
      length-drop at s,
    )

-- An escape begins with a backslash.
backslash : (n : ℕ) (q x : Text) (z : List ℕ) → q ≡ 92 ∷ x → 1 ≤ n
    → list_all is_unescaped (take n (encodes q ++ z)) ≡ true → ⊥
backslash n q x z e some b =
    at n some (ap (λ y. list_all is_unescaped (take n (encodes y ++ z))) (sym e) ∙ b)
  where
    at : (n : ℕ) → 1 ≤ n → list_all is_unescaped (take n (encodes (92 ∷ x) ++ z)) ≡ true → ⊥
    at zero some b = omega arith
    at (suc n) some b =
        let bytes : encodes (92 ∷ x) ++ z ≡ 92 ∷ (encodes x ++ z) =
        ap (λ y. (y ++ encodes x) ++ z) (encode_ascii 92 (omega arith)) in
        false≢true (sym (ap (λ y. list_all is_unescaped (take (suc n) y)) bytes) ∙ b)

-- A content stands for itself in front of its first backslash.
unescaped_content : (u r q : Text) (z : List ℕ) (us : List LiteralUnit) (appended : Bool)
    → IsContent q us → u ++ r ≡ content_value us ++ newline appended →
    byte_length u ≤ byte_length q → list_all is_unescaped (take (byte_length u) (encodes q ++ z))
    ≡ true →
    (t : Text) × (q ≡ u ++ t) × (list_all is_plain u ≡ true)
unescaped_content [] r q z us a h e n b = (q, refl, refl)
unescaped_content (c ∷ u) r q z [] a h e n b =
    absurd (omega (arith, n, ap byte_length h, width-cons c u, (len_utf8_bounds c).0))
unescaped_content (c ∷ u) r q z (Plain d ∷ us) a (v, w, m, f, h) e n b =
    let head : c ≡ d = ap (λ (t : Text). get_or t 0 0) e in
    let front = encode_utf8 d in
    let size : byte_length (c ∷ u) ≡ length front + byte_length u =
    omega (arith, width-cons c u, length-encode d, ap len_utf8 head) in
    let bytes : encodes q ++ z ≡ front ++ (encodes v ++ z) = ap (λ x. encodes x ++ z) f
    ∙ append_assoc front (encodes v) z in
    let split : take (byte_length (c ∷ u)) (encodes q ++ z) ≡ front
    ++ take (byte_length u) (encodes v ++ z) =
    ap (λ k. take k (encodes q ++ z)) size
    ∙ (ap (take (length front + byte_length u)) bytes
    ∙ take-append-add front (encodes v ++ z) (byte_length u)) in
    let parts : (list_all is_unescaped front ≡ true)
    × (list_all is_unescaped (take (byte_length u) (encodes v ++ z)) ≡ true) =
    and_parts _ _
    (sym (ap (list_all is_unescaped) split
    ∙ list_all-append is_unescaped front (take (byte_length u) (encodes v ++ z))) ∙ b) in
    let fewer : byte_length u ≤ byte_length v =
    omega (arith, n, ap byte_length f, width-cons d v, width-cons c u, ap len_utf8 head) in
    let k = unescaped_content u r v z us a h (ap after_first e) fewer parts.1 in (
      k.0,
      f ∙ (ap (λ x. d ∷ x) k.1 ∙ ap (λ x. x ∷ (u ++ k.0)) (sym head)),
      and_from (is_plain c) (list_all is_plain u) (ap is_plain head ∙ w) k.2,
    )
unescaped_content (c ∷ u) r q z (SimpleEscape l ∷ us) a (v, w, m, f, h) e n b =
    absurd (backslash (byte_length (c ∷ u)) q _ z f
    (omega (arith, width-cons c u, (len_utf8_bounds c).0)) b)
unescaped_content (c ∷ u) r q z (ByteEscape i l ∷ us) a (v, w, m, f, h) e n b =
    absurd (backslash (byte_length (c ∷ u)) q _ z f
    (omega (arith, width-cons c u, (len_utf8_bounds c).0)) b)
unescaped_content (c ∷ u) r q z (UnicodeEscape x ∷ us) a (v, w, m, f, h) e n b =
    absurd (backslash (byte_length (c ∷ u)) q _ z f
    (omega (arith, width-cons c u, (len_utf8_bounds c).0)) b)
unescaped_content (c ∷ u) r q z (Continuation x ∷ us) a (v, w, m, f, h) e n b =
    absurd (backslash (byte_length (c ∷ u)) q _ z f
    (omega (arith, width-cons c u, (len_utf8_bounds c).0)) b)

-- fewer bytes are no backslash either
fewer_unescaped : (m n : ℕ) (l : List ℕ) → m ≤ n → list_all is_unescaped (take n l) ≡ true
    → list_all is_unescaped (take m l) ≡ true
fewer_unescaped m n l k b =
    let split : list_all is_unescaped (take n l)
    ≡ (list_all is_unescaped (take m l) && list_all is_unescaped (drop m (take n l))) =
    ap (list_all is_unescaped) (sym (take-append-drop m (take n l))
    ∙ ap (λ x. x ++ drop m (take n l)) (take-take m n l k))
    ∙ list_all-append is_unescaped (take m l) (drop m (take n l)) in
    (and_parts _ _ (sym split ∙ b)).0

-- The text that was passed, which stands in the snippet as it is, from a byte on.
record Passed (s text rest : List ℕ) (at m : ℕ) : Type 0 where
  pub front : Text
  pub whole : chars text ≡ front ++ chars rest
  pub size : byte_length front ≡ m
  pub rest_after : Text
  pub stands : chars (drop at s) ≡ front ++ rest_after
  pub plain : IsTrue (list_all is_plain front)
  pub within : at + m ≤ length s
  pub valid : IsUtf8 (drop (at + m) s)

-- how many bytes were passed since
abbrev pub Moved : Anchor → List ℕ → ℕ
Moved a rest = length a.rest.now - length rest

passed : (s : List ℕ) (w : World) (a : Anchor) (rest : List ℕ) → IsAnchor s w a
    → IsLeft a.rest.now rest → Moved a rest ≤ a.unescaped_len →
    Passed s a.rest.now rest a.offset (Moved a rest)
passed s w a rest (h, b) l fewer =
    let k = left a.rest.now rest l in
    let bytes = drop a.offset s in
    let u = IsUtf8-from_is_utf8 bytes h.valid in
    let inside = b.inside in
    let shorter : byte_length k.pre ≤ byte_length h.content = omega (
      arith,
      k.bytes,
      width_chars bytes u,
      ap byte_length h.left,
      width-append h.content (34 ∷ []),
      width-cons 34 [],
      length-drop a.offset s,
    ) in
    let spelled : bytes ≡ encodes h.content ++ encodes (34 ∷ []) = sym (encodes-chars bytes u)
    ∙ (ap encodes h.left ∙ encodes-append h.content (34 ∷ [])) in
    let all = fewer_unescaped (byte_length k.pre) a.unescaped_len bytes
    (omega (arith, k.bytes)) b.unescaped in
    let f = unescaped_content k.pre (chars rest) h.content
    (encodes (34 ∷ [])) h.units h.appended h.is_content (sym k.whole ∙ h.rest_is) shorter
    (sym (ap (λ x. list_all is_unescaped (take (byte_length k.pre) x)) spelled) ∙ all) in
    let stands : chars bytes ≡ k.pre ++ (f.0 ++ 34 ∷ []) = h.left
    ∙ (ap closed_by_quote f.1 ∙ append_assoc k.pre f.0 (34 ∷ [])) in
    let cut = cut_from s a.offset (Moved a rest) k.pre (f.0 ++ 34 ∷ []) h.within u stands
    (sym k.bytes) in
    record {
      front = k.pre;
      whole = k.whole;
      size = k.bytes;
      rest_after = f.0 ++ 34 ∷ [];
      stands = stands;
      plain = f.2;
      within = cut.0;
      valid = cut.1;
    }

-- where it ends in the snippet
pub unescaped_boundary : (s : List ℕ) (w : World) (a : Anchor) (rest : List ℕ) → IsAnchor s w a
    → IsLeft a.rest.now rest → Moved a rest ≤ a.unescaped_len →
    IsCharBoundary s (a.offset + Moved a rest)
unescaped_boundary s w a rest h l fewer =
    let p = passed s w a rest h l fewer in
    IsCharBoundary-from_drop s (a.offset + Moved a rest) p.within p.valid

-- Where nothing was passed, the next character is where it was,
unescaped_still : (s : List ℕ) (w : World) (a : Anchor) (rest : List ℕ) → IsAnchor s w a
    → IsLeft a.rest.now rest → Moved a rest ≡ 0 →
    IsHere s w (chars rest) (a.offset + Moved a rest)
unescaped_still s w a rest h l none =
    let k = left a.rest.now rest l in
    let within = l.within in
    let valid = IsUtf8-from_is_utf8 a.rest.now l.valid in
    let valid_rest = IsUtf8-from_is_utf8 rest l.valid_rest in
    let same : chars a.rest.now ≡ chars rest =
    front_gone a.rest.now rest valid valid_rest (omega arith) k.pre k.whole in
    let stays : a.offset ≡ a.offset + Moved a rest = omega (arith, none) in
    subst (IsHere s w (chars rest)) stays (subst (λ t. IsHere s w t a.offset) same h.0)

-- and else after what was passed and the continuations there,
pub unescaped_ahead : (s : List ℕ) (w : World) (a : Anchor) (rest : List ℕ) (g : ℕ) → IsAnchor s w a
    → IsLeft a.rest.now rest →
    Moved a rest ≤ a.unescaped_len → Moved a rest ≢ 0 → Gaps s (a.offset + Moved a rest) g
    → IsHere s w (chars rest) ((a.offset + Moved a rest) + g)
unescaped_ahead s w a rest g h l fewer some gaps =
    let p = passed s w a rest h l fewer in
    let moved : p.front ≢ [] = λ none. some (sym p.size ∙ ap byte_length none) in
    subst (λ m. IsHere s w (chars rest) ((a.offset + m) + g)) p.size
    (here_plain s w p.front (chars rest) p.rest_after a.offset g
    (subst (λ t. IsHere s w t a.offset) p.whole h.0) moved p.stands p.plain
    (subst (λ m. Gaps s (a.offset + m) g) (sym p.size) gaps))

-- of which there are none where another such byte comes.
unescaped_byte : (s : List ℕ) (at m n : ℕ) → IsUnescaped s at n → m < n
    → is_unescaped (get_or (drop at s) m 0) ≡ true
unescaped_byte s at m n b more =
    let inside = b.inside in
    let long : m < length (take n (drop at s)) =
    omega (
      arith,
      length-drop at s,
      length-take-le n (drop at s) (omega (arith, length-drop at s)),
    ) in
    let same : get_or (take n (drop at s)) m 0 ≡ get_or (drop at s) m 0 =
    get_or-take n (drop at s) m 0 more in
    true_if _
    (λ no. false≢true
    (sym (list_all_at is_unescaped (take n (drop at s)) m 0 long
    (ap is_unescaped same ∙ no)) ∙ b.unescaped))
  where
    true_if : (b : Bool) → (b ≡ false → ⊥) → b ≡ true
    true_if true h = refl
    true_if false h = absurd (h refl)

no_continuation : (x : List ℕ) (b : ℕ) (y : List ℕ) → IsUtf8 x → x ≡ b ∷ y → is_unescaped b ≡ true
    → begins_continuation (chars x) ≡ false
no_continuation x b y u e other = false_if _ (λ is. by_chars (chars x) refl is)
  where
    by_chars : (t : Text) → chars x ≡ t → begins_continuation t ≡ true → ⊥
    by_chars [] f is = false≢true is
    by_chars (c ∷ t) f is =
        let first : c ≡ 92 = eqb-true c 92 (and_parts _ _ is).0 in
        let bytes : x ≡ 92 ∷ encodes t =
        sym (encodes-chars x u)
        ∙ (ap encodes f ∙ (ap (λ d. encode_utf8 d ++ encodes t) first
        ∙ ap (λ d. d ++ encodes t) (encode_ascii 92 (omega arith)))) in
        let same : b ≡ 92 = ap (λ (l : List ℕ). get_or l 0 0) (sym e ∙ bytes) in
        false≢true (sym (ap is_unescaped same) ∙ other)

pub unescaped_inside : (s : List ℕ) (w : World) (a : Anchor) (rest : List ℕ) → IsAnchor s w a
    → IsLeft a.rest.now rest → Moved a rest < a.unescaped_len →
    IsHere s w (chars rest) (a.offset + Moved a rest)
unescaped_inside s w a rest h l more = of_moved (cases_eq (Moved a rest) 0)
  where
    m : ℕ
    m = Moved a rest

    p : Passed s a.rest.now rest a.offset m
    p = passed s w a rest h l (omega arith)

    bytes : drop (a.offset + m) s ≡ get_or (drop a.offset s) m 0 ∷ drop (m + 1) (drop a.offset s)
    bytes = let inside = h.1.inside in
        sym (drop-drop m a.offset s)
        ∙ drop_more (drop a.offset s) m 0 (omega (arith, length-drop a.offset s))

    none : Gaps s (a.offset + m) 0
    none q us k e = sym (gap-none (chars (drop (a.offset + m) s)) q us k e
        (no_continuation (drop (a.offset + m) s) (get_or (drop a.offset s) m 0) _ p.valid bytes
        (unescaped_byte s a.offset m a.unescaped_len h.1 more)))

    of_moved : (m ≡ 0) ⊎ (m ≢ 0) → IsHere s w (chars rest) (a.offset + m)
    of_moved (inl still) = unescaped_still s w a rest h l still
    of_moved (inr some) =
        let stays : (a.offset + m) + 0 ≡ a.offset + m = omega arith in
        subst (IsHere s w (chars rest)) stays
        (unescaped_ahead s w a rest 0 h l (omega arith) some none)

pub unescaped_here : (s : List ℕ) (w : World) (a : Anchor) (rest : List ℕ) → IsAnchor s w a
    → IsLeft a.rest.now rest →
    (Moved a rest ≡ 0) ⊎ ((Moved a rest ≢ 0) × (Moved a rest < a.unescaped_len))
    → IsHere s w (chars rest) (a.offset + Moved a rest)
unescaped_here s w a rest h l (inl still) = unescaped_still s w a rest h l still
unescaped_here s w a rest h l (inr (some, more)) = unescaped_inside s w a rest h l more

-- A character that was passed within them ends as many bytes further on as there are in what was
-- passed.
pub unescaped_stop : (s : List ℕ) (w : World) (a : Anchor) (rest rest_after : List ℕ)
    → IsAnchor s w a
    → IsLeft a.rest.now rest → IsLeft a.rest.now rest_after →
    chars rest_after ≡ after_first (chars rest) → (length rest ≡ 0 → ⊥)
    → Moved a rest_after ≤ a.unescaped_len →
    a.offset + Moved a rest_after ≡ (place_at w (length (chars rest))).1
unescaped_stop s w a rest rest_after h l k e some more =
    let u = IsUtf8-from_is_utf8 rest l.valid_rest in
    let b = begun rest u some in
    let c = b.head in
    let size = after_width rest rest_after c b.tail u
    (IsUtf8-from_is_utf8 rest_after k.valid_rest) b.chars_are e in
    let wide = width-cons c [] in
    let bytes = (len_utf8_bounds c).0 in
    let front = left a.rest.now rest l in
    let p = passed s w a rest_after h k more in
    let within = l.within in
    let within_after = k.within in
    let rest_is : chars rest ≡ c ∷ chars rest_after = b.chars_are
    ∙ ap (λ t. c ∷ t) (sym (e ∙ ap after_first b.chars_are)) in
    let front_is : p.front ≡ front.pre ++ c ∷ [] =
    append_cancel_right p.front (front.pre ++ c ∷ []) (chars rest_after)
    (sym p.whole
    ∙ (front.whole
    ∙ (ap (λ t. front.pre ++ t) rest_is
    ∙ sym (append_assoc front.pre (c ∷ []) (chars rest_after))))) in
    let stands : chars (drop a.offset s) ≡ front.pre ++ c ∷ p.rest_after =
    p.stands ∙ (ap (λ x. x ++ p.rest_after) front_is ∙ append_assoc front.pre (c ∷ [])
    p.rest_after) in
    let here = unescaped_inside s w a rest h l (omega arith) in
    let text = IsUtf8-from_is_utf8 (drop a.offset s) h.0.valid in
    let cut = cut_from s a.offset (Moved a rest) front.pre (c ∷ p.rest_after) h.0.within text stands
    (sym front.bytes) in
    let parts : (list_all is_plain front.pre ≡ true) × (list_all is_plain (c ∷ []) ≡ true) =
    and_parts _ _
    (sym (ap (list_all is_plain) front_is ∙ list_all-append is_plain front.pre (c ∷ []))
    ∙ p.plain) in
    let plain = and_parts (is_plain c) true parts.1 in
    let stop = through_character s w (chars rest) (a.offset + Moved a rest)
    (byte_length (c ∷ [])) here
    (sym (ap character_width cut.2 ∙ plain_width c p.rest_after plain.0)) (λ none. omega arith) in
    omega (arith, stop)

-- A rest of a text is also a rest of each rest of the text that is no shorter.
pub left_over : (text rest : List ℕ) (n : ℕ) → IsCharBoundary text n → IsLeft text rest
    → n ≤ length text - length rest → IsLeft (drop n text) rest
left_over text rest n b l fewer =
    let size = length-drop n text in
    let within = l.within in
    let u = IsUtf8-drop text n (IsUtf8-from_is_utf8 text l.valid) b in
    let at : n + (length (drop n text) - length rest) ≡ length text - length rest = omega arith in
    record {
      valid = is_utf8-from_IsUtf8 (drop n text) u;
      valid_rest = l.valid_rest;
      within = omega arith;
      tail = drop-drop (length (drop n text) - length rest) n text
          ∙ (ap (λ k. drop k text) at ∙ l.tail);
    }
