-- How an offset in a kept snippet moves forward, character by character.
use Rattle.std.proofs.Common.{◌≡◌, ◌≢◌, ◌++◌, ◌+◌, ◌-◌, ◌≤◌, ℕ, suc, Bool, true, false, List, []}
use Rattle.std.proofs.Common.{◌∷◌, length, get_or, chars, drop, IsUtf8, refl, ap, sym}
use Rattle.std.proofs.Common.{subst, ◌∙◌, arith}
use Rattle.std.proofs.Common.{length-append, length-drop, append_assoc, append-nil, inl, inr, ◌⊎◌}
use Rattle.std.proofs.Common.{IsCharBoundary}
use Rattle.std.specs.Prelude.{encode_utf8, encode_utf8_all}
use Rattle.std.specs.Char.{len_utf8}
use Rattle.std.proofs.Math.Seq.{drop-append-add}
use Rattle.std.proofs.lemmas.Str.{encodes-chars, IsUtf8-past_char, chars_past_char, length-encode}
use Rattle.std.proofs.lemmas.Str.{IsUtf8-from_is_utf8, is_utf8-from_IsUtf8}
use Rattle.std.proofs.lemmas.Str.{IsCharBoundary-from_drop}
use Rattle.std.proofs.lemmas.List.{drop-drop, get_or-append-add}
use Rattle.std.proofs.lemmas.List.Sums.{sum_by-cons}
use Rattle.rustc_parse_format.specs.Characters.{Text, after_first, byte_length}
use Rattle.rustc_parse_format.specs.LiteralUnits.{LiteralUnit, spelling}
use Rattle.rustc_parse_format.specs.Literal.{IsContent, content_value, newline}
use Rattle.rustc_parse_format.specs.SourceViews.{IsHere, after_continuations, character_width}
use Rattle.rustc_parse_format.specs.SourceViews.{closed_by_quote, gap, gap_to, spelled_units}
use Rattle.rustc_parse_format.specs.World.{World, Place, place_at, content_places, last_stop}
use Rattle.rustc_parse_format.specs.World.{newline_places}
use Rattle.rustc_parse_format.proofs.Literals.Widths.{width-append}
use Rattle.rustc_parse_format.proofs.Spans.PlaceOrder.{length-content_places, length-newline}
use Rattle.rustc_parse_format.proofs.Spans.PlaceOrder.{unit_bytes}
use Rattle.rustc_parse_format.proofs.Sources.Contents.{after-content, closed-split, spelled}
use Rattle.rustc_parse_format.proofs.Sources.Units.{Starts, by_ahead, none_ahead, starts_ahead}
use Rattle.rustc_parse_format.proofs.Sources.Units.{no_places, first_place, first_value, no_width}
use Rattle.rustc_parse_format.proofs.Sources.Units.{first_width}
use Rattle.rustc_parse_format.proofs.Sources.Units.{is_wide}
use Rattle.rustc_parse_format.proofs.Sources.Units.{IsAfter, is_after, StartsIfSome, after_starts}

-- A text of bytes is cut where some of its characters end.
pub record IsCutAt (bs : List ℕ) (p r : Text) : Type 0 where
  pub within : byte_length p ≤ length bs
  pub is_text : IsUtf8 (drop (byte_length p) bs)
  pub chars_are : chars (drop (byte_length p) bs) ≡ r

pub cut_at : (bs : List ℕ) (p r : Text) → IsUtf8 bs → chars bs ≡ p ++ r → IsCutAt bs p r
cut_at bs [] r u e = record { within = omega arith; is_text = u; chars_are = e }
cut_at bs (c ∷ p) r u e =
    let rest = encode_utf8_all (p ++ r) in
    let split : bs ≡ encode_utf8 c ++ rest = sym (encodes-chars bs u) ∙ ap encode_utf8_all e in
    let v = IsUtf8-past_char bs rest c u split in
    let left : chars rest ≡ p
    ++ r = ap after_first (sym (chars_past_char bs rest c u split) ∙ e) in
    let k = cut_at rest p r v left in
    let wide = sum_by-cons len_utf8 c p in
    let size = length-append (encode_utf8 c) rest in
    let n : byte_length (c ∷ p) ≡ length (encode_utf8 c) + byte_length p = wide
    ∙ ap (λ k. k + byte_length p) (sym (length-encode c)) in
    let same : drop (byte_length (c ∷ p)) bs ≡ drop (byte_length p) rest =
    ap (λ k. drop k bs) n
    ∙ (ap (drop (length (encode_utf8 c) + byte_length p)) split
    ∙ drop-append-add (encode_utf8 c) rest (byte_length p)) in
    let within = k.within in
    record {
      within = omega (arith, n, ap length split, size);
      is_text = subst IsUtf8 (sym same) k.is_text;
      chars_are = ap chars same ∙ k.chars_are;
    }

-- the same of a text that starts at a byte
pub cut_from : (s : List ℕ) (at n : ℕ) (p r : Text) → at ≤ length s → IsUtf8 (drop at s)
    → chars (drop at s) ≡ p ++ r → n ≡ byte_length p →
    ((at + n) ≤ length s) × IsUtf8 (drop (at + n) s) × (chars (drop (at + n) s) ≡ r)
cut_from s at n p r within u e size =
    let k = cut_at (drop at s) p r u e in
    let same : drop (byte_length p) (drop at s) ≡ drop (at + n) s = drop-drop (byte_length p) at s
    ∙ ap (λ i. drop (at + i) s) (sym size) in
    let inside = k.within in (
      omega (arith, length-drop at s),
      subst IsUtf8 same k.is_text,
      ap chars (sym same) ∙ k.chars_are,
    )

-- A character in front of a text of bytes is cut off.
pub width_within : (bs : List ℕ) → IsUtf8 bs → character_width (chars bs) ≤ length bs
width_within bs u =
    let k = is_wide (chars bs) in
    let c = cut_at bs k.front k.rest u k.split in
    rw k.bytes c.within

pub width_boundary : (bs : List ℕ) → IsUtf8 bs → IsCharBoundary bs (character_width (chars bs))
width_boundary bs u =
    let k = is_wide (chars bs) in
    let c = cut_at bs k.front k.rest u k.split in
    rw k.bytes (IsCharBoundary-from_drop bs (byte_length k.front) c.within c.is_text)

-- The rest of the input is the text that stands from a byte on, continuations in front of the next
-- character included.
pub record IsReached (snippet : List ℕ) (w : World) (rest : Text) (at : ℕ)
    (us : List LiteralUnit) : Type 0 where
  pub within : at ≤ length snippet
  pub is_text : IsUtf8 (drop at snippet)
  pub content : Text
  pub left : chars (drop at snippet) ≡ closed_by_quote content
  pub is_content : IsContent content us
  pub appended : Bool
  pub rest_is : rest ≡ content_value us ++ newline appended
  pub passed : List Place
  pub places : w.places ≡ passed ++ (content_places at us ++ newline_places w.end appended)
  pub ending : last_stop at (content_places at us) ≡ w.end

-- Where the units after these continuations start, the next character does; without one the place
-- stays.
settle_to : (s : List ℕ) (w : World) (rest : Text) (at : ℕ) (us vs : List LiteralUnit)
    → IsReached s w rest at us → IsAfter us vs →
    StartsIfSome vs → IsContent (spelled_units vs) vs → IsHere s w rest (at + gap_to us vs)
settle_to s w rest at us [] k a b c =
    let stays : at ≡ at + 0 = omega arith in
    subst (IsHere s w rest) stays (record {
      within = k.within;
      valid = is_utf8-from_IsUtf8 (drop at s) k.is_text;
      content = k.content;
      units = us;
      left = k.left;
      is_content = k.is_content;
      appended = k.appended;
      rest_is = k.rest_is;
      passed = k.passed;
      places = k.places;
      ending = k.ending;
      ahead = none_ahead us a.same_value;
    })
settle_to s w rest at us (v ∷ vs) k a b c =
    let to = at + gap_to us (v ∷ vs) in
    let size : gap_to us (v ∷ vs) ≡ byte_length a.front =
    omega (arith, ap byte_length a.split, width-append a.front (spelled_units (v ∷ vs))) in
    let split : chars (drop at s) ≡ a.front ++ closed_by_quote (spelled_units (v ∷ vs)) =
    k.left ∙ (ap closed_by_quote (spelled k.content us k.is_content ∙ a.split)
    ∙ append_assoc a.front (spelled_units (v ∷ vs)) (34 ∷ [])) in
    let cut = cut_from s at (gap_to us (v ∷ vs)) a.front
    (closed_by_quote (spelled_units (v ∷ vs))) k.within k.is_text split size in
    let same : content_places at us ≡ content_places to (v ∷ vs) = a.same_places at
    ∙ ap (λ i. content_places (at + i) (v ∷ vs)) (sym size) in
    let first = first_place to (v ∷ vs) b in
    record {
      within = cut.0;
      valid = is_utf8-from_IsUtf8 (drop to s) cut.1;
      content = spelled_units (v ∷ vs);
      units = v ∷ vs;
      left = cut.2;
      is_content = c;
      appended = k.appended;
      rest_is = k.rest_is ∙ ap (λ t. t ++ newline k.appended) a.same_value;
      passed = k.passed;
      places = k.places ∙ ap (λ ps. k.passed ++ (ps ++ newline_places w.end k.appended)) same;
      ending = ap (last_stop to) first ∙ (sym (ap (last_stop at) (same ∙ first)) ∙ k.ending);
      ahead = starts_ahead (v ∷ vs) b;
    }

pub settle : (s : List ℕ) (w : World) (rest : Text) (at : ℕ) (us : List LiteralUnit)
    → IsReached s w rest at us → IsHere s w rest (at + gap us)
settle s w rest at us k = settle_to s w rest at us (after_continuations us) k (is_after us)
    (after_starts k.content us k.is_content)
    (after-content k.content us k.is_content)

-- With no character left of the units the byte stays, and an appended newline has passed.
newline-passed : (appended : Bool) → after_first (newline appended) ≡ []
newline-passed true = refl
newline-passed false = refl

end_passed : (s : List ℕ) (w : World) (rest : Text) (at : ℕ) (h : IsHere s w rest at)
    → content_value h.units ≡ [] → IsHere s w (after_first rest) at
end_passed s w rest at h e =
    let none = no_places at h.units e in
    record {
      within = h.within;
      valid = h.valid;
      content = h.content;
      units = h.units;
      left = h.left;
      is_content = h.is_content;
      appended = false;
      rest_is = ap after_first (h.rest_is ∙ ap (λ t. t ++ newline h.appended) e)
          ∙ (newline-passed h.appended ∙ sym (append-nil (content_value h.units) ∙ e));
      passed = h.passed ++ newline_places w.end h.appended;
      places = h.places ∙ (ap (λ ps. h.passed ++ (ps ++ newline_places w.end h.appended)) none
          ∙ (sym (append-nil (h.passed ++ newline_places w.end h.appended))
          ∙ ap (λ ps. (h.passed ++ newline_places w.end h.appended) ++ (ps ++ [])) (sym none)));
      ending = h.ending;
      ahead = h.ahead;
    }

-- The character in front has passed.
pub reach_next : (s : List ℕ) (w : World) (rest : Text) (at : ℕ) (h : IsHere s w rest at)
    (k : Starts h.units) (r : Text) →
    h.content ≡ spelling k.unit ++ r → IsContent r k.others
    → IsReached s w (after_first rest) (at + byte_length (spelling k.unit)) k.others
reach_next s w rest at h k r split is =
    let own = byte_length (spelling k.unit) in
    let first = first_place at h.units k in
    let cut = cut_from s at own (spelling k.unit) (closed_by_quote r) h.within
    (IsUtf8-from_is_utf8 (drop at s) h.valid)
    (closed-split (chars (drop at s)) h.content k.unit r h.left split) refl in
    record {
      within = cut.0;
      is_text = cut.1;
      content = r;
      left = cut.2;
      is_content = is;
      appended = h.appended;
      rest_is =
          ap after_first (h.rest_is ∙ ap (λ t. t ++ newline h.appended) (first_value h.units k));
      passed = h.passed ++ (at, at + own) ∷ [];
      places = h.places ∙ (ap (λ ps. h.passed ++ (ps ++ newline_places w.end h.appended)) first
          ∙ sym (append_assoc h.passed ((at, at + own) ∷ []) (content_places (at + own) k.others
          ++ newline_places w.end h.appended)));
      ending = sym (ap (last_stop at) first) ∙ h.ending;
    }

-- The unit in front is no character's where it takes no byte,
wide : (s : List ℕ) (w : World) (rest : Text) (at : ℕ) (h : IsHere s w rest at)
    (k : Starts h.units) →
    character_width (chars (drop at s)) ≡ byte_length (spelling k.unit)
wide s w rest at h k = first_width (chars (drop at s)) h.content h.units h.is_content h.left k

narrow : (s : List ℕ) (w : World) (rest : Text) (at : ℕ) (h : IsHere s w rest at)
    → content_value h.units ≡ [] → character_width (chars (drop at s)) ≡ 0
narrow s w rest at h e = no_width (chars (drop at s)) h.content h.units h.is_content h.left e

pub after_end : (s : List ℕ) (w : World) (rest : Text) (at n : ℕ) → IsHere s w rest at
    → n ≡ character_width (chars (drop at s)) → n ≡ 0 →
    IsHere s w (after_first rest) at
after_end s w rest at n h size e = of_ahead (by_ahead h.units h.ahead)
  where
    of_ahead : (content_value h.units ≡ []) ⊎ Starts h.units → IsHere s w (after_first rest) at
    of_ahead (inl none) = end_passed s w rest at h none
    of_ahead (inr k) = let bytes = unit_bytes k.unit in
        absurd (omega (arith, size, wide s w rest at h k))

-- and else what comes next is after it and the continuations there.
pub after_character : (s : List ℕ) (w : World) (rest : Text) (at n g : ℕ) → IsHere s w rest at
    → n ≡ character_width (chars (drop at s)) → n ≢ 0 →
    ((q : Text) (us : List LiteralUnit) → IsContent q us → chars (drop (at + n) s)
    ≡ closed_by_quote q → g ≡ gap us) →
    IsHere s w (after_first rest) ((at + n) + g)
after_character s w rest at n g h size some f = of_ahead (by_ahead h.units h.ahead)
  where
    of_start : (k : Starts h.units) → IsContent h.content (k.unit ∷ k.others)
        → IsHere s w (after_first rest) ((at + n) + g)
    of_start k (r, good, may, split, is) =
        let own : n ≡ byte_length (spelling k.unit) = size ∙ wide s w rest at h k in
        let reached : IsReached s w (after_first rest) (at + n) k.others =
        rw own (reach_next s w rest at h k r split is) in
        let gap_is : g ≡ gap k.others =
        f reached.content k.others reached.is_content reached.left in
        rw gap_is (settle s w (after_first rest) (at + n) k.others reached)

    of_ahead : (content_value h.units ≡ []) ⊎ Starts h.units
        → IsHere s w (after_first rest) ((at + n) + g)
    of_ahead (inl none) = absurd (some (size ∙ narrow s w rest at h none))
    of_ahead (inr k) = of_start k (subst (IsContent h.content) k.are h.is_content)

-- The place of the next character, or of the end of the text.
first_left : (s : List ℕ) (w : World) (rest : Text) (at : ℕ) (h : IsHere s w rest at) →
    place_at w (length rest)
    ≡ get_or (content_places at h.units ++ newline_places w.end h.appended) 0 (w.end, w.end)
unfolding place_at
first_left s w rest at h =
    let coming = content_places at h.units ++ newline_places w.end h.appended in
    let index : length w.places - length rest ≡ length h.passed + 0 = omega (
      arith,
      ap length h.places,
      ap length h.rest_is,
      length-append h.passed coming,
      length-append (content_places at h.units) (newline_places w.end h.appended),
      length-content_places at h.units,
      length-newline w.end h.appended,
      length-append (content_value h.units) (newline h.appended),
    ) in
    ap (λ i. get_or w.places i (w.end, w.end)) index
    ∙ (ap (λ ps. get_or ps (length h.passed + 0) (w.end, w.end)) h.places
    ∙ get_or-append-add h.passed coming 0 (w.end, w.end))

place_of_first : (s : List ℕ) (w : World) (rest : Text) (at : ℕ) (h : IsHere s w rest at)
    (k : Starts h.units) →
    place_at w (length rest) ≡ (at, at + byte_length (spelling k.unit))
place_of_first s w rest at h k =
    first_left s w rest at h
    ∙ ap (λ ps. get_or (ps ++ newline_places w.end h.appended) 0 (w.end, w.end))
    (first_place at h.units k)

place_of_end : (s : List ℕ) (w : World) (rest : Text) (at : ℕ) (h : IsHere s w rest at)
    → content_value h.units ≡ [] →
    place_at w (length rest) ≡ get_or (newline_places w.end h.appended) 0 (w.end, w.end)
place_of_end s w rest at h e =
    first_left s w rest at h
    ∙ ap (λ ps. get_or (ps ++ newline_places w.end h.appended) 0 (w.end, w.end))
    (no_places at h.units e)

-- With no character left of the units the byte is the end of the text.
at_end : (s : List ℕ) (w : World) (rest : Text) (at : ℕ) (h : IsHere s w rest at)
    → content_value h.units ≡ [] → at ≡ w.end
at_end s w rest at h e = sym (ap (last_stop at) (no_places at h.units e)) ∙ h.ending

newline-start : (e : ℕ) (appended : Bool) → (get_or (newline_places e appended) 0 (e, e)).0 ≡ e
newline-start e true = refl
newline-start e false = refl

-- So the next character, or the end of the text, is at that byte,
pub here_start : (s : List ℕ) (w : World) (rest : Text) (at : ℕ) → IsHere s w rest at
    → (place_at w (length rest)).0 ≡ at
here_start s w rest at h = of_ahead (by_ahead h.units h.ahead)
  where
    of_ahead : (content_value h.units ≡ []) ⊎ Starts h.units → (place_at w (length rest)).0 ≡ at
    of_ahead (inl none) =
        ap (λ (p : Place). p.0) (place_of_end s w rest at h none)
        ∙ (newline-start w.end h.appended ∙ sym (at_end s w rest at h none))
    of_ahead (inr k) = ap (λ (p : Place). p.0) (place_of_first s w rest at h k)

-- and it ends where its unit does, or an appended newline a byte later.
pub through_character : (s : List ℕ) (w : World) (rest : Text) (at n : ℕ) → IsHere s w rest at
    → n ≡ character_width (chars (drop at s)) → n ≢ 0 →
    at + n ≡ (place_at w (length rest)).1
through_character s w rest at n h size some = of_ahead (by_ahead h.units h.ahead)
  where
    of_ahead : (content_value h.units ≡ []) ⊎ Starts h.units → at + n ≡ (place_at w (length rest)).1
    of_ahead (inl none) = absurd (some (size ∙ narrow s w rest at h none))
    of_ahead (inr k) = ap (λ i. at + i) (size ∙ wide s w rest at h k)
        ∙ sym (ap (λ (p : Place). p.1) (place_of_first s w rest at h k))

newline-stop : (e c : ℕ) (t : Text) (appended : Bool) → c ∷ t ≡ newline appended
    → (get_or (newline_places e appended) 0 (e, e)).1 ≡ suc e
newline-stop e c t true h = refl
newline-stop e c t false h = absurd cc

pub through_newline : (s : List ℕ) (w : World) (c : ℕ) (rest : Text) (at n : ℕ)
    → IsHere s w (c ∷ rest) at →
    n ≡ character_width (chars (drop at s)) → n ≡ 0 → at + 1 ≡ (place_at w (length (c ∷ rest))).1
through_newline s w c rest at n h size e = of_ahead (by_ahead h.units h.ahead)
  where
    of_ahead : (content_value h.units ≡ []) ⊎ Starts h.units → at + 1
        ≡ (place_at w (length (c ∷ rest))).1
    of_ahead (inl none) =
        let stop = ap (λ (p : Place). p.1) (place_of_end s w (c ∷ rest) at h none)
        ∙ newline-stop w.end c rest h.appended (h.rest_is
        ∙ ap (λ t. t ++ newline h.appended) none) in
        omega (arith, stop, at_end s w (c ∷ rest) at h none)
    of_ahead (inr k) = let bytes = unit_bytes k.unit in
        absurd (omega (arith, size, wide s w (c ∷ rest) at h k))
