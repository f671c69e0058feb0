-- Where characters start in an ordinary source literal, by what is read of its content.
use Rattle.std.proofs.Common.{◌≡◌, ℕ, suc, zero, ◌++◌, ◌+◌, ◌≤◌, ◌<◌, Bool, true, false, List, []}
use Rattle.std.proofs.Common.{◌∷◌, length, map, take, get_or, refl, sym, ap, ◌∙◌, arith}
use Rattle.std.proofs.Common.{append-nil, Some, None, chars, IsUtf8}
use Rattle.std.proofs.lemmas.List.{append_cancel_right, map-append, take_all, take_more}
use Rattle.std.specs.Prelude.{if◌then◌else◌}
use Rattle.rustc_parse_format.specs.declared.literal.ContentCharacter.{ContentCharacter}
use Rattle.rustc_parse_format.specs.Characters.{Text, byte_length}
use Rattle.rustc_parse_format.specs.Literal.{IsReadAs, IsSource, content_value, ordinary_frame}
use Rattle.rustc_parse_format.specs.LiteralReading.{seen_characters}
use Rattle.rustc_parse_format.specs.World.{Place, content_places, last_stop, later_place}
use Rattle.rustc_parse_format.specs.World.{newline_places}
use Rattle.rustc_parse_format.specs.World.{world, World}
use Rattle.rustc_parse_format.proofs.Literals.ContentPlaces.{content-world}
use Rattle.rustc_parse_format.proofs.Sources.PlainPlaces.{width_chars}
use Rattle.rustc_parse_format.proofs.Spans.PlaceOrder.{InOrder, content-in_order}
use Rattle.rustc_parse_format.proofs.Spans.Worlds.{known}
use Rattle.format_tokens.specs.Starts.{starts_of}
use Rattle.format_tokens.proofs.Starts.{firsts}

-- A character past the end of the list.
abbrev pub no_read : ContentCharacter
no_read = record { span = record { start = 0; end = 0 }; character = 0 }

-- The places of what is read, as byte ranges of the literal.
abbrev pub places_of : List ContentCharacter → List Place
places_of xs = map (λ x. (suc x.span.start, suc x.span.end)) xs

-- The places so far are there, and the text so far ends there.
pub record IsReadSoFar (xs : List ContentCharacter) (i : ℕ) (starts : List ℕ) (end : ℕ) :
    Type 0 where
  pub starts_are : starts ≡ firsts (places_of (take i xs))
  pub end_is : end ≡ last_stop 1 (places_of (take i xs))

last_stop-more : (e : ℕ) (ps : List Place) (p : Place) → last_stop e (ps ++ p ∷ []) ≡ p.1
last_stop-more e [] p = refl
last_stop-more e (q ∷ ps) p = last_stop-more q.1 ps p

pub read-next : (xs : List ContentCharacter) (i : ℕ) (starts more : List ℕ) (end a b : ℕ)
    (d : ContentCharacter)
    → IsReadSoFar xs i starts end → i < length xs → more ≡ starts ++ a ∷ []
    → a ≡ suc (get_or xs i d).span.start → b ≡ suc (get_or xs i d).span.end
    → IsReadSoFar xs (i + 1) more b
read-next xs i starts more end a b d h l m e f =
    let x : Place = (suc (get_or xs i d).span.start, suc (get_or xs i d).span.end) in
    let all : places_of (take (i + 1) xs) ≡ places_of (take i xs) ++ x ∷ [] =
    ap places_of (take_more xs i d l)
    ∙ map-append (λ (y : ContentCharacter). (suc y.span.start, suc y.span.end)) (take i xs)
    (get_or xs i d ∷ []) in
    record {
      starts_are = m ∙ (ap (λ l. l ++ a ∷ []) h.starts_are
          ∙ (ap (λ n. firsts (places_of (take i xs)) ++ n ∷ []) e
          ∙ (sym (map-append (λ (p : Place). p.0) (places_of (take i xs)) (x ∷ []))
          ∙ ap firsts (sym all))));
      end_is = f ∙ (sym (last_stop-more 1 (places_of (take i xs)) x) ∙ ap (last_stop 1) (sym all));
    }

places_seen : (xs : List ContentCharacter)
    → map (λ (x : Place × ℕ). later_place 1 x.0) (seen_characters xs) ≡ places_of xs
places_seen [] = refl
places_seen (x ∷ xs) = same (places_seen xs) (omega arith) (omega arith)
  where
    same : {ps qs : List Place} {a b c e : ℕ} → ps ≡ qs → a ≡ b → c ≡ e
        → (a, c) ∷ ps ≡ (b, e) ∷ qs
    same f g h = cc

-- What is read of a content is in order and inside the literal.
pub record IsBounded (ps : List Place) (n : ℕ) : Type 0 where
  pub in_order : InOrder 1 ps
  pub inside : last_stop 1 ps < n

pub read-bounded : (content : Text) (xs : List ContentCharacter)
    → IsReadAs content (seen_characters xs)
    → IsBounded (places_of xs) (byte_length (ordinary_frame content))
read-bounded content xs (us, only, e) =
    let k = known (content_value us) None (ordinary_frame content) false
    (content_value us, (content, us, refl, only.is_content, refl), append-nil (content_value us)) in
    let w = world (content_value us) None (Some (ordinary_frame content)) false in
    let read = content-world content us (seen_characters xs) (content_value us) false
    only.is_content e
    (content_value us, (content, us, refl, only.is_content, refl), append-nil (content_value us)) in
    let same : content_places 1 k.units ≡ places_of xs =
    sym (append-nil (content_places 1 k.units))
    ∙ (sym (ap (λ (v : World). v.places) k.world_is)
    ∙ (read ∙ (append-nil _ ∙ places_seen xs))) in
    record {
      in_order = rw (← same) (content-in_order 1 k.units);
      inside = rw (← same) k.inside;
    }

last-after : (b : ℕ) (ps : List Place) → InOrder b ps → b ≤ last_stop b ps
last-after b [] o = omega arith
last-after b (p ∷ ps) (s, t, rest) = omega (arith, last-after p.1 ps rest)

in_order-at : (b e : ℕ) (xs : List ContentCharacter) (i : ℕ) (d : ContentCharacter)
    → InOrder b (places_of xs) → i < length xs
    → (suc (get_or xs i d).span.end ≤ last_stop e (places_of xs))
    × ((get_or xs i d).span.start < (get_or xs i d).span.end)
in_order-at b e [] i d o h = absurd (omega arith)
in_order-at b e (x ∷ xs) zero d (s, t, rest) h =
    (last-after (suc x.span.end) (places_of xs) rest, omega arith)
in_order-at b e (x ∷ xs) (suc i) d (s, t, rest) h =
    in_order-at (suc x.span.end) (suc x.span.end) xs i d rest (omega arith)

-- So one more than its offsets is at most the length of the literal.
pub read-fits : (snippet : List ℕ) (content : Text) (xs : List ContentCharacter) (i : ℕ)
    (d : ContentCharacter)
    → IsUtf8 snippet → chars snippet ≡ ordinary_frame content
    → IsReadAs content (seen_characters xs) → i < length xs
    → ((get_or xs i d).span.start < (get_or xs i d).span.end)
    × ((get_or xs i d).span.end + 1 < length snippet)
read-fits snippet content xs i d v e read h =
    let b = read-bounded content xs read in
    let a = in_order-at 1 1 xs i d b.in_order h in
    let n : byte_length (ordinary_frame content) ≡ length snippet =
    ap byte_length (sym e) ∙ width_chars snippet v in
    (a.1, omega (arith, a.0, b.inside, n))

starts-shape : (b : Bool) (ps : List Place) (e : ℕ)
    → (if b then firsts ps ++ e ∷ [] else firsts ps) ++ e ∷ []
    ≡ firsts (ps ++ newline_places e b) ++ e ∷ []
starts-shape true ps e = ap (λ l. l ++ e ∷ [])
    (sym (map-append (λ (p : Place). p.0) ps ((e, suc e) ∷ [])))
starts-shape false ps e = ap (λ q. firsts q ++ e ∷ []) (sym (append-nil ps))

with_starts : (b : Bool) (x y : List ℕ) (d e : ℕ) → x ≡ y → d ≡ e
    → (if b then x ++ d ∷ [] else x) ++ d ∷ [] ≡ (if b then y ++ e ∷ [] else y) ++ e ∷ []
with_starts b x y d e f g = rw (f, g) refl

-- The starts of the characters that are read, that of an appended newline and the end of the text.
pub ordinary-all : (input snippet content : Text) (xs : List ContentCharacter) (appended : Bool)
    (starts all : List ℕ) (end : ℕ) → snippet ≡ ordinary_frame content
    → ((i : Text) (a : Bool) → IsSource i None (ordinary_frame content) a
    → (let w = world i None (Some (ordinary_frame content)) a in
    w.places ≡ map (λ (x : Place × ℕ). later_place 1 x.0) (seen_characters xs)
    ++ newline_places w.end a))
    → IsReadSoFar xs (length xs) starts end
    → all ≡ (if appended then starts ++ end ∷ [] else starts) ++ end ∷ []
    → IsSource input None snippet appended
    → all ≡ starts_of (world input None (Some snippet) appended)
ordinary-all input snippet content xs appended starts all end e places h m source =
    let literal : IsSource input None (ordinary_frame content) appended = rw e at source in
    let w = world input None (Some (ordinary_frame content)) appended in
    let k = known input None (ordinary_frame content) appended literal in
    let read : w.places ≡ places_of xs ++ newline_places w.end appended =
    places input appended literal
    ∙ ap (λ ps. ps ++ newline_places w.end appended) (places_seen xs) in
    let stop : w.end ≡ last_stop 1 (content_places 1 k.units) =
    ap (λ (v : World). v.end) k.world_is in
    let same : content_places 1 k.units ≡ places_of xs = append_cancel_right _ _
    (newline_places w.end appended)
    (ap (λ n. content_places 1 k.units ++ newline_places n appended) stop
    ∙ (sym (ap (λ (v : World). v.places) k.world_is) ∙ read)) in
    let whole : take (length xs) xs ≡ xs = take_all (length xs) xs (omega arith) in
    let last : end ≡ w.end = h.end_is ∙ (ap (λ l. last_stop 1 (places_of l)) whole
    ∙ (ap (last_stop 1) (sym same) ∙ sym stop)) in
    let first : starts ≡ firsts (places_of xs) = h.starts_are
    ∙ ap (λ l. firsts (places_of l)) whole in
    m ∙ (with_starts appended _ _ _ _ first last
    ∙ (starts-shape appended (places_of xs) w.end
    ∙ (ap (λ ps. firsts ps ++ w.end ∷ []) (sym read)
    ∙ ap (λ s. starts_of (world input None (Some s) appended)) (sym e))))
