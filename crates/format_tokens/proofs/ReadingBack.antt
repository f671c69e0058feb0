-- Over a source literal the byte range of each token reads back as its characters.
use Rattle.std.proofs.Common.{◌≡◌, ℕ, ◌++◌, ◌+◌, ◌-◌, ◌≤◌, Bool, List, [], ◌∷◌, length, take}
use Rattle.std.proofs.Common.{drop, refl, sym, ap, subst, ◌∙◌, arith, append_assoc, inr}
use Rattle.std.proofs.Common.{length-append, Option, Some}
use Rattle.std.proofs.lemmas.List.{append-nil, append_cancel_left, map-append}
use Rattle.std.proofs.Math.Seq.{drop-append_seam, take-append-add, take-append_seam}
use Rattle.rustc_parse_format.specs.Characters.{Text, byte_length}
use Rattle.rustc_parse_format.specs.Literal.{IsSource, content_value}
use Rattle.rustc_parse_format.specs.LiteralUnits.{LiteralUnit}
use Rattle.rustc_parse_format.specs.Marks.{Start}
use Rattle.rustc_parse_format.specs.ReadBack.{text_inside, source_units}
use Rattle.rustc_parse_format.specs.Source.{unappended_input}
use Rattle.rustc_parse_format.specs.Types.{Mode}
use Rattle.rustc_parse_format.specs.World.{Place, World, content_places, last_stop, number_of}
use Rattle.rustc_parse_format.specs.World.{quote_offset, world}
use Rattle.rustc_parse_format.proofs.Grammar.CleanWords.{none_right}
use Rattle.rustc_parse_format.proofs.Spans.ReadBack.{forward-reads_back}
use Rattle.rustc_parse_format.proofs.Spans.Units.{IsApart, before-all, before-inside}
use Rattle.rustc_parse_format.proofs.Spans.Units.{content-ordered, start-apart}
use Rattle.rustc_parse_format.proofs.Spans.Worlds.{known}
use Rattle.format_tokens.specs.Covers.{AreParts, IsCover, in_quotes, read_back, ranges_of}
use Rattle.format_tokens.specs.declared.kinds.Kind.TheVariants.{Quote}
use Rattle.format_tokens.specs.Escapes.{Placed}
use Rattle.format_tokens.specs.Spans.{cut_in, placed_tokens, input_tokens, tokens, whole_tokens}
use Rattle.format_tokens.specs.Tokens.{Label, joined_text}
use Rattle.format_tokens.proofs.Covering.{source-length, source-tokens, start-end}
use Rattle.format_tokens.proofs.CutCovering.{source-cut, tokens-cover}
use Rattle.format_tokens.proofs.Joining.{shown-joined}
use Rattle.format_tokens.proofs.LiteralMarks.{source-parts}

-- What is between the first characters and the last ones.
middle : (d u r : Text) → drop (length d) (take (length d + length u) (d ++ (u ++ r))) ≡ u
middle d u r = ap (drop (length d)) (take-append-add d (u ++ r) (length u)
    ∙ ap (λ v. d ++ v) (take-append_seam u r)) ∙ drop-append_seam d u

-- A token of the characters u after others, with n left from it on.
one-reads : (input : Text) (style : Option ℕ) (source : Text) (b : Bool) (d u r : Text) (n : ℕ)
    → IsSource input style source b → unappended_input b input ≡ d ++ (u ++ r)
    → n + length d ≡ length input
    → (let w = world input style (Some source) b in
    text_inside (number_of w (Start n), number_of w (Start (n - length u))) (quote_offset style)
    (source_units input style source b) ≡ u)
one-reads input style source b d u r n h e f =
    let back = forward-reads_back input style source b
    (record { from = Start n; to = Start (n - length u) }) h
    (record { from_start = tt; in_order = omega arith; within = omega (arith, f) }) in
    let whole = source-length input style source b h in
    let before : length input - n ≡ length d = omega (arith, f) in
    let through : length input - (n - length u) ≡ length d + length u =
    omega (arith, f, whole, ap length e, length-append d (u ++ r), length-append u r) in
    back.inside
    ∙ (ap (λ k. drop k (take (length input - (n - length u)) (unappended_input b input))) before
    ∙ (ap (λ k. drop (length d) (take k (unappended_input b input))) through
    ∙ (ap (λ t. drop (length d) (take (length d + length u) t)) e ∙ middle d u r)))

text-reads : (input : Text) (style : Option ℕ) (source : Text) (b : Bool) (d : Text) (n : ℕ)
    (ls : List Label) → IsSource input style source b
    → unappended_input b input ≡ d ++ joined_text ls
    → n + length d ≡ length input
    → read_back input style source b (placed_tokens (world input style (Some source) b) n ls) ≡ ls
text-reads input style source b d n [] h e f = refl
text-reads input style source b d n (l ∷ ls) h e f =
    let whole = source-length input style source b h in
    let one = one-reads input style source b d l.1 (joined_text ls) n h e f in
    let others = text-reads input style source b (d ++ l.1) (n - length l.1) ls h
    (e ∙ sym (append_assoc d l.1 (joined_text ls)))
    (omega (
      arith,
      f,
      whole,
      ap length e,
      length-append d (l.1 ++ joined_text ls),
      length-append l.1 (joined_text ls),
      length-append d l.1,
    )) in
    ap (λ u. (l.0, u) ∷ read_back input style source b
    (placed_tokens (world input style (Some source) b) (n - length l.1) ls)) one
    ∙ ap (λ ms. l ∷ ms) others

-- No unit that stands for a character is in front of the first token,
zero-apart : (ps : List Place) → IsApart 0 ps
zero-apart [] = tt
zero-apart (p ∷ ps) = (inr (omega arith), zero-apart ps)

before-reads : (input : Text) (style : Option ℕ) (source : Text) (b : Bool)
    → IsSource input style source b
    → text_inside (0, number_of (world input style (Some source) b) (Start (length input)))
    (quote_offset style) (source_units input style source b) ≡ []
before-reads input style source b h =
    let n = length input in
    let us = source_units input style source b in
    let back = forward-reads_back input style source b (record { from = Start n; to = Start n }) h
    (record { from_start = tt; in_order = omega arith; within = omega arith }) in
    let zero : n - n ≡ 0 = omega arith in
    none_right _ _ (before-inside 0 _ (quote_offset style) us (omega arith) (zero-apart _)
    ∙ (back.before ∙ ap (λ k. take k (unappended_input b input)) zero))

-- and none after the end of the text.
units-end : (q m : ℕ) (us : List LiteralUnit) → last_stop q (content_places q us) ≤ m
    → text_inside (last_stop q (content_places q us), m) q us ≡ []
units-end q m us h =
    let ps = content_places q us in
    let e = last_stop q ps in
    let ordered = content-ordered q q us (omega arith) in
    let apart : IsApart e ps = subst (λ s. IsApart s ps) (start-end ps e (length ps) (omega arith))
    (start-apart q ps e (length ps) ordered) in
    append_cancel_left (content_value us) _ []
    (ap (λ t. t ++ text_inside (e, m) q us) (sym (before-all q q us e e ordered (omega arith)))
    ∙ (before-inside e m q us h apart
    ∙ (before-all q q us e m ordered h ∙ sym (append-nil (content_value us)))))

rest_after-reads : (input : Text) (style : Option ℕ) (source : Text) (b : Bool)
    → IsSource input style source b
    → text_inside ((world input style (Some source) b).end, byte_length source) (quote_offset style)
    (source_units input style source b) ≡ []
rest_after-reads input style source b h =
    let k = known input style source b h in
    rw (k.units_are, ap (λ (w : World). w.end) k.world_is)
    (units-end (quote_offset style) (byte_length source) k.units (omega (arith, k.inside)))

ends-alike : (x y u v : Text) (ls ms : List Label) → x ≡ u → y ≡ v → ls ≡ ms
    → (Quote, x) ∷ (ls ++ (Quote, y) ∷ []) ≡ (Quote, u) ∷ (ms ++ (Quote, v) ∷ [])
ends-alike x y u v ls ms e f g = rw (e, f, g) refl

pub tokens-read_back : (mode : Mode) (input : Text) (style : Option ℕ) (source : Text) (b : Bool)
    → IsSource input style source b
    → read_back input style source b (whole_tokens mode input style (Some source) b)
    ≡ in_quotes (input_tokens mode input b)
tokens-read_back mode input style source b h =
    let w = world input style (Some source) b in
    let q = quote_offset style in
    let us = source_units input style source b in
    let ts = placed_tokens w (length input) (input_tokens mode input b) in
    let last : Placed = (Quote, (w.end, byte_length source)) in
    let text = text-reads input style source b [] (length input) (input_tokens mode input b) h
    (sym (shown-joined mode input b)) (omega arith) in
    ap (read_back input style source b) (source-tokens mode input style source b h)
    ∙ (ap (λ ls. (Quote, text_inside (0, number_of w (Start (length input))) q us) ∷ ls)
    (map-append (λ (t : Placed). (t.0, text_inside t.1 q us)) ts (last ∷ []))
    ∙ ends-alike _ _ _ _ _ _ (before-reads input style source b h)
    (rest_after-reads input style source b h) text)

-- The same of a list that is known to be these tokens.
pub cover-of : (mode : Mode) (input : Text) (style : Option ℕ) (snippet : Option Text) (b : Bool)
    (ts : List Placed) → ts ≡ tokens mode input style snippet b
    → (source : Text) → snippet ≡ Some source → IsSource input style source b
    → IsCover 0 (byte_length source) (ranges_of ts)
cover-of mode input style snippet b ts e source f h =
    rw (e, f) (tokens-cover mode input style source b h)

pub reads_back-of : (mode : Mode) (input : Text) (style : Option ℕ) (snippet : Option Text)
    (b : Bool) (ts : List Placed) → ts ≡ tokens mode input style snippet b
    → (source : Text) → snippet ≡ Some source → IsSource input style source b
    → (whole : List Placed) × (ts ≡ cut_in style source whole) × AreParts whole ts
    × (read_back input style source b whole ≡ in_quotes (input_tokens mode input b))
reads_back-of mode input style snippet b ts e source f h =
    let whole = whole_tokens mode input style (Some source) b in
    let same : ts ≡ cut_in style source whole =
    e ∙ (ap (λ s. tokens mode input style s b) f ∙ source-cut mode input style source b h) in (
      whole,
      same,
      subst (λ xs. AreParts whole xs) (sym same) (source-parts mode input style source b h),
      tokens-read_back mode input style source b h,
    )
