-- Over a source literal the byte ranges of the tokens cover it.
use Rattle.std.proofs.Common.{◌≡◌, ℕ, suc, zero, ◌++◌, ◌+◌, ◌-◌, ◌≤◌, ◌<◌, Bool, List, [], ◌∷◌}
use Rattle.std.proofs.Common.{length, take, refl, sym, ap, ◌∙◌, arith, Option, Some, None}
use Rattle.std.proofs.Common.{length-append}
use Rattle.std.specs.List.{AllByRecursion}
use Rattle.std.proofs.lemmas.Bool.{cond-true}
use Rattle.rustc_parse_format.specs.Characters.{Text, byte_length}
use Rattle.rustc_parse_format.specs.Literal.{IsSource, content_value, newline}
use Rattle.rustc_parse_format.specs.LiteralUnits.{LiteralUnit}
use Rattle.rustc_parse_format.specs.Marks.{Start}
use Rattle.rustc_parse_format.specs.Source.{unappended_input}
use Rattle.rustc_parse_format.specs.Types.{Mode}
use Rattle.rustc_parse_format.specs.World.{Place, World, content_places, last_stop, number_of}
use Rattle.rustc_parse_format.specs.World.{quote_offset, world}
use Rattle.rustc_parse_format.proofs.Sources.Decided.{found-source}
use Rattle.rustc_parse_format.proofs.Spans.PlaceOrder.{InOrder, content-in_order}
use Rattle.rustc_parse_format.proofs.Spans.PlaceOrder.{length-content_places}
use Rattle.rustc_parse_format.proofs.Spans.ReadBack.{start-number}
use Rattle.rustc_parse_format.proofs.Spans.Units.{content-ordered, start, start-after, stop}
use Rattle.rustc_parse_format.proofs.Spans.Units.{stop-start}
use Rattle.rustc_parse_format.proofs.Spans.Worlds.{known, unit_world}
use Rattle.format_tokens.specs.Covers.{IsCover, ranges_of}
use Rattle.format_tokens.specs.declared.kinds.Kind.{Kind}
use Rattle.format_tokens.specs.declared.kinds.Kind.TheVariants.{Quote}
use Rattle.format_tokens.specs.Escapes.{Placed}
use Rattle.format_tokens.specs.Spans.{placed_tokens, input_tokens, whole_tokens, first_tokens}
use Rattle.format_tokens.specs.Tokens.{Label, joined_text, token}
use Rattle.format_tokens.specs.Walk.{tokens_of}
use Rattle.format_tokens.proofs.Joining.{shown-joined}

-- A character has a byte.
start-stop : (lo : ℕ) (ps : List Place) (e a : ℕ) → InOrder lo ps → a < length ps
    → start ps e a < stop ps e a
start-stop lo [] e a o h = absurd (omega arith)
start-stop lo (p ∷ ps) e zero (starts, bytes, others) h = bytes
start-stop lo (p ∷ ps) e (suc a) (starts, bytes, others) h =
    start-stop p.1 ps e a others (omega arith)

-- After the last one the text ends.
pub start-end : (ps : List Place) (e a : ℕ) → length ps ≤ a → start ps e a ≡ e
start-end [] e a h = refl
start-end (p ∷ ps) e zero h = absurd (omega arith)
start-end (p ∷ ps) e (suc a) h = start-end ps e a (omega arith)

-- The world w has a source literal of n characters and of m that are appended.
pub record HasLiteral (w : World) (n m : ℕ) : Type 0 where
  -- The text ends where the appended characters begin.
  pub ends : number_of w (Start m) ≡ w.end
  -- There is a quote before the text.
  pub begins : 0 < number_of w (Start n)
  -- Each character of the text starts before those that follow it, and before its end.
  pub rises : (i j : ℕ) → i ≤ n → m ≤ j → j < i → number_of w (Start i) < number_of w (Start j)

unit-literal : (q : ℕ) (us : List LiteralUnit) (b : Bool) (n : ℕ) → 0 < q
    → n ≡ length (content_value us ++ newline b)
    → HasLiteral (unit_world q us b) n (length (newline b))
unit-literal q us b n some e =
    let ps = content_places q us in
    let last = last_stop q ps in
    let size : n ≡ length ps + length (newline b) =
    omega (arith, e, length-append (content_value us) (newline b), length-content_places q us) in
    record {
      ends = start-number q us b n (length (newline b)) e
          ∙ start-end ps last (n - length (newline b)) (omega (arith, size));
      begins = omega (
        arith,
        some,
        start-number q us b n n e,
        start-after q ps last (n - n) (content-ordered q q us (omega arith)),
      );
      rises = λ i j h k l. omega (
        arith,
        start-number q us b n i e,
        start-number q us b n j e,
        start-stop q ps last (n - i) (content-in_order q us) (omega (arith, size)),
        stop-start q ps last (n - i) (n - j) (omega (arith, size))
            (content-ordered q q us (omega arith)),
      );
    }

some-offset : (style : Option ℕ) → 0 < quote_offset style
some-offset None = omega arith
some-offset (Some n) = omega arith

pub source-literal : (input : Text) (style : Option ℕ) (source : Text) (b : Bool)
    → IsSource input style source b
    → HasLiteral (world input style (Some source) b) (length input) (length (newline b))
source-literal input style source b h =
    let k = known input style source b h in
    rw k.world_is (unit-literal (quote_offset style) k.units b (length input)
    (some-offset style) (ap length k.whole))

pub source-end : (input : Text) (style : Option ℕ) (source : Text) (b : Bool)
    → IsSource input style source b → (world input style (Some source) b).end < byte_length source
source-end input style source b h =
    let k = known input style source b h in
    omega (arith, k.inside, ap (λ (w : World). w.end) k.world_is)

-- Each token has a character.
abbrev pub AreSome : List Label → Type 0
AreSome ls = AllByRecursion (λ (l : Label). 0 < length l.1) ls

some-also : (k : Kind) (u : Text) (ls : List Label) → AreSome ls → AreSome (token k u ++ ls)
some-also k [] ls h = h
some-also k (c ∷ u) ls h = (omega arith, h)

pub within-some : (n : ℕ) (ls : List Label) → AreSome (first_tokens n ls)
within-some n [] = tt
within-some n (l ∷ ls) = some-also l.0 (take n l.1) _ (within-some (n - length l.1) ls)

-- The byte ranges of tokens whose characters are those before the m that are appended.
text-cover : (w : World) (n m i : ℕ) (ls : List Label) → HasLiteral w n m → AreSome ls
    → i ≡ length (joined_text ls) + m → i ≤ n
    → IsCover (number_of w (Start i)) w.end (ranges_of (placed_tokens w i ls))
text-cover w n m i [] h some e l =
    let last : i ≡ m = omega (arith, e) in
    ap (λ k. number_of w (Start k)) last ∙ h.ends
text-cover w n m i (x ∷ ls) h some e l =
    let size = length-append x.1 (joined_text ls) in (
      refl,
      h.rises i (i - length x.1) l (omega (arith, e, size)) (omega (arith, some.0, e, size)),
      text-cover w n m (i - length x.1) ls h some.1 (omega (arith, e, size)) (omega (arith, l)),
    )

-- The input is its text and an appended newline.
pub source-length : (input : Text) (style : Option ℕ) (source : Text) (b : Bool)
    → IsSource input style source b
    → length input ≡ length (unappended_input b input) + length (newline b)
source-length input style source b h =
    let k = known input style source b h in
    omega (
      arith,
      ap length k.whole,
      ap length k.text_is,
      length-append (content_value k.units) (newline b),
    )

cover-also : (k : Kind) (ts : List Placed) (a e z : ℕ) → IsCover a e (ranges_of ts) → e < z
    → IsCover a z (ranges_of (ts ++ (k, (e, z)) ∷ []))
cover-also k [] a e z h l = (sym h, omega (arith, h, l), refl)
cover-also k (t ∷ ts) a e z h l = (h.0, h.1, cover-also k ts t.1.1 e z h.2 l)

-- The tokens of a source literal.
pub source-tokens : (mode : Mode) (input : Text) (style : Option ℕ) (source : Text) (b : Bool)
    → IsSource input style source b
    → (let w = world input style (Some source) b in
    whole_tokens mode input style (Some source) b
    ≡ (Quote, (0, number_of w (Start (length input))))
    ∷ (placed_tokens w (length input) (input_tokens mode input b)
    ++ (Quote, (w.end, byte_length source)) ∷ []))
unfolding whole_tokens
source-tokens mode input style source b h =
    cond-true _ _ _ (found-source input style source b h)

pub whole-cover : (mode : Mode) (input : Text) (style : Option ℕ) (source : Text) (b : Bool)
    → IsSource input style source b
    → IsCover 0 (byte_length source) (ranges_of (whole_tokens mode input style (Some source) b))
whole-cover mode input style source b h =
    let w = world input style (Some source) b in
    let l = source-literal input style source b h in
    let text = text-cover w (length input) (length (newline b)) (length input)
    (input_tokens mode input b) l (within-some _ (tokens_of mode input))
    (omega (arith, source-length input style source b h, ap length (shown-joined mode input b)))
    (omega arith) in
    rw (source-tokens mode input style source b h)
    (refl, l.begins, cover-also Quote _ _ w.end _ text (source-end input style source b h))
