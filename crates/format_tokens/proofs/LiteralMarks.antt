-- The tokens of an input have a mark exactly if the text has a fault, whatever literal it is from.
use Rattle.std.proofs.Common.{◌≡◌, ℕ, ◌++◌, ◌+◌, ◌-◌, ◌≤◌, ◌<◌, Bool, true, false, List, []}
use Rattle.std.proofs.Common.{◌∷◌, length, refl, sym, ap, subst, ◌∙◌, arith, nat_lt, Option}
use Rattle.std.proofs.Common.{Some, None, length-append}
use Rattle.std.specs.Prelude.{◌||◌}
use Rattle.std.specs.List.{AllByRecursion}
use Rattle.std.proofs.lemmas.Bool.{false≢true, ltb-false, ltb-true}
use Rattle.std.proofs.lemmas.List.{append-nil}
use Rattle.std.proofs.lemmas.List.Folds.{list_any-append}
use Rattle.rustc_parse_format.specs.Characters.{Text, byte_length}
use Rattle.rustc_parse_format.specs.Literal.{IsSource, content_value, newline}
use Rattle.rustc_parse_format.specs.Marks.{Start}
use Rattle.rustc_parse_format.specs.Source.{is_source}
use Rattle.rustc_parse_format.specs.Types.{Mode}
use Rattle.rustc_parse_format.specs.World.{World, content_places, number_of, world}
use Rattle.rustc_parse_format.proofs.Sources.Decided.{source-found}
use Rattle.rustc_parse_format.proofs.Sources.Ends.{frame-units}
use Rattle.rustc_parse_format.proofs.Spans.PlaceOrder.{length-content_places}
use Rattle.rustc_parse_format.proofs.Spans.ReadBack.{ends, start-number}
use Rattle.rustc_parse_format.proofs.Spans.Units.{start}
use Rattle.rustc_parse_format.proofs.Spans.Worlds.{known, unit_world}
use Rattle.format_tokens.specs.declared.kinds.Kind.TheVariants.{Quote}
use Rattle.format_tokens.specs.Covers.{AreParts}
use Rattle.format_tokens.specs.Escapes.{Placed}
use Rattle.format_tokens.specs.Spans.{cut_in, tokens_in_text, placed_tokens, input_tokens, tokens}
use Rattle.format_tokens.specs.Spans.{whole_tokens}
use Rattle.format_tokens.specs.Sections.{HasAppended, faults_of, has_fault, has_mark, is_mark}
use Rattle.format_tokens.specs.Tokens.{Label, joined_text}
use Rattle.format_tokens.specs.Walk.{tokens_of}
use Rattle.format_tokens.proofs.Boundaries.{IsBoundary, IsStart, content-end, content-start}
use Rattle.format_tokens.proofs.Covering.{AreSome, source-length, source-tokens, start-end}
use Rattle.format_tokens.proofs.Covering.{whole-cover, within-some}
use Rattle.format_tokens.proofs.CutCovering.{source-cut}
use Rattle.format_tokens.proofs.CutMarks.{IsPlaced, cut-parts, or-nothing, parts-marks}
use Rattle.format_tokens.proofs.CutMarks.{whole-parts}
use Rattle.format_tokens.proofs.Joining.{shown-joined}
use Rattle.format_tokens.proofs.LastMarks.{shown-marks}

-- Where the characters of an ordinary literal are in its source text.
record AreStarts (source : Text) (w : World) (n m : ℕ) : Type 0 where
  -- The offset of any character, or of the end, is between two characters,
  bounds : (k : ℕ) → IsBoundary source (number_of w (Start k))
  -- and where one of the text starts, there is no continued line.
  starts : (k : ℕ) → m < k → k ≤ n → IsStart source (number_of w (Start k))

literal-starts : (input source : Text) (b : Bool) → IsSource input None source b
    → AreStarts source (world input None (Some source) b) (length input) (length (newline b))
literal-starts input source b (t, (content, us, e, c, v), whole) =
    let k = known input None source b (t, (content, us, e, c, v), whole) in
    let n = length input in
    let ps = content_places 1 us in
    let same : k.units ≡ us = sym k.units_are ∙ frame-units source content us e c in
    let size : n ≡ length (content_value us ++ newline b) =
    ap length k.whole ∙ ap (λ vs. length (content_value vs ++ newline b)) same in
    let count : n ≡ length ps + length (newline b) = omega (
      arith,
      size,
      length-append (content_value us) (newline b),
      length-content_places 1 us,
    ) in
    let begins : (a : ℕ) → a < length ps → IsStart source (start ps (ends 1 us) a) =
    λ a l. content-start source (34 ∷ []) content (34 ∷ []) 1 a (ends 1 us) us e refl c l in
    let first : IsBoundary source 1 =
    record { before = 34 ∷ []; after = content ++ 34 ∷ []; whole = e; width = refl } in
    let last : IsBoundary source (ends 1 us) =
    content-end source (34 ∷ []) content (34 ∷ []) 1 1 us e refl c first in
    rw (k.world_is ∙ ap (λ vs. unit_world 1 vs b) same) record {
      bounds = λ i. subst (λ j. IsBoundary source j) (sym (start-number 1 us b n i size))
          (by_room (n - i) (nat_lt (n - i) (length ps)) refl begins last);
      starts = λ i l r. subst (λ j. IsStart source j) (sym (start-number 1 us b n i size))
          (begins (n - i) (omega (arith, count, l, r)));
    }
  where
    by_room : (a : ℕ) (r : Bool) → nat_lt a (length (content_places 1 us)) ≡ r
        → ((i : ℕ) → i < length (content_places 1 us)
        → IsStart source (start (content_places 1 us) (ends 1 us) i))
        → IsBoundary source (ends 1 us)
        → IsBoundary source (start (content_places 1 us) (ends 1 us) a)
    by_room a true q f l = (f a (ltb-true a _ q)).boundary
    by_room a false q f l =
        subst (λ j. IsBoundary source j) (sym (start-end (content_places 1 us) (ends 1 us) a
        (ltb-false a _ q))) l

-- The tokens in a source text.
all-placed : (source : Text) (w : World) (n m i : ℕ) (ls : List Label) (q : Placed)
    → AreStarts source w n m → AreSome ls → i ≡ length (joined_text ls) + m → i ≤ n
    → IsPlaced source q → AllByRecursion (IsPlaced source) (placed_tokens w i ls ++ q ∷ [])
all-placed source w n m i [] q a some h l last = (last, tt)
all-placed source w n m i (x ∷ ls) q a some h l last =
    let size = length-append x.1 (joined_text ls) in (
      record {
        ends = a.bounds (i - length x.1);
        starts = λ k. a.starts i (omega (arith, some.0, h, size)) l;
      },
      all-placed source w n m (i - length x.1) ls q a some.1 (omega (arith, h, size))
          (omega (arith, l)) last,
    )

literal-placed : (mode : Mode) (input source : Text) (b : Bool) → IsSource input None source b
    → AllByRecursion (IsPlaced source) (whole_tokens mode input None (Some source) b)
unfolding is_mark
literal-placed mode input source b h =
    let w = world input None (Some source) b in
    let a = literal-starts input source b h in
    let end : IsBoundary source (byte_length source) =
    record { before = source; after = []; whole = sym (append-nil source); width = refl } in
    rw (source-tokens mode input None source b h) (
      record { ends = a.bounds (length input); starts = λ no. absurd (false≢true no) },
      all-placed source w (length input) (length (newline b)) (length input)
          (input_tokens mode input b)
          (Quote, (w.end, byte_length source)) a (within-some _ (tokens_of mode input))
          (omega (
            arith,
            source-length input None source b h,
            ap length (shown-joined mode input b),
          ))
          (omega arith)
          (record { ends = end; starts = λ no. absurd (false≢true no) }),
    )

-- Over a source literal the tokens are the parts of those that are not cut.
pub source-parts : (mode : Mode) (input : Text) (style : Option ℕ) (source : Text) (b : Bool)
    → IsSource input style source b
    → (let ts = whole_tokens mode input style (Some source) b in
    AreParts ts (cut_in style source ts))
source-parts mode input None source b h =
    cut-parts source [] source 0 (byte_length source) _ refl refl
    (whole-cover mode input None source b h) (literal-placed mode input source b h)
source-parts mode input (Some n) source b h =
    whole-parts _ 0 (byte_length source) (whole-cover mode input (Some n) source b h)

-- Byte ranges change no mark.
text-marks : (at : ℕ) (ls : List Label) → has_mark (tokens_in_text at ls) ≡ has_mark ls
text-marks at [] = refl
text-marks at (l ∷ ls) = ap (λ b. is_mark l.0 || b) (text-marks (at + byte_length l.1) ls)

placed-marks : (w : World) (n : ℕ) (ls : List Label) → has_mark (placed_tokens w n ls) ≡ has_mark ls
placed-marks w n [] = refl
placed-marks w n (l ∷ ls) = ap (λ b. is_mark l.0 || b) (placed-marks w (n - length l.1) ls)

source-marks : (mode : Mode) (input : Text) (style : Option ℕ) (source : Text) (b : Bool)
    → IsSource input style source b
    → has_mark (whole_tokens mode input style (Some source) b)
    ≡ has_mark (input_tokens mode input b)
unfolding is_mark
source-marks mode input style source b h =
    let w = world input style (Some source) b in
    let ts = placed_tokens w (length input) (input_tokens mode input b) in
    ap has_mark (source-tokens mode input style source b h)
    ∙ (list_any-append (λ (t : Placed). is_mark t.0) ts ((Quote, (w.end, byte_length source)) ∷ [])
    ∙ (or-nothing (has_mark ts) ∙ placed-marks w (length input) (input_tokens mode input b)))

tokens-marks : (mode : Mode) (input : Text) (style : Option ℕ) (snippet : Option Text) (b : Bool)
    → has_mark (tokens mode input style snippet b) ≡ has_mark (input_tokens mode input b)
unfolding tokens whole_tokens
tokens-marks mode input style None b = text-marks 0 (input_tokens mode input b)
tokens-marks mode input style (Some source) b =
    by_test (is_source input style (Some source) b) refl
  where
    by_test : (v : Bool) → is_source input style (Some source) b ≡ v
        → has_mark (tokens mode input style (Some source) b) ≡ has_mark (input_tokens mode input b)
    by_test true e =
        let h = source-found input style source b e in
        ap has_mark (source-cut mode input style source b h)
        ∙ (parts-marks _ _ (source-parts mode input style source b h)
        ∙ source-marks mode input style source b h)
    by_test false e = rw e (text-marks 0 (input_tokens mode input b))

pub literal-marks : (mode : Mode) (input : Text) (style : Option ℕ) (snippet : Option Text)
    (b : Bool) → HasAppended b input
    → has_mark (tokens mode input style snippet b) ≡ has_fault (faults_of mode input)
literal-marks mode input style snippet b h =
    tokens-marks mode input style snippet b ∙ shown-marks mode input b h
