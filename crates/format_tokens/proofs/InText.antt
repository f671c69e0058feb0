-- Without a source literal the tokens are in the text.
use Rattle.std.proofs.Common.{◌≡◌, ℕ, ◌++◌, ◌+◌, ◌-◌, ◌<◌, Bool, true, false, List, [], ◌∷◌}
use Rattle.std.proofs.Common.{length, drop, chars, IsUtf8, refl, sym, ap, subst, ◌∙◌, arith}
use Rattle.std.proofs.Common.{append_assoc, length-append, Option, Some, None}
use Rattle.std.specs.Prelude.{encode_utf8_all}
use Rattle.std.proofs.lemmas.Bool.{false_from_ne_true}
use Rattle.std.proofs.lemmas.List.{append-nil, take-append-drop}
use Rattle.std.proofs.lemmas.Str.{len_utf8_bounds}
use Rattle.rustc_parse_format.specs.Characters.{Text, byte_length}
use Rattle.rustc_parse_format.specs.Marks.{Start}
use Rattle.rustc_parse_format.specs.Source.{HasSource, is_source, unappended_input}
use Rattle.rustc_parse_format.specs.Types.{Mode}
use Rattle.rustc_parse_format.specs.World.{Place, number_of, plain_world}
use Rattle.rustc_parse_format.proofs.Literals.Widths.{width-append, width-cons}
use Rattle.rustc_parse_format.proofs.Sources.Decided.{source-found}
use Rattle.rustc_parse_format.proofs.Sources.PlainPlaces.{place_end, place_inside}
use Rattle.rustc_parse_format.proofs.Spans.TextBytes.{text-bytes}
use Rattle.format_tokens.specs.Covers.{IsCover, encoded_tokens, ranges_of, slices}
use Rattle.format_tokens.specs.Escapes.{Placed}
use Rattle.format_tokens.specs.Spans.{tokens_in_text, placed_tokens, input_tokens, tokens}
use Rattle.format_tokens.specs.Spans.{whole_tokens}
use Rattle.format_tokens.specs.Tokens.{Label, joined_text}
use Rattle.format_tokens.specs.Walk.{tokens_of}
use Rattle.format_tokens.proofs.Covering.{AreSome, within-some}
use Rattle.format_tokens.proofs.Joining.{shown-joined}
use Rattle.format_tokens.proofs.Starts.{same_token}

-- These are the tokens of an input between two other texts.
abbrev AreBetween : Text → List Label → Text → Text → Type 0
AreBetween before ls after input = input ≡ before ++ (joined_text ls ++ after)

-- So are those after the first of them.
next-between : (before after input : Text) (l : Label) (ls : List Label)
    → AreBetween before (l ∷ ls) after input → AreBetween (before ++ l.1) ls after input
next-between before after input l ls e =
    e ∙ (ap (λ t. before ++ t) (append_assoc l.1 (joined_text ls) after)
    ∙ sym (append_assoc before l.1 (joined_text ls ++ after)))

-- The tokens that are shown are those from the start on.
shown-between : (mode : Mode) (input : Text) (b : Bool)
    → (after : Text) × AreBetween [] (input_tokens mode input b) after input
shown-between mode input true = (
  drop (length input - 1) input,
  sym (take-append-drop (length input - 1) input)
      ∙ ap (λ t. t ++ drop (length input - 1) input) (sym (shown-joined mode input true)),
)
shown-between mode input false = (
  [],
  sym (append-nil input) ∙ ap (λ t. t ++ []) (sym (shown-joined mode input false)),
)

-- A character starts after the bytes of those before it.
start-split : (before left : Text)
    → number_of (plain_world false 0 (before ++ left) (byte_length (before ++ left)))
    (Start (length left)) ≡ byte_length before
start-split before [] =
    ap (λ (p : Place). p.0) (place_end (plain_world false 0 (before ++ []) _))
    ∙ ap byte_length (append-nil before)
start-split before (c ∷ t) =
    ap (λ (p : Place). p.0) (place_inside false 0 _ before t c) ∙ omega arith

start-between : (input before left : Text) → input ≡ before ++ left
    → number_of (plain_world false 0 input (byte_length input)) (Start (length left))
    ≡ byte_length before
start-between input before left e = rw e (start-split before left)

placed-between : (before after input : Text) (ls : List Label) → AreBetween before ls after input
    → placed_tokens (plain_world false 0 input (byte_length input))
    (length (joined_text ls ++ after)) ls
    ≡ tokens_in_text (byte_length before) ls
placed-between before after input [] e = refl
placed-between before after input (l ∷ ls) e =
    let w = plain_world false 0 input (byte_length input) in
    let n = length (joined_text (l ∷ ls) ++ after) in
    let more = next-between before after input l ls e in
    let left : n - length l.1 ≡ length (joined_text ls ++ after) =
    omega (
      arith,
      ap length (append_assoc l.1 (joined_text ls) after),
      length-append l.1 (joined_text ls ++ after),
    ) in
    let to = width-append before l.1 in
    same_token l.0 _ _ _ _ _ _ (start-between input before _ e)
    (ap (λ k. number_of w (Start k)) left ∙ (start-between input _ _ more ∙ to))
    (ap (λ k. placed_tokens w k ls) left ∙ (placed-between (before ++ l.1) after input ls more
    ∙ ap (λ k. tokens_in_text k ls) to))

pub placed-shown : (mode : Mode) (input : Text) (b : Bool)
    → placed_tokens (plain_world false 0 input (byte_length input)) (length input)
    (input_tokens mode input b)
    ≡ tokens_in_text 0 (input_tokens mode input b)
placed-shown mode input b =
    let (after, e) = shown-between mode input b in
    ap (λ n. placed_tokens (plain_world false 0 input (byte_length input)) n
    (input_tokens mode input b))
    (ap length e) ∙ placed-between [] after input (input_tokens mode input b) e

pub text-tokens : (mode : Mode) (input : Text) (style : Option ℕ) (snippet : Option Text) (b : Bool)
    → (HasSource input style snippet b → ⊥)
    → tokens mode input style snippet b ≡ tokens_in_text 0 (input_tokens mode input b)
unfolding tokens whole_tokens
text-tokens mode input style None b none = refl
text-tokens mode input style (Some snippet) b none =
    let no = false_from_ne_true (is_source input style (Some snippet) b)
    (λ t. none (source-found input style snippet b t)) in
    rw no refl

-- They cover it,
pub some-width : (t : Text) → 0 < length t → 0 < byte_length t
some-width [] h = absurd (omega arith)
some-width (c ∷ t) h = omega (arith, len_utf8_bounds c, width-cons c t)

text-covers : (at : ℕ) (ls : List Label) → AreSome ls
    → IsCover at (at + byte_length (joined_text ls)) (ranges_of (tokens_in_text at ls))
text-covers at [] h = omega arith
text-covers at (l ∷ ls) h =
    let to = at + byte_length l.1 in
    let end : to + byte_length (joined_text ls) ≡ at + byte_length (joined_text (l ∷ ls)) =
    omega (arith, width-append l.1 (joined_text ls)) in (
      refl,
      omega (arith, some-width l.1 h.0),
      subst (λ z. IsCover to z (ranges_of (tokens_in_text to ls))) end (text-covers to ls h.1),
    )

-- and have its bytes.
text-slices : (bytes : List ℕ) (before after : Text) (ls : List Label) → IsUtf8 bytes
    → AreBetween before ls after (chars bytes)
    → slices bytes (tokens_in_text (byte_length before) ls) ≡ encoded_tokens ls
text-slices bytes before after [] v e = refl
text-slices bytes before after (l ∷ ls) v e =
    let to = width-append before l.1 in
    let one = text-bytes bytes (byte_length before) l.1 v (record {
      before = before;
      after = joined_text ls ++ after;
      whole = e ∙ ap (λ t. before ++ t) (append_assoc l.1 (joined_text ls) after);
      from_is = refl;
    }) in
    ap (λ u. (l.0, u) ∷ slices bytes (tokens_in_text (byte_length before + byte_length l.1) ls))
    one.same
    ∙ ap (λ xs. (l.0, encode_utf8_all l.1) ∷ xs)
    (ap (λ k. slices bytes (tokens_in_text k ls)) (sym to)
    ∙ text-slices bytes (before ++ l.1) after ls v
    (next-between before after (chars bytes) l ls e))

-- The same of a list that is known to be these tokens.
pub text-of : (mode : Mode) (bytes : List ℕ) (style : Option ℕ) (snippet : Option Text) (b : Bool)
    (ts : List Placed) → IsUtf8 bytes → ts ≡ tokens mode (chars bytes) style snippet b
    → (HasSource (chars bytes) style snippet b → ⊥)
    → IsCover 0 (byte_length (unappended_input b (chars bytes))) (ranges_of ts)
    × (slices bytes ts ≡ encoded_tokens (input_tokens mode (chars bytes) b))
text-of mode bytes style snippet b ts v e none =
    let input = chars bytes in
    let (after, between) = shown-between mode input b in
    let ls = input_tokens mode input b in
    let size : 0 + byte_length (joined_text ls) ≡ byte_length (unappended_input b input) =
    omega (arith, ap byte_length (shown-joined mode input b)) in
    rw (e ∙ text-tokens mode input style snippet b none) (
      subst (λ n. IsCover 0 n (ranges_of (tokens_in_text 0 ls))) size
          (text-covers 0 ls (within-some _ (tokens_of mode input))),
      text-slices bytes [] after ls v between,
    )
