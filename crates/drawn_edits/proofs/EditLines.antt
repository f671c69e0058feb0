-- The lines of a text, and how much of one is within so many bytes.
use Rattle.std.proofs.Common.{◌≡◌, ◌∙◌, ℕ, ◌-◌, ◌<◌, ◌≤◌, ◌∷◌, ◌++◌, List, [], append-nil}
use Rattle.std.proofs.Common.{append_assoc, ap, arith, chars, cond, false, length, sym, subst}
use Rattle.std.proofs.Common.{IsUtf8, refl}
use Rattle.std.specs.Prelude.{encode_utf8, encode_utf8_all, nat_lt, IsCharBoundary}
use Rattle.std.specs.Char.{len_utf8}
use Rattle.std.specs.List.{after_first, before_first, position_or_len, slice_split}
use Rattle.std.proofs.lemmas.Bool.Decides.{nat_tests}
use Rattle.std.proofs.lemmas.Grind.{common_steps}
use Rattle.std.proofs.lemmas.List.Splits.{length-slice_split, slice_split_first, slice_split_none}
use Rattle.std.proofs.lemmas.List.Sums.{fails_before_first}
use Rattle.std.proofs.lemmas.Str.{IsCharBoundary-at_seam, encodes-append, encodes-chars}
use Rattle.rustc_parse_format.specs.Characters.{Text}
use Rattle.drawn_edits.specs.EditedLines.{Page, with_line, with_texts}
use Rattle.drawn_lines.specs.Places.{is_line_feed, front_within}
use Rattle.drawn_lines.specs.declared.paint.Style.{Style}

-- The part of a text that is passed, and the rest of it and of the bytes.
pub record IsPassed (text rest : List ℕ) (width left : ℕ) : Type 0 where
  pub passed : Text
  pub whole : text ≡ encode_utf8_all passed ++ rest
  pub same : front_within width (chars text) ≡ passed ++ front_within left (chars rest)

-- A character more is passed.
pub pass-one : (text rest tail : List ℕ) (width left c : ℕ) → IsUtf8 rest → IsUtf8 tail
    → chars rest ≡ c ∷ chars tail → len_utf8 c ≤ left
    → IsPassed text rest width left → IsPassed text tail width (left - len_utf8 c)
pass-one text rest tail width left c u v e h p =
    let test : nat_lt left (len_utf8 c) ≡ false = grind (arith, nat_tests) in
    let xs = encode_utf8_all p.passed in
    let whole : rest ≡ encode_utf8 c ++ tail =
    sym (encodes-chars rest u) ∙ ap encode_utf8_all e
    ∙ ap (λ t. encode_utf8 c ++ t) (encodes-chars tail v) in
    let added : encode_utf8_all (p.passed ++ c ∷ []) ≡ xs ++ encode_utf8 c =
    encodes-append p.passed (c ∷ []) ∙ ap (λ t. xs ++ t) (append-nil (encode_utf8 c)) in
    record {
      passed = p.passed ++ c ∷ [];
      whole = p.whole ∙ ap (λ t. xs ++ t) whole ∙ sym (append_assoc xs (encode_utf8 c) tail)
          ∙ ap (λ t. t ++ tail) (sym added);
      same = p.same ∙ ap (λ t. p.passed ++ front_within left t) e
          ∙ ap (λ b. p.passed ++ cond b [] (c ∷ front_within (left - len_utf8 c) (chars tail))) test
          ∙ sym (append_assoc p.passed (c ∷ []) (front_within (left - len_utf8 c) (chars tail)));
    }

-- How much is passed.
length-passed : {text rest : List ℕ} {width left : ℕ} (p : IsPassed text rest width left)
    → length (encode_utf8_all p.passed) ≡ length text - length rest
length-passed p = let e = ap length p.whole in grind (arith, common_steps)

pub pass-boundary : (text rest : List ℕ) (width left : ℕ) → IsUtf8 rest
    → IsPassed text rest width left → IsCharBoundary text (length text - length rest)
pass-boundary text rest width left u p =
    subst (IsCharBoundary text) (length-passed p)
    (IsCharBoundary-at_seam text (encode_utf8_all p.passed) rest p.whole u)

-- The lines of a text: the first one and the others, or the text.
pub lines-first : (bs : List ℕ) → position_or_len is_line_feed bs < length bs
    → slice_split is_line_feed bs
    ≡ before_first is_line_feed bs ∷ slice_split is_line_feed (after_first is_line_feed bs)
lines-first bs h = slice_split_first is_line_feed bs 0 h

pub lines-one : (bs : List ℕ) → position_or_len is_line_feed bs ≡ length bs
    → slice_split is_line_feed bs ≡ bs ∷ []
lines-one bs e =
    slice_split_none is_line_feed bs
    (λ k d l. fails_before_first is_line_feed bs k d (rw e l))

-- what `split_feed` needs
pub ruleset first_of_lines = (lines-first, lines-one)

-- A page with the first line after it, and then with the others.
pub lines-step : (s : Style) (bs line rest : List ℕ) (p : Page)
    → slice_split is_line_feed bs ≡ line ∷ slice_split is_line_feed rest
    → with_texts s (slice_split is_line_feed bs) p
    ≡ with_texts s (slice_split is_line_feed rest) (with_line s line p)
lines-step s bs line rest p e =
    ap (λ ts. with_texts s ts p) e
    ∙ step (slice_split is_line_feed rest) (omega (arith, length-slice_split is_line_feed rest))
  where
    step : (ts : List (List ℕ)) → 0 < length ts
        → with_texts s (line ∷ ts) p ≡ with_texts s ts (with_line s line p)
    step [] h = absurd (omega (arith, h))
    step (t ∷ ts) h = refl
