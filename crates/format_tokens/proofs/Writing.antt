-- The tokens of a text that is written as pieces are those of the pieces.
use Rattle.std.proofs.Common.{◌≡◌, ◌≢◌, ℕ, ◌≤◌, ◌==◌, true, false, List, [], ◌∷◌, length}
use Rattle.std.proofs.Common.{refl, sym, ap, ◌∙◌, arith, codes, ◌++◌}
use Rattle.std.specs.Char.{is_whitespace}
use Rattle.std.proofs.lemmas.Bool.{eq-eqb, eqb-true, false≢true, not-true}
use Rattle.std.proofs.lemmas.Bool.{false_from_ne_true}
use Rattle.unicode_ident.proofs.Computing.{unicode_ident}
use Rattle.rustc_parse_format.specs.Call.{call, placeholder}
use Rattle.rustc_parse_format.specs.Characters.{Text, begins_with, rest_after, after_digits}
use Rattle.rustc_parse_format.specs.Characters.{after_white, after_word, digits, first_passes}
use Rattle.rustc_parse_format.specs.Characters.{front, is_brace, is_no_brace, word}
use Rattle.rustc_parse_format.specs.Grammar.{Reads, piece_values}
use Rattle.rustc_parse_format.specs.Placeholder.{cut, cut_of}
use Rattle.rustc_parse_format.specs.Spelling.{IsPart, doubled_part, fixed_part, run}
use Rattle.rustc_parse_format.specs.Syntax.{DoubledText, FieldText, PieceText, PlaceholderText}
use Rattle.rustc_parse_format.specs.Syntax.{RunText, field_part, piece_part, placeholder_part}
use Rattle.rustc_parse_format.specs.Types.{Mode, Piece}
use Rattle.rustc_parse_format.proofs.Grammar.PartCuts.{cut-placed}
use Rattle.rustc_parse_format.proofs.Grammar.PartFronts.{run-finds, some_run-complete}
use Rattle.rustc_parse_format.proofs.Grammar.PartLaws.{IsRow, only, opened, two-split}
use Rattle.format_tokens.specs.Tokens.{Label, piece_tokens, pieces_tokens}
use Rattle.format_tokens.specs.Walk.{IsWritten, call_tokens, placeholder_tokens, read_tokens}
use Rattle.format_tokens.specs.Walk.{tokens_within}
use Rattle.format_tokens.proofs.Progress.{none_within, step}

-- A call takes the text up to r, and these are its tokens.
record Takes (mode : Mode) (c : ℕ) (t : Text) (ls : List Label) (r : Text) : Type 0 where
  rest : (call mode c t).rest ≡ r
  tokens : call_tokens mode t r ≡ ls
  some : t ≢ []

takes_as : {mode : Mode} {c : ℕ} {t u : Text} {ls ms : List Label} {r s : Text}
    → Takes mode c u ls r → t ≡ u → ls ≡ ms → r ≡ s → Takes mode c t ms s
takes_as h e f g = rw (e, ← f, ← g) h

run-takes : (mode : Mode) (c : ℕ) (t : Text) → first_passes is_no_brace t ≡ true
    → Takes mode c t (piece_tokens (RunText (front is_no_brace t))) (rest_after is_no_brace t)
unfolding call call_tokens
run-takes mode c [] e = absurd (false≢true e)
run-takes mode c (b ∷ t) e =
    let plain = not-true (is_brace b) e in
    record { rest = rw plain refl; tokens = rw plain refl; some = λ n. cc n }

doubled-takes : (mode : Mode) (c b : ℕ) (t : Text) → is_brace b ≡ true
    → Takes mode c (b ∷ b ∷ t) (piece_tokens (DoubledText b (front is_no_brace t)))
    (rest_after is_no_brace t)
unfolding call call_tokens
doubled-takes mode c b t e =
    let same = eq-eqb b b refl in
    record { rest = rw (e, same) refl; tokens = rw (e, same) refl; some = λ n. cc n }

-- A brace that closes a cut does not close one that begins with a brace.
brace_stays : (mode : Mode) (u : Text) → after_white (cut mode (123 ∷ u)).rest ≡ 123 ∷ u
unfolding cut unicode_ident word after_word digits after_digits after_white
brace_stays mode u = refl

first_or_zero : Text → ℕ
first_or_zero [] = 0
first_or_zero (c ∷ t) = c

differ : (s u : Text) → 125 ∷ s ≡ 123 ∷ u → ⊥
unfolding first_or_zero
differ s u e = let h : ◌≡◌ {A = ℕ} 125 123 = ap first_or_zero e in omega arith

opens_one : (mode : Mode) (t r : Text) → after_white (cut mode t).rest ≡ 125 ∷ r
    → begins_with 123 t ≡ false
opens_one mode [] r e = refl
opens_one mode (d ∷ t) r e = false_from_ne_true (d == 123) (λ h.
    again d t (eqb-true d 123 h) e)
  where
    again : (d : ℕ) (t : Text) → d ≡ 123 → after_white (cut mode (d ∷ t)).rest ≡ 125 ∷ r → ⊥
    again d t h e = differ r t (sym e ∙ rw h (brace_stays mode t))

closed-takes : (mode : Mode) (c : ℕ) (t r : Text) → after_white (cut mode t).rest ≡ 125 ∷ r
    → Takes mode c (123 ∷ t)
    (piece_tokens (PlaceholderText (cut mode t).field (front is_whitespace (cut mode t).rest))) r
unfolding call call_tokens placeholder placeholder_tokens
closed-takes mode c t r e =
    let one = opens_one mode t r e in
    record { rest = rw (one, e) refl; tokens = rw (one, e) refl; some = λ n. cc n }

white-rest_after : (t w r : Text) → IsPart t (run is_whitespace w) r → after_white t ≡ r
unfolding after_white
white-rest_after t w r h = ap (λ x. x.1) ((run-finds is_whitespace).complete t w r h)

placeholder-takes : (mode : Mode) (c : ℕ) (t : Text) (a : FieldText) (space r : Text)
    → IsPart t (placeholder_part mode a space) r
    → Takes mode c t (piece_tokens (PlaceholderText a space)) r
placeholder-takes mode c t a space r h =
    let whole : IsRow t (fixed_part (codes "{") ∷ field_part mode a ∷ run is_whitespace space
    ∷ fixed_part (codes "}") ∷ []) r = record { part = h } in
    let o = opened whole in
    let f = opened o.others in
    let w = opened f.others in
    let z = only w.others in
    let e : cut mode o.seam ≡ cut_of mode a f.seam = cut-placed mode o.seam a f.seam f.first in
    let closes : after_white (cut mode o.seam).rest ≡ 125 ∷ r =
    ap (λ x. after_white x.rest) e ∙ (white-rest_after f.seam space w.seam w.first ∙ z.whole) in
    let white : front is_whitespace f.seam ≡ space =
    ap (λ x. x.0) ((run-finds is_whitespace).complete f.seam space w.seam w.first) in
    takes_as (closed-takes mode c o.seam r closes) o.first.whole
    (ap (λ x. piece_tokens (PlaceholderText x.field (front is_whitespace x.rest))) e
    ∙ ap (λ u. piece_tokens (PlaceholderText a u)) white) refl

piece-takes : (mode : Mode) (c : ℕ) (t : Text) (x : PieceText) (r : Text)
    → IsPart t (piece_part mode x) r → Takes mode c t (piece_tokens x) r
piece-takes mode c t (RunText u) r h =
    let k = some_run-complete is_no_brace t u r h in
    takes_as (run-takes mode c t k.begins) refl (ap (λ v. piece_tokens (RunText v)) k.read)
    k.rest_after
piece-takes mode c t (DoubledText b u) r h =
    let s = two-split t (doubled_part is_brace b) (run is_no_brace u) r h in
    let e = (run-finds is_no_brace).complete s.seam u r s.second in
    takes_as (doubled-takes mode c b s.seam s.first.formed) s.first.whole
    (ap (λ x. piece_tokens (DoubledText b x.0)) e) (ap (λ x. x.1) e)
piece-takes mode c t (PlaceholderText a space) r h = placeholder-takes mode c t a space r h

all-written : (n : ℕ) (mode : Mode) (c : ℕ) (t : Text) (xs : List PieceText) → length t ≤ n
    → IsWritten mode t xs → tokens_within n mode c t ≡ pieces_tokens xs
all-written n mode c t [] h e = ap (tokens_within n mode c) e ∙ none_within mode n c
all-written n mode c t (x ∷ xs) h (r, p, later) =
    let k = piece-takes mode c t x r p in
    let s = step mode n c t k.some h in
    let others = all-written s.fewer mode (call mode c t).next (call mode c t).rest xs s.enough
    (rw k.rest later) in
    s.unfolds ∙ (ap (λ l. call_tokens mode t (call mode c t).rest ++ l) others
    ∙ ap (λ l. l ++ pieces_tokens xs) (ap (call_tokens mode t) k.rest ∙ k.tokens))

pub written-tokens : (mode : Mode) (t : Text) (xs : List PieceText) → IsWritten mode t xs
    → read_tokens mode t ≡ pieces_tokens xs
unfolding read_tokens
written-tokens mode t xs h = all-written (length t) mode 0 t xs (omega arith) h

-- What is read is written.
pub reads-written : (mode : Mode) (c : ℕ) (t : Text) (ps : List (Piece (Unit {0})))
    → Reads mode c t ps
    → (xs : List PieceText) × IsWritten mode t xs × (piece_values c xs ≡ ps)
reads-written mode c t [] e = ([], e, refl)
reads-written mode c t (p ∷ ps) (r, n, b, later) =
    let (xs, w, m) = reads-written mode n r ps later in (
      b.text ∷ xs,
      (r, b.written, w),
      both (sym b.means)
          (ap (λ k. piece_values k xs) (sym b.numbered) ∙ m),
    )
  where
    both : {A : Type 0} {p q : A} {ps qs : List A} → p ≡ q → ps ≡ qs → p ∷ ps ≡ q ∷ qs
    both e f = cc
