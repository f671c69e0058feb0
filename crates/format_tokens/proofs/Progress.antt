-- The tokens of the calls so far, and of those that follow.
use Rattle.std.proofs.Common.{◌≡◌, ◌≢◌, ℕ, suc, zero, ◌++◌, ◌-◌, ◌≤◌, ◌<◌, ◌==◌, true, false, List}
use Rattle.std.proofs.Common.{[]}
use Rattle.std.proofs.Common.{◌∷◌, length, IsUtf8}
use Rattle.std.proofs.Common.{map, chars, refl, sym, ap, ◌∙◌, arith, append_assoc, append-nil}
use Rattle.std.specs.Char.{len_utf8}
use Rattle.std.proofs.lemmas.Bool.{eq-eqb, eqb-true, false≢true}
use Rattle.std.proofs.lemmas.List.{map-append, nil_from_length}
use Rattle.std.proofs.lemmas.List.Sums.{sum_by-append}
use Rattle.std.proofs.lemmas.Str.{chars-nil}
use Rattle.rustc_parse_format.proofs.Sources.PlainPlaces.{width_chars}
use Rattle.rustc_parse_format.specs.Characters.{Text, byte_length}
use Rattle.rustc_parse_format.specs.Types.{Mode}
use Rattle.rustc_parse_format.specs.Call.{call}
use Rattle.rustc_parse_format.specs.State.{State, state_after, next_call}
use Rattle.rustc_parse_format.proofs.Grammar.Rests.{IsRest}
use Rattle.rustc_parse_format.proofs.Walking.ParserLaws.{call_rest}
use Rattle.rustc_parse_format.proofs.Walking.Progress.{call-lt}
use Rattle.format_tokens.specs.declared.kinds.Label.{Label as Sized}
use Rattle.format_tokens.specs.Labels.{Adds, sized_token}
use Rattle.format_tokens.specs.Walk.{call_tokens, read_tokens, tokens_within}

pub IsRest-width : {t r : Text} → IsRest t r → byte_length r ≤ byte_length t
IsRest-width {r = r} h =
    omega (arith, ap byte_length h.whole, sum_by-append len_utf8 h.front r)

-- The tokens so far, and then those of what is left of the input, are the tokens of the input.
pub record IsSoFar (mode : Mode) (input : Text) (x : List Sized) (rest : Text) (s : State) :
    Type 0 where
  pub mode_is : s.mode ≡ mode
  pub input_is : s.input ≡ input
  pub rest_is : rest ≡ s.rest
  pub within : byte_length s.rest ≤ byte_length input
  pub turns : ℕ
  pub enough : length s.rest ≤ turns
  pub tokens : x ++ map sized_token (tokens_within turns mode s.next s.rest)
      ≡ map sized_token (read_tokens mode input)

-- A parser without its errors.
abbrev pub forgotten : State → State
forgotten s = record s { errors = [] }

-- How many bytes are left after a call, by the position of the parser after it.
pub left_after : (mode : Mode) (input : Text) (x : List Sized) (rest : Text) (s new : State)
    (m w p : ℕ) → IsSoFar mode input x rest s → new ≡ forgotten (state_after s (next_call s))
    → m ≡ w - p → w ≡ byte_length input → p ≡ byte_length new.input - byte_length new.rest
    → m ≡ byte_length (call mode s.next rest).rest
left_after mode input x rest s new m w p h e i j k =
    let same : call s.mode s.next s.rest ≡ call mode s.next rest =
    ap (λ a. call a s.next s.rest) h.mode_is ∙ ap (call mode s.next) (sym h.rest_is) in
    let rest_after : byte_length new.rest ≡ byte_length (call mode s.next rest).rest =
    ap (λ (u : State). byte_length u.rest) e ∙ ap (λ a. byte_length a.rest) same in
    let whole : byte_length new.input ≡ byte_length input =
    ap (λ (u : State). byte_length u.input) e ∙ ap byte_length h.input_is in
    let less : byte_length (call mode s.next rest).rest ≤ byte_length rest =
    IsRest-width (call_rest mode s.next rest) in
    let small : byte_length rest ≤ byte_length input = rw h.rest_is h.within in
    omega (arith, rest_after, whole, less, small)

pub so_far-start : (mode : Mode) (input : Text) (s : State) → s.mode ≡ mode → s.input ≡ input
    → s.rest ≡ input → s.next ≡ 0 → IsSoFar mode input [] input s
unfolding read_tokens
so_far-start mode input s m i r n = record {
  mode_is = m;
  input_is = i;
  rest_is = sym r;
  within = rw r (omega arith);
  turns = length input;
  enough = rw r (omega arith);
  tokens = rw (r, n) refl;
}

-- The tokens of the first call, and then those of the others.
pub record Steps (mode : Mode) (n c : ℕ) (t : Text) : Type 0 where
  pub fewer : ℕ
  pub enough : length (call mode c t).rest ≤ fewer
  pub unfolds : tokens_within n mode c t ≡ call_tokens mode t (call mode c t).rest
      ++ tokens_within fewer mode (call mode c t).next (call mode c t).rest

pub step : (mode : Mode) (n c : ℕ) (t : Text) → t ≢ [] → length t ≤ n → Steps mode n c t
step mode n c [] some h = absurd (some refl)
step mode zero c (b ∷ t) some h = absurd (omega arith)
step mode (suc n) c (b ∷ t) some h = record {
  fewer = n;
  enough = omega (arith, call-lt mode c (b ∷ t) some);
  unfolds = refl;
}

joins : (x y a b w : List Sized) → y ≡ x ++ a → x ++ (a ++ b) ≡ w → y ++ b ≡ w
joins x y a b w e f = ap (λ z. z ++ b) e ∙ (append_assoc x a b ∙ f)

pub so_far-next : (mode : Mode) (input : Text) (x y : List Sized) (rest : Text) (t : List ℕ)
    (s new : State) → IsSoFar mode input x rest s → new ≡ forgotten (state_after s (next_call s))
    → rest ≢ []
    → Adds (call_tokens mode rest (call mode s.next rest).rest) (call mode s.next rest).rest x y t
    → IsSoFar mode input y (chars t) new
so_far-next mode input x y rest t s new h e some took =
    let k = call mode s.next rest in
    let same : call s.mode s.next s.rest ≡ k =
    ap (λ a. call a s.next s.rest) h.mode_is ∙ ap (call mode s.next) (sym h.rest_is) in
    let rest_after_part : new.rest ≡ k.rest =
    ap (λ (u : State). u.rest) e ∙ ap (λ a. a.rest) same in
    let next_after : new.next ≡ k.next =
    ap (λ (u : State). u.next) e ∙ ap (λ a. a.next) same in
    let f = step mode h.turns s.next rest some (rw h.rest_is h.enough) in
    let less : byte_length k.rest ≤ byte_length rest = IsRest-width (call_rest mode s.next rest) in
    let small : byte_length rest ≤ byte_length input = rw h.rest_is h.within in
    let all : x ++ map sized_token (tokens_within h.turns mode s.next rest)
    ≡ map sized_token (read_tokens mode input) = rw h.rest_is h.tokens in
    record {
      mode_is = ap (λ (u : State). u.mode) e ∙ h.mode_is;
      input_is = ap (λ (u : State). u.input) e ∙ h.input_is;
      rest_is = took.leaves ∙ sym rest_after_part;
      within = rw rest_after_part (omega arith);
      turns = f.fewer;
      enough = rw rest_after_part f.enough;
      tokens = rw (rest_after_part, next_after)
          (joins x y (map sized_token (call_tokens mode rest k.rest))
          (map sized_token (tokens_within f.fewer mode k.next k.rest)) _ took.adds
          (ap (λ l. x ++ l) (sym (map-append sized_token (call_tokens mode rest k.rest)
          (tokens_within f.fewer mode k.next k.rest)) ∙ ap (map sized_token) (sym f.unfolds))
          ∙ all));
    }

-- At the end all tokens are there.
pub none_within : (mode : Mode) (n c : ℕ) → tokens_within n mode c [] ≡ []
none_within mode zero c = refl
none_within mode (suc n) c = refl

pub so_far-end : (mode : Mode) (input : Text) (x : List Sized) (s : State)
    → IsSoFar mode input x [] s → x ≡ map sized_token (read_tokens mode input)
so_far-end mode input x s h =
    sym (append-nil x) ∙ (ap (λ l. x ++ map sized_token l) (sym (none_within mode h.turns s.next))
    ∙ rw (sym h.rest_is) at h.tokens)

-- What a call does where the parser stands.
pub piece_so_far : (mode : Mode) (input : Text) (x : List Sized) (rest : Text) (s : State)
    → IsSoFar mode input x rest s → call s.mode s.next s.rest ≡ call mode s.next rest
piece_so_far mode input x rest s h =
    ap (λ a. call a s.next s.rest) h.mode_is ∙ ap (call mode s.next) (sym h.rest_is)

-- Each call leaves fewer characters.
pub smaller : (mode : Mode) (input : Text) (x : List Sized) (rest : Text) (s new : State)
    → IsSoFar mode input x rest s → new ≡ forgotten (state_after s (next_call s)) → rest ≢ []
    → length new.rest < length s.rest
smaller mode input x rest s new h e some =
    rw e (call-lt s.mode s.next s.rest (λ n. some (h.rest_is ∙ n)))

-- A text without bytes has no characters.
pub nil_chars : (t : List ℕ) → (length t == 0) ≡ true → chars t ≡ []
nil_chars t e = ap chars (nil_from_length t (eqb-true (length t) 0 e)) ∙ chars-nil

pub some_chars : (t : List ℕ) → IsUtf8 t → (length t == 0) ≡ false → chars t ≢ []
some_chars t v e n =
    false≢true (sym e ∙ eq-eqb (length t) 0 (sym (width_chars t v) ∙ ap byte_length n))
