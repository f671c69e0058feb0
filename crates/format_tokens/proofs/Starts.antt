-- The byte offsets where characters start, and the tokens that they place.
use Rattle.std.proofs.Common.{◌≡◌, ℕ, suc, zero, ◌++◌, ◌+◌, ◌-◌, ◌≤◌, ◌<◌, ◌==◌, Bool, true, false}
use Rattle.std.proofs.Common.{List}
use Rattle.std.proofs.Common.{[], ◌∷◌, length, map, chars, get_or, IsUtf8, refl, sym, ap, ◌∙◌}
use Rattle.std.proofs.Common.{arith, append_assoc, append-nil, length-append}
use Rattle.std.specs.Prelude.{encode_utf8, min}
use Rattle.std.specs.Char.{len_utf8}
use Rattle.std.proofs.lemmas.Bool.{eq-eqb, eqb-true, false_from_ne_true}
use Rattle.std.proofs.lemmas.List.{length-map, nil_from_length}
use Rattle.std.proofs.lemmas.Str.{IsUtf8-past_char, chars-nil, chars_past_char, length-encode}
use Rattle.rustc_parse_format.specs.Marks.{Start}
use Rattle.rustc_parse_format.specs.World.{World, Place, number_of, place_at, plain_places}
use Rattle.rustc_parse_format.specs.World.{plain_world}
use Rattle.format_tokens.specs.declared.kinds.Kind.{Kind}
use Rattle.format_tokens.specs.Escapes.{Placed}
use Rattle.format_tokens.specs.Starts.{Pair, placed_sizes, starts_of}

abbrev pub firsts : List Place → List ℕ
firsts ps = map (λ (p : Place). p.0) ps

-- The starts so far, and then those of the rest, are those of the text.
pub record IsPlainSoFar (at : ℕ) (text : List ℕ) (starts : List ℕ) (next : ℕ) (rest : List ℕ) :
    Type 0 where
  pub starts_are : starts ++ firsts (plain_places next (chars rest))
      ≡ firsts (plain_places at (chars text))
  pub valid : IsUtf8 rest
  pub room : next + length rest ≡ at + length text

width-past : (s r : List ℕ) (c : ℕ) → s ≡ encode_utf8 c ++ r → length s ≡ len_utf8 c + length r
width-past s r c e = ap length e ∙ (length-append (encode_utf8 c) r
    ∙ ap (λ k. k + length r) (length-encode c))

pub plain-next : (at : ℕ) (text starts more : List ℕ) (next c : ℕ) (s r : List ℕ)
    → IsPlainSoFar at text starts next s → s ≡ encode_utf8 c ++ r → more ≡ starts ++ next ∷ []
    → IsPlainSoFar at text more (next + len_utf8 c) r
plain-next at text starts more next c s r h e m =
    let first : chars s ≡ c ∷ chars r = chars_past_char s r c h.valid e in
    record {
      starts_are = ap (λ l. l ++ firsts (plain_places (next + len_utf8 c) (chars r))) m
          ∙ (append_assoc starts (next ∷ []) _
          ∙ (ap (λ t. starts ++ firsts (plain_places next t)) (sym first) ∙ h.starts_are));
      valid = IsUtf8-past_char s r c h.valid e;
      room = omega (arith, h.room, width-past s r c e);
    }

pub plain-end : (at : ℕ) (text starts all : List ℕ) (next end : ℕ) (s : List ℕ)
    → IsPlainSoFar at text starts next s → length s ≡ 0 → all ≡ starts ++ end ∷ []
    → (b : Bool) → all ≡ starts_of (plain_world b at (chars text) end)
plain-end at text starts all next end s h e m b =
    let none : chars s ≡ [] = ap chars (nil_from_length s e) ∙ chars-nil in
    m ∙ ap (λ l. l ++ end ∷ []) (sym (append-nil starts)
    ∙ (ap (λ t. starts ++ firsts (plain_places next t)) (sym none) ∙ h.starts_are))

-- Where the character at an index starts, or the text ends.
start-at : (ps : List Place) (e i : ℕ) → i ≤ length ps
    → get_or (firsts ps ++ e ∷ []) i 0 ≡ (get_or ps i (e, e)).0
start-at [] e zero h = refl
start-at [] e (suc i) h = absurd (omega arith)
start-at (p ∷ ps) e zero h = refl
start-at (p ∷ ps) e (suc i) h = start-at ps e i (omega arith)

pub starts-at : (w : World) (i : ℕ) → i ≤ length w.places
    → get_or (starts_of w) i 0 ≡ number_of w (Start (length w.places - i))
unfolding place_at
starts-at w i h = start-at w.places w.end i h
    ∙ ap (λ k. (get_or w.places k (w.end, w.end)).0) (omega arith)

pub length-starts : (w : World) → length (starts_of w) ≡ length w.places + 1
length-starts w = length-append (firsts w.places) (w.end ∷ [])
    ∙ ap (λ n. n + 1) (length-map w.places (λ (p : Place). p.0))

-- The tokens of a label and those that follow.
pub placed-some : (w : World) (n k : ℕ) (s : Pair) (ss : List Pair) → 0 < min s.1 k
    → placed_sizes w n k (s ∷ ss)
    ≡ (s.0, (number_of w (Start n), number_of w (Start (n - min s.1 k))))
    ∷ placed_sizes w (n - min s.1 k) (k - s.1) ss
placed-some w n k s ss some =
    let test : (min s.1 k == 0) ≡ false = false_from_ne_true (min s.1 k == 0)
    (λ t. absurd (omega (arith, eqb-true (min s.1 k) 0 t, some))) in
    rw test refl

pub placed-none : (w : World) (n k : ℕ) (s : Pair) (ss : List Pair) → min s.1 k ≡ 0
    → placed_sizes w n k (s ∷ ss) ≡ placed_sizes w n (k - s.1) ss
placed-none w n k s ss none =
    let test : (min s.1 k == 0) ≡ true = eq-eqb (min s.1 k) 0 none in
    rw test (ap (λ m. placed_sizes w m (k - s.1) ss) (omega (arith, none)))

same_sizes : (w : World) (ss : List Pair) (a b c d : ℕ) → a ≡ b → c ≡ d
    → placed_sizes w a c ss ≡ placed_sizes w b d ss
same_sizes w ss a b c d e f = rw (e, f) refl

pub same_token : (k : Kind) (a b x y : ℕ) (l m : List Placed) → a ≡ x → b ≡ y → l ≡ m
    → (k, (a, b)) ∷ l ≡ (k, (x, y)) ∷ m
same_token k a b x y l m e f g = cc

-- One step of the loop that places tokens: with the tokens of a label, the others follow.
pub place-some : (w : World) (starts : List ℕ) (at kept m : ℕ) (s : Pair) (ss : List Pair)
    (done whole : List Placed) → starts ≡ starts_of w → at ≤ kept → kept < length starts
    → m ≡ min s.1 (kept - at) → at < at + m
    → done ++ placed_sizes w (length w.places - at) (kept - at) (s ∷ ss) ≡ whole
    → (done ++ (s.0, (get_or starts at 0, get_or starts (at + m) 0)) ∷ [])
    ++ placed_sizes w (length w.places - (at + m)) (kept - (at + m)) ss ≡ whole
place-some w starts at kept m s ss done whole e h small f some g =
    let n = length w.places in
    let j = min s.1 (kept - at) in
    let room : length starts ≡ n + 1 = ap length e ∙ length-starts w in
    let left : n - (at + m) ≡ (n - at) - j = omega (arith, f) in
    let more : kept - (at + m) ≡ (kept - at) - s.1 = omega (arith, f) in
    let start : get_or starts at 0 ≡ number_of w (Start (n - at)) =
    ap (λ l. get_or l at 0) e ∙ starts-at w at (omega (arith, room)) in
    let stop : get_or starts (at + m) 0 ≡ number_of w (Start ((n - at) - j)) =
    ap (λ l. get_or l (at + m) 0) e ∙ (starts-at w (at + m) (omega (arith, room, f))
    ∙ ap (λ i. number_of w (Start i)) left) in
    let same = same_token s.0 _ _ _ _ _ _ start stop (same_sizes w ss _ _ _ _ left more) in
    append_assoc done ((s.0, (get_or starts at 0, get_or starts (at + m) 0)) ∷ [])
    (placed_sizes w (n - (at + m)) (kept - (at + m)) ss)
    ∙ (ap (λ l. done ++ l) (same ∙ sym (placed-some w (n - at) (kept - at) s ss
    (omega (arith, f, some)))) ∙ g)

pub place-none : (w : World) (at kept m : ℕ) (s : Pair) (ss : List Pair)
    (done whole : List Placed) → m ≡ min s.1 (kept - at) → at + m ≤ at
    → done ++ placed_sizes w (length w.places - at) (kept - at) (s ∷ ss) ≡ whole
    → done ++ placed_sizes w (length w.places - (at + m)) (kept - (at + m)) ss ≡ whole
place-none w at kept m s ss done whole f none g =
    let n = length w.places in
    let left : n - (at + m) ≡ n - at = omega (arith, none) in
    let more : kept - (at + m) ≡ (kept - at) - s.1 = omega (arith, f) in
    ap (λ l. done ++ l) (same_sizes w ss _ _ _ _ left more
    ∙ sym (placed-none w (n - at) (kept - at) s ss (omega (arith, f, none)))) ∙ g
