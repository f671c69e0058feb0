-- The tokens that are placed are those of the definition.
use Rattle.std.proofs.Common.{◌≡◌, ℕ, suc, zero, ◌++◌, ◌-◌, ◌≤◌, ◌<◌, Bool, true, false}
use Rattle.std.proofs.Common.{List, [], ◌∷◌, length, map, take, get_or, refl, sym, ap, ◌∙◌, arith}
use Rattle.std.proofs.Common.{Option, Some, length-append}
use Rattle.std.specs.Prelude.{min}
use Rattle.std.specs.Int.{from_bool}
use Rattle.std.proofs.lemmas.Bool.{cond-true}
use Rattle.std.proofs.lemmas.List.{length-map, length-take, map-append}
use Rattle.std.proofs.Math.Seq.{get_or-append_seam}
use Rattle.rustc_parse_format.specs.Characters.{Text, byte_length}
use Rattle.rustc_parse_format.specs.Literal.{IsSource, content_value, newline}
use Rattle.rustc_parse_format.specs.Marks.{Start}
use Rattle.rustc_parse_format.specs.Source.{HasSource, unappended_input}
use Rattle.rustc_parse_format.specs.Types.{Mode, wants_names}
use Rattle.rustc_parse_format.specs.World.{Place, World, content_places, last_stop, newline_places}
use Rattle.rustc_parse_format.specs.World.{number_of, plain_world, quote_offset, world}
use Rattle.rustc_parse_format.proofs.Sources.Decided.{found-source}
use Rattle.rustc_parse_format.proofs.Sources.PlainPlaces.{length-plain_places}
use Rattle.rustc_parse_format.proofs.Spans.PlaceOrder.{length-content_places, length-newline}
use Rattle.rustc_parse_format.proofs.Spans.Worlds.{known}
use Rattle.format_tokens.specs.declared.kinds.Kind.{Kind}
use Rattle.format_tokens.specs.declared.kinds.Kind.TheVariants.{Quote}
use Rattle.format_tokens.specs.declared.kinds.Token.{Token}
use Rattle.format_tokens.specs.Views.{seen_token}
use Rattle.format_tokens.specs.Labels.{sized_token}
use Rattle.format_tokens.specs.Escapes.{Placed}
use Rattle.format_tokens.specs.Spans.{placed_tokens, input_tokens, tokens, whole_tokens}
use Rattle.format_tokens.specs.Spans.{first_tokens}
use Rattle.format_tokens.specs.Starts.{pairs, placed_sizes, starts_of}
use Rattle.format_tokens.specs.Tokens.{Label, token}
use Rattle.format_tokens.specs.Walk.{read_tokens, tokens_of}
use Rattle.format_tokens.specs.Culprits.{marked_tokens}
use Rattle.format_tokens.proofs.Marking.{counted, marked-sized}
use Rattle.format_tokens.proofs.Starts.{firsts, length-starts, placed-none, placed-some, starts-at}
use Rattle.format_tokens.proofs.InText.{placed-shown, text-tokens}

-- A token is placed if it has characters.
token-placed : (w : World) (n j : ℕ) (k : Kind) (u : Text) (ls : List Label) → length u ≡ j
    → 0 < j → placed_tokens w n (token k u ++ ls)
    ≡ (k, (number_of w (Start n), number_of w (Start (n - j)))) ∷ placed_tokens w (n - j) ls
token-placed w n j k [] ls e some = absurd (omega arith)
token-placed w n j k (c ∷ u) ls e some = rw (← e) refl

token-none : (w : World) (n j : ℕ) (k : Kind) (u : Text) (ls : List Label) → length u ≡ j
    → j ≡ 0 → placed_tokens w n (token k u ++ ls) ≡ placed_tokens w n ls
token-none w n j k [] ls e none = refl
token-none w n j k (c ∷ u) ls e none = absurd (omega arith)

-- By lengths alone the same tokens are placed.
one-placed : (w : World) (n k j : ℕ) (l : Label) (ls : List Label)
    → ((m i : ℕ) → placed_sizes w m i (map counted ls) ≡ placed_tokens w m (first_tokens i ls))
    → min (length l.1) k ≡ j
    → placed_sizes w n k (counted l ∷ map counted ls) ≡ placed_tokens w n (first_tokens k (l ∷ ls))
one-placed w n k zero l ls others e = placed-none w n k (counted l) (map counted ls) e
    ∙ (others n (k - length l.1)
    ∙ sym (token-none w n 0 l.0 (take k l.1) (first_tokens (k - length l.1) ls)
    (omega (arith, length-take k l.1, e)) refl))
one-placed w n k (suc j) l ls others e =
    placed-some w n k (counted l) (map counted ls) (omega (arith, e))
    ∙ (ap (λ t. (l.0, (number_of w (Start n), number_of w (Start (n - min (length l.1) k)))) ∷ t)
    (others (n - min (length l.1) k) (k - length l.1))
    ∙ sym (token-placed w n (min (length l.1) k) l.0 (take k l.1)
    (first_tokens (k - length l.1) ls) (omega (arith, length-take k l.1)) (omega (arith, e))))

pub sizes-placed : (w : World) (n k : ℕ) (ls : List Label)
    → placed_sizes w n k (map counted ls) ≡ placed_tokens w n (first_tokens k ls)
sizes-placed w n k [] = refl
sizes-placed w n k (l ∷ ls) =
    one-placed w n k (min (length l.1) k) l ls (λ m i. sizes-placed w m i ls) refl

-- How many characters are shown.
pub kept-is : (b : Bool) (t : Text) → length t - from_bool b ≡ length (unappended_input b t)
kept-is true t = omega (arith, length-take (length t - 1) t)
kept-is false t = omega arith

-- There are as many places as characters.
pub literal-places : (input : Text) (style : Option ℕ) (literal : Text) (b : Bool)
    → IsSource input style literal b
    → length (world input style (Some literal) b).places ≡ length input
literal-places input style literal b source =
    let k = known input style literal b source in
    let q = quote_offset style in
    omega (
      arith,
      ap (λ (w : World). length w.places) k.world_is,
      length-append (content_places q k.units)
          (newline_places (last_stop q (content_places q k.units)) b),
      length-content_places q k.units,
      length-newline (last_stop q (content_places q k.units)) b,
      ap length k.whole,
      length-append (content_value k.units) (newline b),
    )

pub kept-small : (w : World) (n kept : ℕ) (starts : List ℕ) → starts ≡ starts_of w
    → length w.places ≡ n → kept ≤ n → kept < length starts
kept-small w n kept starts e f h = omega (arith, ap length e, length-starts w, f)

-- The tokens of the text.
shown-tokens : (w : World) (mode : Mode) (input : Text) (b : Bool) (kept : ℕ)
    → length w.places ≡ length input → kept ≡ length (unappended_input b input)
    → placed_sizes w (length w.places) kept
    (marked_tokens (wants_names mode) false (pairs (map sized_token (read_tokens mode input))))
    ≡ placed_tokens w (length input) (input_tokens mode input b)
shown-tokens w mode input b kept n e =
    ap (placed_sizes w (length w.places) kept)
    (marked-sized (wants_names mode) (read_tokens mode input) false)
    ∙ sizes-placed w (length w.places) kept (tokens_of mode input)
    ∙ (ap (λ n. placed_tokens w n (first_tokens kept (tokens_of mode input))) n
    ∙ ap (λ k. placed_tokens w (length input) (first_tokens k (tokens_of mode input))) e)

pub plain-tokens : (mode : Mode) (input : Text) (style : Option ℕ) (snippet : Option Text)
    (b : Bool) (kept : ℕ) (all : List Placed) → kept ≡ length (unappended_input b input)
    → (HasSource input style snippet b → ⊥)
    → (let w = plain_world false 0 input (byte_length input) in
    all ≡ placed_sizes w (length w.places) kept
    (marked_tokens (wants_names mode) false (pairs (map sized_token (read_tokens mode input)))))
    → all ≡ tokens mode input style snippet b
plain-tokens mode input style snippet b kept all e none h =
    h ∙ (shown-tokens (plain_world false 0 input (byte_length input)) mode input b kept
    (length-plain_places 0 input) e
    ∙ (placed-shown mode input b ∙ sym (text-tokens mode input style snippet b none)))

starts-last : (w : World) → get_or (starts_of w) (length w.places) 0 ≡ w.end
starts-last w =
    ap (λ n. get_or (starts_of w) n 0) (sym (length-map w.places (λ (p : Place). p.0)))
    ∙ get_or-append_seam (firsts w.places) w.end [] 0

around : (a b c d m n : ℕ) (x y : List Placed) → a ≡ b → c ≡ d → m ≡ n → x ≡ y
    → ((Quote, (0, a)) ∷ [] ++ x) ++ (Quote, (c, m)) ∷ []
    ≡ (Quote, (0, b)) ∷ (y ++ (Quote, (d, n)) ∷ [])
around a b c d m n x y e f g h = rw (e, f, g, h) refl

pub quoted-tokens : (mode : Mode) (input : Text) (style : Option ℕ) (literal : Text) (b : Bool)
    (kept n : ℕ) (starts : List ℕ) (all : List Placed) → kept ≡ length (unappended_input b input)
    → IsSource input style literal b
    → starts ≡ starts_of (world input style (Some literal) b) → n ≡ byte_length literal
    → (let w = world input style (Some literal) b in
    all ≡ ((Quote, (0, get_or starts 0 0)) ∷ []
    ++ placed_sizes w (length w.places) kept
    (marked_tokens (wants_names mode) false (pairs (map sized_token (read_tokens mode input)))))
    ++ (Quote, (get_or starts (length starts - 1) 0, n)) ∷ [])
    → all ≡ whole_tokens mode input style (Some literal) b
unfolding whole_tokens
quoted-tokens mode input style literal b kept n starts all e source f g h =
    let w = world input style (Some literal) b in
    let places = literal-places input style literal b source in
    let first : get_or starts 0 0 ≡ number_of w (Start (length input)) =
    ap (λ l. get_or l 0 0) f ∙ (starts-at w 0 (omega arith)
    ∙ ap (λ k. number_of w (Start k)) (omega (arith, places))) in
    let last : get_or starts (length starts - 1) 0 ≡ w.end =
    ap (λ l. get_or l (length l - 1) 0) f
    ∙ (ap (λ k. get_or (starts_of w) k 0) (omega (arith, length-starts w)) ∙ starts-last w) in
    let yes = found-source input style literal b source in
    h ∙ (around _ _ _ _ _ _ _ _ first last g
    (shown-tokens w mode input b kept places e) ∙ sym (cond-true _ _ _ yes))

-- The lists that a token before and a token after the others make.
pub assembled : (none one two all : List Token) (a b : Token) (x : List Placed) → none ≡ []
    → one ≡ none ++ a ∷ [] → map seen_token two ≡ map seen_token one ++ x → all ≡ two ++ b ∷ []
    → map seen_token all ≡ ((seen_token a ∷ []) ++ x) ++ seen_token b ∷ []
assembled none one two all a b x e f g h =
    ap (map seen_token) h ∙ (map-append seen_token two (b ∷ [])
    ∙ ap (λ l. l ++ seen_token b ∷ [])
    (g ∙ ap (λ l. map seen_token l ++ x) (f ∙ ap (λ l. l ++ a ∷ []) e)))
