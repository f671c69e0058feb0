-- The faults of a position, and the cut there, before a character that ends each position.
use Rattle.std.proofs.Common.{◌≡◌, ℕ, ◌++◌, ◌==◌, Bool, true, false, cond, List, [], ◌∷◌, map, refl}
use Rattle.std.proofs.Common.{ap, ◌∙◌, sym, subst, codes, append-nil}
use Rattle.std.specs.Prelude.{bytes_eq}
use Rattle.std.specs.Char.{is_ascii_digit, is_whitespace}
use Rattle.std.proofs.lemmas.Bool.{cond_both, cond-false, false≢true, and_parts, false_from_ne_true}
use Rattle.std.proofs.lemmas.Bool.{eqb-true}
use Rattle.std.proofs.lemmas.List.{map-append}
use Rattle.rustc_parse_format.specs.Characters.{Text, begins_raw, begins_with, after_digits, front}
use Rattle.rustc_parse_format.specs.Characters.{after_white, after_word, digits, is_id_start}
use Rattle.rustc_parse_format.specs.Characters.{is_over, word}
use Rattle.rustc_parse_format.specs.Types.{Mode}
use Rattle.rustc_parse_format.specs.Marks.{Span, span_through, up_to}
use Rattle.rustc_parse_format.specs.Faults.{Fault, map_fault, TooLarge, Underscore, RawIdentifier}
use Rattle.rustc_parse_format.specs.Placeholder.{Cut, cut, position}
use Rattle.rustc_parse_format.specs.Specification.{specification}
use Rattle.rustc_parse_format.specs.Syntax.{PositionText}
use Rattle.rustc_parse_format.specs.PartFaults.{position_faults, number_faults, word_faults}
use Rattle.rustc_parse_format.specs.PartFaults.{raw_faults}
use Rattle.rustc_parse_format.specs.Call.{Call, call, unmatched_call}
use Rattle.fault_fixes.specs.Losing.{IsMerged, LosesOnly}
use Rattle.fault_fixes.proofs.Merging.{merged-append, merged-first, merged-second}
use Rattle.rustc_parse_format.proofs.Rows.Definitions.{computing}
use Rattle.fault_fixes.specs.Fixing.{all_faults}
use Rattle.fault_fixes.proofs.CallFaults.{all_faults-step}
use Rattle.fault_fixes.proofs.CallMoves.{call-opens, cut_call, placeholder-cut_call, cut-cut_at}
use Rattle.fault_fixes.proofs.Stopping.{Stops, word-stop, after_word-stop, digits-stop}
use Rattle.fault_fixes.proofs.Stopping.{after_digits-stop, after_white-stop, position-stop}

-- The faults of a word, of a number and of a raw identifier before such a character.
pub word_faults-at : (u : Text) (x : ℕ) (r : Text) → Stops x → word_faults (u ++ x ∷ r)
    ≡ cond (bytes_eq (word u) (codes "_"))
    (Underscore (up_to (u ++ x ∷ r) (after_word u ++ x ∷ r)) ∷ []) []
word_faults-at u x r h =
    ap (λ w. cond (bytes_eq w (codes "_"))
    (Underscore (up_to (u ++ x ∷ r) (after_word (u ++ x ∷ r))) ∷ []) []) (word-stop u x r h)
    ∙ ap (λ s. cond (bytes_eq (word u) (codes "_")) (Underscore (up_to (u ++ x ∷ r) s) ∷ []) [])
    (after_word-stop u x r h)

pub number_faults-at : (u : Text) (x : ℕ) (r : Text) → is_ascii_digit x ≡ false →
    number_faults (u ++ x ∷ r) ≡ cond (is_over (digits u))
    (TooLarge (digits u) (span_through (u ++ x ∷ r) (after_digits u ++ x ∷ r)) ∷ []) []
number_faults-at u x r h =
    ap (λ w. cond (is_over w)
    (TooLarge w (span_through (u ++ x ∷ r) (after_digits (u ++ x ∷ r))) ∷ []) [])
    (digits-stop u x r h)
    ∙ ap (λ s. cond (is_over (digits u)) (TooLarge (digits u) (span_through (u ++ x ∷ r) s)
    ∷ []) [])
    (after_digits-stop u x r h)

-- A text x, with the rest r, becomes y with q, and what is before moves.
pub record Replaces (move : Span → Span) (x : ℕ) (r : Text) (y : ℕ) (q : Text) : Type 0 where
  pub old_stops : Stops x
  pub new_stops : Stops y
  pub up_to : (v w : Text) → up_to (v ++ y ∷ q) (w ++ y ∷ q)
      ≡ move (up_to (v ++ x ∷ r) (w ++ x ∷ r))
  pub through : (v w : Text) → span_through (v ++ y ∷ q) (w ++ y ∷ q)
      ≡ move (span_through (v ++ x ∷ r) (w ++ x ∷ r))

word_faults-moves : (move : Span → Span) (x : ℕ) (r : Text) (y : ℕ) (q u : Text)
    → Replaces move x r y q → word_faults (u ++ y ∷ q)
    ≡ map (map_fault move) (word_faults (u ++ x ∷ r))
word_faults-moves move x r y q u h =
    rw (word_faults-at u x r h.old_stops, word_faults-at u y q h.new_stops)
    (either (bytes_eq (word u) (codes "_")))
  where
    either : (b : Bool)
        → cond b (Underscore (up_to (u ++ y ∷ q) (after_word u ++ y ∷ q)) ∷ []) []
        ≡ map (map_fault move)
        (cond b (Underscore (up_to (u ++ x ∷ r) (after_word u ++ x ∷ r)) ∷ []) [])
    either true = ap (λ s. Underscore s ∷ []) (h.up_to u (after_word u))
    either false = refl

number_faults-moves : (move : Span → Span) (x : ℕ) (r : Text) (y : ℕ) (q u : Text)
    → Replaces move x r y q
    → number_faults (u ++ y ∷ q) ≡ map (map_fault move) (number_faults (u ++ x ∷ r))
number_faults-moves move x r y q u h =
    rw (number_faults-at u x r h.old_stops.digit, number_faults-at u y q h.new_stops.digit)
    (either (is_over (digits u)))
  where
    either : (b : Bool) → cond b
        (TooLarge (digits u) (span_through (u ++ y ∷ q) (after_digits u ++ y ∷ q)) ∷ []) []
        ≡ map (map_fault move) (cond b
        (TooLarge (digits u) (span_through (u ++ x ∷ r) (after_digits u ++ x ∷ r)) ∷ []) [])
    either true = ap (λ s. TooLarge (digits u) s ∷ []) (h.through u (after_digits u))
    either false = refl

raw_faults-moves : (move : Span → Span) (x : ℕ) (r : Text) (y : ℕ) (q u : Text)
    → Replaces move x r y q → begins_raw u ≡ true
    → raw_faults (u ++ y ∷ q) ≡ map (map_fault move) (raw_faults (u ++ x ∷ r))
raw_faults-moves move x r y q [] h k = absurd (false≢true k)
raw_faults-moves move x r y q (c ∷ []) h k = absurd (false≢true (and_parts (c == 114) false k).1)
raw_faults-moves move x r y q (c ∷ d ∷ u) h k =
    let s : up_to (c ∷ d ∷ u ++ y ∷ q) (after_word (u ++ y ∷ q))
    ≡ move (up_to (c ∷ d ∷ u ++ x ∷ r) (after_word (u ++ x ∷ r))) =
    rw (after_word-stop u x r h.old_stops, after_word-stop u y q h.new_stops)
    (h.up_to (c ∷ d ∷ u) (after_word u)) in
    joined (word_faults-moves move x r y q u h) s (h.through (c ∷ d ∷ u) (d ∷ u))
    ∙ sym (map-append (map_fault move) (word_faults (u ++ x ∷ r)) _)
  where
    joined : {x y : List (Fault Span)} {s t p q : Span} → x ≡ y → s ≡ t → p ≡ q
        → x ++ RawIdentifier s p ∷ [] ≡ y ++ RawIdentifier t q ∷ []
    joined e f g = cc

pub position_faults-moves : (move : Span → Span) (x : ℕ) (r : Text) (y : ℕ) (q u : Text)
    → Replaces move x r y q → position_faults (u ++ y ∷ q) (position u).0
    ≡ map (map_fault move) (position_faults (u ++ x ∷ r) (position u).0)
position_faults-moves move x r y q [] h = refl
position_faults-moves move x r y q (c ∷ u) h =
    let t : Text = c ∷ u in
    let P = λ (z : PositionText × Text). position_faults (t ++ y ∷ q) z.0
    ≡ map (map_fault move) (position_faults (t ++ x ∷ r) z.0) in
    cond_both {A = PositionText × Text} (is_ascii_digit c) _ _ P
    (λ e. number_faults-moves move x r y q t h)
    (λ e. cond_both {A = PositionText × Text} (begins_raw t) _ _ P
    (λ f. raw_faults-moves move x r y q t h f)
    (λ f. cond_both {A = PositionText × Text} (is_id_start c) _ _ P
    (λ g. word_faults-moves move x r y q t h)
    (λ g. refl)))

-- The cut with the position p at t, then v with white space in front, and s after that.
abbrev pub cut_of : Mode → PositionText → Text → Text → Text → Cut
cut_of mode p t v s = record {
  field = record {
    position = p;
    space = front is_whitespace v;
    spec = (specification mode s).0;
  };
  position_at = t;
  spec_at = s;
  rest = (specification mode s).1;
}

pub cut-stops : (mode : Mode) (u : Text) (x : ℕ) (r : Text) → Stops x → (cut mode u).spec_at ≡ []
    → cut mode (u ++ x ∷ r)
    ≡ cut_of mode (position u).0 (u ++ x ∷ r) ((position u).1 ++ x ∷ r) (x ∷ r)
unfolding cut
cut-stops mode u x r h e =
    let v : Text = (position u).1 in
    let white : after_white (v ++ x ∷ r) ≡ x ∷ r =
    after_white-stop v x r h ∙ ap (λ l. l ++ x ∷ r) e in
    cut-cut_at mode (u ++ x ∷ r)
    ∙ ap (λ y. cut_of mode y.0 (u ++ x ∷ r) y.1 (after_white y.1)) (position-stop u x r h)
    ∙ ap (cut_of mode (position u).0 (u ++ x ∷ r) (v ++ x ∷ r)) white

opening-is_left : (mode : Mode) (u : Text) → (cut mode (123 ∷ u)).spec_at ≡ 123 ∷ u
unfolding computing
opening-is_left mode u = refl

no_brace : (mode : Mode) (u : Text) (x : ℕ) (r : Text) → Stops x → (cut mode u).spec_at ≡ []
    → begins_with 123 (u ++ x ∷ r) ≡ false
no_brace mode [] x r h e = h.opening
no_brace mode (c ∷ u) x r h e = false_from_ne_true (c == 123)
    (λ k. let s : 123 ∷ u ≡ [] = sym (opening-is_left mode u)
    ∙ subst (λ (d : ℕ). (cut mode (d ∷ u)).spec_at ≡ []) (eqb-true c 123 k) e in cc)

-- All faults, where a call is this one.
pub calls : (mode : Mode) (c b : ℕ) (t : Text) (k : Call) (fs : List (Fault Span)) (n : ℕ)
    (s : Text)
    → call mode c (b ∷ t) ≡ k → k.faults ≡ fs → k.next ≡ n → k.rest ≡ s
    → all_faults mode c (b ∷ t) ≡ fs ++ all_faults mode n s
calls mode c b t k fs n s e f g h =
    all_faults-step mode c b t ∙ ap (λ (x : Call). x.faults ++ all_faults mode x.next x.rest) e
    ∙ ap (λ l. l ++ all_faults mode k.next k.rest) f
    ∙ ap (λ x. fs ++ all_faults mode x k.rest) g ∙ ap (λ x. fs ++ all_faults mode n x) h

pub call-stops : (mode : Mode) (c : ℕ) (u : Text) (x : ℕ) (r : Text) → Stops x
    → (cut mode u).spec_at ≡ [] → call mode c (123 ∷ u ++ x ∷ r)
    ≡ cut_call mode c (123 ∷ u ++ x ∷ r)
    (cut_of mode (position u).0 (u ++ x ∷ r) ((position u).1 ++ x ∷ r) (x ∷ r))
call-stops mode c u x r h e =
    call-opens mode c (u ++ x ∷ r) (no_brace mode u x r h e)
    ∙ placeholder-cut_call mode c (123 ∷ u ++ x ∷ r) (u ++ x ∷ r)
    ∙ ap (cut_call mode c (123 ∷ u ++ x ∷ r)) (cut-stops mode u x r h e)

-- Three faults go: two after the first faults, and one before the later ones.
pub three-lose : (move : Span → Span) (a b d : Fault Span)
    (first later moved old new : List (Fault Span))
    → old ≡ (first ++ a ∷ b ∷ []) ++ (d ∷ later) → new ≡ moved ++ later
    → moved ≡ map (map_fault move) first → map (map_fault move) later ≡ later
    → LosesOnly (a ∷ b ∷ d ∷ []) move old new
three-lose move a b d first later moved old new e f g h =
    let here : IsMerged (a ∷ b ∷ []) first (first ++ a ∷ b ∷ []) =
    subst (λ l. IsMerged (a ∷ b ∷ []) l (first ++ a ∷ b ∷ [])) (append-nil first)
    (merged-append [] first first (a ∷ b ∷ []) [] (a ∷ b ∷ [])
    (merged-second first) (merged-first (a ∷ b ∷ []))) in
    let there : IsMerged (d ∷ []) later (d ∷ later) =
    merged-append (d ∷ []) [] (d ∷ []) [] later later (merged-first (d ∷ []))
    (merged-second later) in
    record {
      others = first ++ later;
      are_all = rw e (merged-append (a ∷ b ∷ []) first (first ++ a ∷ b ∷ []) (d ∷ [])
          later (d ∷ later) here there);
      stay = f ∙ ap (λ l. l ++ later) g
          ∙ ap (λ l. map (map_fault move) first ++ l) (sym h)
          ∙ sym (map-append (map_fault move) first later);
    }

-- A call at a closing brace that is not doubled.
pub unmatched : (mode : Mode) (c : ℕ) (r : Text) → begins_with 125 r ≡ false
    → call mode c (125 ∷ r) ≡ unmatched_call c (125 ∷ r) r
unfolding call
unmatched mode c r h = cond-false (begins_with 125 r) _ _ h
