-- The effect of the removal of an `r#`.
use Rattle.std.proofs.Common.{◌≡◌, ℕ, ◌+◌, ◌<◌, ◌≤◌, ◌++◌, ◌==◌, true, false, List, [], ◌∷◌, length}
use Rattle.std.proofs.Common.{map, refl, ap, ◌∙◌, sym, arith, Some, append-nil, subst}
use Rattle.std.proofs.lemmas.Bool.{cond-false, cond-true, false≢true, false_from_ne_true, eqb-true}
use Rattle.std.proofs.lemmas.List.{map-append}
use Rattle.rustc_parse_format.proofs.Rows.Definitions.{computing}
use Rattle.rustc_parse_format.specs.Characters.{Text, begins_raw, begins_with, after_word, word}
use Rattle.rustc_parse_format.specs.Characters.{after_white, first_passes, is_id_start}
use Rattle.rustc_parse_format.specs.Types.{Mode, Format, InlineAsm, Diagnostic, DiagnosticNamed}
use Rattle.rustc_parse_format.specs.Types.{Named, NextArgument}
use Rattle.rustc_parse_format.specs.Marks.{Mark, Start, End, Span, span_through, up_to}
use Rattle.rustc_parse_format.specs.Faults.{Fault, RawIdentifier, map_fault}
use Rattle.rustc_parse_format.specs.Placeholder.{Cut, cut, position}
use Rattle.rustc_parse_format.specs.Syntax.{RawWord, Word}
use Rattle.rustc_parse_format.specs.Meaning.{argument}
use Rattle.rustc_parse_format.specs.PartFaults.{cut_faults, spec_faults, word_faults, name_faults}
use Rattle.rustc_parse_format.specs.Values.{number_after_field}
use Rattle.rustc_parse_format.specs.Recovery.{recovery}
use Rattle.rustc_parse_format.specs.Call.{Call, call, unclosed_fault}
use Rattle.rustc_parse_format.specs.ReadBack.{spans_of, spans_of_spec}
use Rattle.rustc_parse_format.proofs.Grammar.PartFronts.{start-no_digit}
use Rattle.rustc_parse_format.proofs.Grammar.Rests.{IsRest-le, cut_rest, after_white_rest}
use Rattle.rustc_parse_format.proofs.Readers.RawWords.{raw-position}
use Rattle.rustc_parse_format.proofs.Spans.Forward.{cut_faults-forward, argument-forward}
use Rattle.rustc_parse_format.proofs.Spans.Forward.{AreForward, AreFaultsForward}
use Rattle.rustc_parse_format.proofs.Walking.Progress.{call-lt}
use Rattle.fault_fixes.specs.Fixing.{all_faults}
use Rattle.fault_fixes.specs.Losing.{IsMerged, LosesOnly, moved_span, moved_count}
use Rattle.fault_fixes.proofs.Merging.{merged-append, merged-first, merged-second}
use Rattle.fault_fixes.proofs.Moving.{faults-fixed, moved-rest_after, moved_count-before}
use Rattle.fault_fixes.proofs.Moving.{moved_mark-rest_after, span_of}
use Rattle.fault_fixes.proofs.CallMoves.{CallLoses, calls-lose, call-opens, cut_call, cut_at}
use Rattle.fault_fixes.proofs.CallMoves.{placeholder-cut_call, cut-cut_at}
use Rattle.fault_fixes.proofs.RecoveryMoves.{Moves, cond_alike, recovery-alike}
use Rattle.fault_fixes.proofs.RecoveryMoves.{unclosed_fault-moved}

-- The removal of the two characters before t, and the fault that goes.
abbrev removes : Text → Span → Span
removes t = moved_span (length t) 2 0

abbrev raw_fault : Text → Fault Span
raw_fault t = RawIdentifier (up_to (114 ∷ 35 ∷ t) (after_word t))
    (span_through (114 ∷ 35 ∷ t) (35 ∷ t))

-- The cuts before and after it.
abbrev raw_cut : Mode → Text → Cut
raw_cut mode t = cut_at mode (RawWord (word t)) (114 ∷ 35 ∷ t) (after_word t)

abbrev word_cut : Mode → Text → Cut
word_cut mode t = cut_at mode (Word (word t)) t (after_word t)

cut-raw : (mode : Mode) (t : Text) → first_passes is_id_start t ≡ true
    → cut mode (114 ∷ 35 ∷ t) ≡ raw_cut mode t
cut-raw mode t h = cut-cut_at mode (114 ∷ 35 ∷ t)
    ∙ ap (λ x. cut_at mode x.0 (114 ∷ 35 ∷ t) x.1) (raw-position (114 ∷ 35 ∷ t) refl h)

position-word : (t : Text) → begins_raw t ≡ false → first_passes is_id_start t ≡ true
    → position t ≡ (Word (word t), after_word t)
position-word [] n e = absurd (false≢true e)
position-word (c ∷ t) n e =
    cond-false _ _ _ (start-no_digit c e)
    ∙ (cond-false (begins_raw (c ∷ t)) _ _ n ∙ cond-true (is_id_start c) _ _ e)

cut-word : (mode : Mode) (t : Text) → first_passes is_id_start t ≡ true → begins_raw t ≡ false
    → cut mode t ≡ word_cut mode t
cut-word mode t h k = cut-cut_at mode t ∙ ap (λ x. cut_at mode x.0 t x.1) (position-word t k h)

brace-no_start : is_id_start 123 ≡ false
unfolding computing
brace-no_start = refl

word-no_brace : (t : Text) → first_passes is_id_start t ≡ true → begins_with 123 t ≡ false
word-no_brace [] h = refl
word-no_brace (c ∷ t) h = false_from_ne_true (c == 123)
    (λ e. false≢true (sym brace-no_start ∙ ap is_id_start (sym (eqb-true c 123 e)) ∙ h))

-- Their faults.
named-faultless : (mode : Mode) (w : Text) (s : Span) → name_faults mode (Some (Named w)) s ≡ []
named-faultless Format w s = refl
named-faultless InlineAsm w s = refl
named-faultless Diagnostic w s = refl
named-faultless DiagnosticNamed w s = refl

abbrev later_faults : Mode → Text → List (Fault Span)
later_faults mode t =
    spec_faults mode (word_cut mode t).spec_at (word_cut mode t).field.spec (word_cut mode t).rest

raw-faults : (mode : Mode) (t : Text) → cut_faults mode (raw_cut mode t)
    ≡ (word_faults t ++ raw_fault t ∷ []) ++ later_faults mode t
unfolding cut_faults
raw-faults mode t =
    ap (λ l. ((word_faults t ++ raw_fault t ∷ []) ++ l) ++ later_faults mode t)
    (named-faultless mode (word t) (up_to (114 ∷ 35 ∷ t) (after_white (after_word t))))
    ∙ ap (λ l. l ++ later_faults mode t) (append-nil (word_faults t ++ raw_fault t ∷ []))

word-faults : (mode : Mode) (t : Text) → cut_faults mode (word_cut mode t)
    ≡ word_faults t ++ later_faults mode t
unfolding cut_faults
word-faults mode t =
    ap (λ l. (word_faults t ++ l) ++ later_faults mode t)
    (named-faultless mode (word t) (up_to t (after_white (after_word t))))
    ∙ ap (λ l. l ++ later_faults mode t) (append-nil (word_faults t))

cuts-merge : (mode : Mode) (t : Text) → IsMerged (raw_fault t ∷ [])
    (cut_faults mode (word_cut mode t)) (cut_faults mode (raw_cut mode t))
cuts-merge mode t = rw (raw-faults mode t, word-faults mode t)
    (merged-append (raw_fault t ∷ []) (word_faults t) (word_faults t ++ raw_fault t ∷ []) []
    (later_faults mode t) (later_faults mode t)
    (subst (λ l. IsMerged (raw_fault t ∷ []) l (word_faults t ++ raw_fault t ∷ []))
    (append-nil (word_faults t))
    (merged-append [] (word_faults t) (word_faults t) (raw_fault t ∷ []) [] (raw_fault t ∷ [])
    (merged-second (word_faults t)) (merged-first (raw_fault t ∷ []))))
    (merged-second (later_faults mode t)))

-- The text before the word moves by two characters.
removes-moves : (t : Text) → Moves (length t) (removes t) (123 ∷ 114 ∷ 35 ∷ t) (123 ∷ t)
    (Start (length (114 ∷ 35 ∷ t))) (Start (length t))
removes-moves t = record {
  stays = moved-rest_after (length t) 2 0;
  opens = ap (λ k. span_of (Start k) (End k)) (before (length t) (length (123 ∷ 114 ∷ 35 ∷ t))
      (length (123 ∷ t)) (omega arith) (omega arith));
  starts = λ e h. both (ap Start (before (length t) (length (114 ∷ 35 ∷ t)) (length t) (omega arith)
      (omega arith)))
      (moved_mark-rest_after (length t) 2 0 e h);
}
  where
    before : (n k j : ℕ) → n < k → k ≡ j + 2 → moved_count n 2 0 k ≡ j
    before n k j h e = moved_count-before n 2 0 k h ∙ omega arith

    both : {x y u v : Mark} → x ≡ y → u ≡ v → span_of x u ≡ span_of y v
    both e f = cc

-- The call after the removal has the other faults.
cut_calls-lose : (mode : Mode) (c : ℕ) (t : Text) → cut mode t ≡ word_cut mode t →
    CallLoses (raw_fault t ∷ []) (removes t) (cut_call mode c (123 ∷ 114 ∷ 35 ∷ t) (raw_cut mode t))
    (cut_call mode c (123 ∷ t) (word_cut mode t))
unfolding argument number_after_field
cut_calls-lose mode c t e =
    let n : ℕ = length t in
    let move : Span → Span = removes t in
    let a : Cut = raw_cut mode t in
    let b : Cut = word_cut mode t in
    let moves = removes-moves t in
    let r : Text = after_white a.rest in
    let cut_left : length b.rest ≤ n =
    subst (λ (x : Cut). length x.rest ≤ n) e (IsRest-le (cut_rest mode t)) in
    let left : length r ≤ n = omega (arith, cut_left, IsRest-le (after_white_rest a.rest)) in
    let kept : map (map_fault move) (cut_faults mode b) ≡ cut_faults mode b =
    faults-fixed n move moves.stays (cut_faults mode b)
    (subst (λ (x : Cut). AreFaultsForward n (cut_faults mode x)) e
    (cut_faults-forward n mode t (omega arith))) in
    let spans : AreForward n (spans_of_spec (argument c b).format) =
    (subst (λ (x : Cut). AreForward n (spans_of (NextArgument (argument c x)))) e
    (argument-forward n c mode t (omega arith))).1 in
    let o : Text = 123 ∷ 114 ∷ 35 ∷ t in
    let next : ℕ = number_after_field c a.field in
    let alike = recovery-alike n next mode move o (123 ∷ t) (argument c a) (argument c b) r moves
    left refl in
    let later : List (Fault Span) = unclosed_fault o (argument c a).format r
    ∷ (recovery mode next o (argument c a) r).faults in
    cond_alike {A = Call} (begins_with 125 r) _ _ _ _ (CallLoses (raw_fault t ∷ []) move)
    (λ yes. record {
      faults = record {
        others = cut_faults mode b;
        are_all = cuts-merge mode t;
        stay = sym kept;
      };
      rest = refl;
      next = refl;
    })
    (λ no. record {
      faults = record {
        others = cut_faults mode b ++ later;
        are_all = merged-append (raw_fault t ∷ []) (cut_faults mode b) (cut_faults mode a) [] later
            later (cuts-merge mode t) (merged-second later);
        stay = joined (sym kept)
            (unclosed_fault-moved n move o (123 ∷ t) _ _ (argument c b).format r moves spans left)
            alike.faults
            ∙ sym (map-append (map_fault move) (cut_faults mode b) later);
      };
      rest = alike.rest;
      next = alike.next;
    })
  where
    joined : {x y z w : List (Fault Span)} {f g : Fault Span} → x ≡ y → f ≡ g → z ≡ w
        → x ++ f ∷ z ≡ y ++ g ∷ w
    joined e f g = cc

pub raw-loses : (mode : Mode) (c : ℕ) (t : Text) → first_passes is_id_start t ≡ true
    → begins_raw t ≡ false
    → LosesOnly (raw_fault t ∷ []) (removes t)
    (all_faults mode c (123 ∷ 114 ∷ 35 ∷ t)) (all_faults mode c (123 ∷ t))
raw-loses mode c t h k =
    let o : Text = 123 ∷ 114 ∷ 35 ∷ t in
    let word = cut-word mode t h k in
    let x : call mode c o ≡ cut_call mode c o (raw_cut mode t) =
    call-opens mode c (114 ∷ 35 ∷ t) refl ∙ placeholder-cut_call mode c o (114 ∷ 35 ∷ t)
    ∙ ap (cut_call mode c o) (cut-raw mode t h) in
    let y : call mode c (123 ∷ t) ≡ cut_call mode c (123 ∷ t) (word_cut mode t) =
    call-opens mode c t (word-no_brace t h) ∙ placeholder-cut_call mode c (123 ∷ t) t
    ∙ ap (cut_call mode c (123 ∷ t)) word in
    let loses : CallLoses (raw_fault t ∷ []) (removes t) (call mode c o) (call mode c (123 ∷ t)) =
    rw (x, y) (cut_calls-lose mode c t word) in
    calls-lose (length t) (raw_fault t ∷ []) (removes t) mode c 123 123 (114 ∷ 35 ∷ t) t
    (moved-rest_after (length t) 2 0)
    (omega (arith, call-lt mode c (123 ∷ t) (λ e. absurd (cc)))) loses
