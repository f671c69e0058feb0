-- The effect of a colon before a `?`.
use Rattle.std.proofs.Common.{◌≡◌, ℕ, ◌++◌, false, List, [], ◌∷◌, length, length-append, refl, ap}
use Rattle.std.proofs.Common.{◌∙◌, sym, arith, Some, append-nil}
use Rattle.rustc_parse_format.specs.Characters.{Text, begins_with}
use Rattle.rustc_parse_format.specs.Types.{Mode, Format, Diagnostic}
use Rattle.rustc_parse_format.specs.Marks.{Mark, Start, End, span_through, up_to, over_first}
use Rattle.rustc_parse_format.specs.Faults.{MissingBrace, MissingColon, UnmatchedBrace}
use Rattle.rustc_parse_format.specs.Placeholder.{cut, position}
use Rattle.rustc_parse_format.specs.Syntax.{PositionText}
use Rattle.rustc_parse_format.specs.PartFaults.{position_faults}
use Rattle.rustc_parse_format.specs.Values.{number_after_position}
use Rattle.rustc_parse_format.specs.Call.{unmatched_call}
use Rattle.rustc_parse_format.proofs.Rows.Definitions.{computing}
use Rattle.fault_fixes.specs.Fixing.{all_faults}
use Rattle.fault_fixes.specs.Losing.{LosesOnly, moved_count, colon_moves, colon_faults}
use Rattle.fault_fixes.proofs.Moving.{faults-fixed, all_faults-forward, moved-rest_after, span_of}
use Rattle.fault_fixes.proofs.Moving.{moved_count-before}
use Rattle.fault_fixes.proofs.PositionMoves.{Replaces, position_faults-moves, cut_of, calls}
use Rattle.fault_fixes.proofs.PositionMoves.{call-stops, three-lose, unmatched}
use Rattle.fault_fixes.proofs.CallMoves.{cut_call}
use Rattle.fault_fixes.proofs.Stopping.{colon-stops, question-stops}

-- The `?` and the brace, and with the colon before them.
abbrev asked : Text → Text
asked r = 63 ∷ 125 ∷ r

abbrev coloned : Text → Text
coloned r = 58 ∷ 63 ∷ 125 ∷ r

-- The text before the `?` moves by one character.
count-moves : (v r : Text) → moved_count (length (125 ∷ r)) 1 2 (length (v ++ asked r))
    ≡ length (v ++ coloned r)
count-moves v r =
    moved_count-before (length (125 ∷ r)) 1 2 (length (v ++ asked r))
    (omega (arith, length-append v (asked r)))
    ∙ omega (arith, length-append v (asked r), length-append v (coloned r))

both : {x y u v : Mark} → x ≡ y → u ≡ v → span_of x u ≡ span_of y v
both e f = cc

up_to-moves : (v w r : Text) → up_to (v ++ coloned r) (w ++ coloned r)
    ≡ colon_moves r (up_to (v ++ asked r) (w ++ asked r))
up_to-moves v w r =
    both (ap Start (sym (count-moves v r))) (ap Start (sym (count-moves w r)))

through-moves : (v w r : Text) → span_through (v ++ coloned r) (w ++ coloned r)
    ≡ colon_moves r (span_through (v ++ asked r) (w ++ asked r))
through-moves v w r =
    both (ap Start (sym (count-moves v r))) (ap End (sym (count-moves w r)))

replaces : (r : Text) → Replaces (colon_moves r) 63 (125 ∷ r) 58 (asked r)
replaces r = record {
  old_stops = question-stops;
  new_stops = colon-stops;
  up_to = λ v w. up_to-moves v w r;
  through = λ v w. through-moves v w r;
}

-- The readings of the calls before and after the edit, where p is the position.
pub record Reads (mode : Mode) (c : ℕ) (p : PositionText) (u v r : Text) : Type 0 where
  faults : (cut_call mode c (123 ∷ u ++ asked r)
      (cut_of mode p (u ++ asked r) (v ++ asked r) (asked r))).faults
      ≡ position_faults (u ++ asked r) p
      ++ MissingBrace (Some 63) (up_to (asked r) (asked r)) (over_first (123 ∷ u ++ asked r))
      ∷ MissingColon (over_first (asked r)) ∷ []
  rest : (cut_call mode c (123 ∷ u ++ asked r)
      (cut_of mode p (u ++ asked r) (v ++ asked r) (asked r))).rest ≡ 125 ∷ r
  next : (cut_call mode c (123 ∷ u ++ asked r)
      (cut_of mode p (u ++ asked r) (v ++ asked r) (asked r))).next ≡ number_after_position c p
  edited_faults : (cut_call mode c (123 ∷ u ++ coloned r)
      (cut_of mode p (u ++ coloned r) (v ++ coloned r) (coloned r))).faults
      ≡ position_faults (u ++ coloned r) p
  edited_rest : (cut_call mode c (123 ∷ u ++ coloned r)
      (cut_of mode p (u ++ coloned r) (v ++ coloned r) (coloned r))).rest ≡ r
  edited_next : (cut_call mode c (123 ∷ u ++ coloned r)
      (cut_of mode p (u ++ coloned r) (v ++ coloned r) (coloned r))).next
      ≡ number_after_position c p

nothing_more : {A : Type 0} (xs : List A) → (xs ++ []) ++ [] ≡ xs
nothing_more xs = append-nil (xs ++ []) ∙ append-nil xs

pub format-reads : (c : ℕ) (p : PositionText) (u v r : Text) → Reads Format c p u v r
unfolding computing
format-reads c p u v r = record {
  faults = ap (λ l. l ++ MissingBrace (Some 63) (up_to (asked r) (asked r))
      (over_first (123 ∷ u ++ asked r)) ∷ MissingColon (over_first (asked r)) ∷ [])
      (nothing_more (position_faults (u ++ asked r) p));
  rest = refl;
  next = refl;
  edited_faults = nothing_more (position_faults (u ++ coloned r) p);
  edited_rest = refl;
  edited_next = refl;
}

pub diagnostic-reads : (c : ℕ) (p : PositionText) (u v r : Text) → Reads Diagnostic c p u v r
unfolding computing
diagnostic-reads c p u v r = record {
  faults = ap (λ l. l ++ MissingBrace (Some 63) (up_to (asked r) (asked r))
      (over_first (123 ∷ u ++ asked r)) ∷ MissingColon (over_first (asked r)) ∷ [])
      (nothing_more (position_faults (u ++ asked r) p));
  rest = refl;
  next = refl;
  edited_faults = nothing_more (position_faults (u ++ coloned r) p);
  edited_rest = refl;
  edited_next = refl;
}

-- Before the edit: the position's faults, its own, and those of what follows.
before : (mode : Mode) (c : ℕ) (u r : Text) → Reads mode c (position u).0 u (position u).1 r
    → (cut mode u).spec_at ≡ [] → begins_with 125 r ≡ false →
    all_faults mode c (123 ∷ u ++ asked r) ≡ (position_faults (u ++ asked r) (position u).0
    ++ MissingBrace (Some 63) (up_to (asked r) (asked r)) (over_first (123 ∷ u ++ asked r))
    ∷ MissingColon (over_first (asked r)) ∷ [])
    ++ (UnmatchedBrace (over_first (125 ∷ r))
    ∷ all_faults mode (number_after_position c (position u).0) r)
before mode c u r reads e h =
    let n : ℕ = number_after_position c (position u).0 in
    calls mode c 123 (u ++ asked r) _ _ n (125 ∷ r)
    (call-stops mode c u 63 (125 ∷ r) question-stops e) reads.faults reads.next reads.rest
    ∙ ap (λ l. (position_faults (u ++ asked r) (position u).0
    ++ MissingBrace (Some 63) (up_to (asked r) (asked r)) (over_first (123 ∷ u ++ asked r))
    ∷ MissingColon (over_first (asked r)) ∷ []) ++ l)
    (calls mode n 125 r (unmatched_call n (125 ∷ r) r) _ n r (unmatched mode n r h) refl refl refl)

-- After it: the position's, and those of what follows.
rest_after : (mode : Mode) (c : ℕ) (u r : Text) → Reads mode c (position u).0 u (position u).1 r
    → (cut mode u).spec_at ≡ [] → all_faults mode c (123 ∷ u ++ coloned r)
    ≡ position_faults (u ++ coloned r) (position u).0
    ++ all_faults mode (number_after_position c (position u).0) r
rest_after mode c u r reads e =
    calls mode c 123 (u ++ coloned r) _ _ (number_after_position c (position u).0) r
    (call-stops mode c u 58 (asked r) colon-stops e) reads.edited_faults reads.edited_next
    reads.edited_rest

pub colon-loses : (mode : Mode) (c : ℕ) (u r : Text)
    → Reads mode c (position u).0 u (position u).1 r → (cut mode u).spec_at ≡ []
    → begins_with 125 r ≡ false → LosesOnly (colon_faults u r) (colon_moves r)
    (all_faults mode c (123 ∷ u ++ asked r)) (all_faults mode c (123 ∷ u ++ coloned r))
colon-loses mode c u r reads e h =
    let n : ℕ = length (125 ∷ r) in
    let next : ℕ = number_after_position c (position u).0 in
    three-lose (colon_moves r) _ _ _ (position_faults (u ++ asked r) (position u).0)
    (all_faults mode next r) _ _ _ (before mode c u r reads e h) (rest_after mode c u r reads e)
    (position_faults-moves (colon_moves r) 63 (125 ∷ r) 58 (asked r) u (replaces r))
    (faults-fixed n (colon_moves r) (moved-rest_after n 1 2) (all_faults mode next r)
    (all_faults-forward n mode next r (omega arith)))
