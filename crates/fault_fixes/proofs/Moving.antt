-- Spans after an edit do not move, and so neither do the faults of what is left there.
use Rattle.std.proofs.Common.{◌≡◌, ℕ, ◌+◌, ◌-◌, ◌<◌, ◌≤◌, List, [], ◌∷◌, length, map, refl, ap}
use Rattle.std.proofs.Common.{arith, suc, zero}
use Rattle.std.proofs.lemmas.Bool.Decides.{nat_tests}
use Rattle.rustc_parse_format.specs.Characters.{Text}
use Rattle.rustc_parse_format.specs.Types.{Mode}
use Rattle.rustc_parse_format.specs.Marks.{Mark, Start, End, Span}
use Rattle.rustc_parse_format.specs.Faults.{Fault, map_fault, UnmatchedBrace, MissingBrace}
use Rattle.rustc_parse_format.specs.Faults.{FillBrace, Underscore, TooLarge, Unnamed}
use Rattle.rustc_parse_format.specs.Faults.{TextAfterColon, RawIdentifier, LateFlag, MissingColon}
use Rattle.rustc_parse_format.specs.Faults.{LateDebug, LateAlign, Grouping, DebugPrint, LateSign}
use Rattle.rustc_parse_format.specs.Faults.{FieldAccess, TupleIndex}
use Rattle.rustc_parse_format.specs.ReadBack.{IsForward, left_at, spans_of_fault}
use Rattle.rustc_parse_format.specs.Call.{call}
use Rattle.rustc_parse_format.proofs.Spans.Forward.{AreFaultsForward, all-append, all-weaker}
use Rattle.rustc_parse_format.proofs.Spans.Calls.{call-forward}
use Rattle.rustc_parse_format.proofs.Walking.Progress.{call-lt}
use Rattle.fault_fixes.specs.Fixing.{faults_within, all_faults}
use Rattle.fault_fixes.specs.Losing.{moved_count, moved_mark, moved_span}

-- A count of characters that are left after the edit, or before it.
pub moved_count-rest_after : (n r a k : ℕ) → k ≤ n → moved_count n r a k ≡ k
moved_count-rest_after n r a k h = grind (arith, nat_tests)

pub moved_count-before : (n r a k : ℕ) → n < k → moved_count n r a k ≡ (k - r) + a
moved_count-before n r a k h = grind (arith, nat_tests)

pub moved_mark-rest_after : (n r a : ℕ) (m : Mark) → left_at m ≤ n → moved_mark n r a m ≡ m
moved_mark-rest_after n r a (Start k) h = ap Start (moved_count-rest_after n r a k h)
moved_mark-rest_after n r a (End k) h = ap End (moved_count-rest_after n r a k h)

-- A span by its marks.
abbrev pub span_of : Mark → Mark → Span
span_of x y = record { from = x; to = y }

-- A span after the edit stays.
pub moved-rest_after : (n r a : ℕ) (s : Span) → IsForward n s → moved_span n r a s ≡ s
moved-rest_after n r a s h =
    let w = h.within in
    let o = h.in_order in
    let to : left_at s.to ≤ n = omega arith in
    both (moved_mark-rest_after n r a s.from w) (moved_mark-rest_after n r a s.to to)
  where
    both : {x y u v : Mark} → x ≡ y → u ≡ v → span_of x u ≡ span_of y v
    both e f = cc

-- A fault stays whose spans do,
pub map_fault-fixed : (n : ℕ) (move : Span → Span) → ((s : Span) → IsForward n s → move s ≡ s)
    → (f : Fault Span) → AreFaultsForward n (f ∷ []) → map_fault move f ≡ f
map_fault-fixed n move k (UnmatchedBrace s) h = ap UnmatchedBrace (k s h.0.0)
map_fault-fixed n move k (MissingBrace c s o) h = let e = k s h.0.0 in let f = k o h.0.1.0 in cc
map_fault-fixed n move k (FillBrace c s o) h = let e = k s h.0.0 in let f = k o h.0.1.0 in cc
map_fault-fixed n move k (Underscore s) h = ap Underscore (k s h.0.0)
map_fault-fixed n move k (TooLarge ds s) h = ap (TooLarge ds) (k s h.0.0)
map_fault-fixed n move k (Unnamed s) h = ap Unnamed (k s h.0.0)
map_fault-fixed n move k (TextAfterColon s) h = ap TextAfterColon (k s h.0.0)
map_fault-fixed n move k (RawIdentifier s p) h = let e = k s h.0.0 in let f = k p h.0.1.0 in cc
map_fault-fixed n move k (LateFlag c s b) h = let e = k s h.0.0 in let f = k b h.0.1.0 in cc
map_fault-fixed n move k (MissingColon s) h = ap MissingColon (k s h.0.0)
map_fault-fixed n move k (LateDebug w s) h = ap (LateDebug w) (k s h.0.0)
map_fault-fixed n move k (LateAlign c s) h = ap (LateAlign c) (k s h.0.0)
map_fault-fixed n move k (Grouping s o) h = let e = k s h.0.0 in let f = k o h.0.1.0 in cc
map_fault-fixed n move k (DebugPrint s o) h = let e = k s h.0.0 in let f = k o h.0.1.0 in cc
map_fault-fixed n move k (LateSign s) h = ap LateSign (k s h.0.0)
map_fault-fixed n move k (FieldAccess s) h = ap FieldAccess (k s h.0.0)
map_fault-fixed n move k (TupleIndex s) h = ap TupleIndex (k s h.0.0)

-- and so do many.
pub faults-fixed : (n : ℕ) (move : Span → Span) → ((s : Span) → IsForward n s → move s ≡ s)
    → (fs : List (Fault Span)) → AreFaultsForward n fs → map (map_fault move) fs ≡ fs
faults-fixed n move k [] h = refl
faults-fixed n move k (f ∷ fs) h =
    let e = map_fault-fixed n move k f (h.0, tt) in let g = faults-fixed n move k fs h.1 in cc

-- The faults of all calls are after an edit that is before all that is left.
within-forward : (m n : ℕ) (mode : Mode) (c : ℕ) (t : Text) → length t ≤ n
    → AreFaultsForward n (faults_within m mode c t)
within-forward m n mode c [] h = tt
within-forward zero n mode c (b ∷ t) h = tt
within-forward (suc m) n mode c (b ∷ t) h =
    let k = call mode c (b ∷ t) in
    all-append _ k.faults _
    (all-weaker _ _ k.faults (λ f. all-weaker _ _ (spans_of_fault f)
    (λ s. longer (length (b ∷ t)) n s h))
    (call-forward mode c (b ∷ t)).faults)
    (within-forward m n mode k.next k.rest
    (omega (arith, h, call-lt mode c (b ∷ t) (λ e. absurd (cc)))))
  where
    longer : (n m : ℕ) (s : Span) → n ≤ m → IsForward n s → IsForward m s
    longer n m s h f = let w = f.within in
        record { from_start = f.from_start; in_order = f.in_order; within = omega arith }

pub all_faults-forward : (n : ℕ) (mode : Mode) (c : ℕ) (t : Text) → length t ≤ n
    → AreFaultsForward n (all_faults mode c t)
unfolding all_faults
all_faults-forward n mode c t h = within-forward (length t) n mode c t h
