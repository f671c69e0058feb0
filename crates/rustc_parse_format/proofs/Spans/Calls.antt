-- Each span of a call is forward. So in a source literal it reads back, and its place is inside the
-- snippet and does not run backwards.
use Rattle.std.proofs.Common.{ℕ, ◌≤◌, ◌++◌, Bool, [], ◌∷◌, length, arith, Option, Some, None}
use Prim.Native.Char.{code}
use Rattle.std.specs.Prelude.{List, not, ◌&&◌, ◌==◌}
use Rattle.std.specs.List.{AllByRecursion}
use Rattle.std.proofs.lemmas.Bool.{cond_both}
use Rattle.rustc_parse_format.specs.Characters.{Text, is_align, is_brace, after_first}
use Rattle.rustc_parse_format.specs.Characters.{after_white, begins_with, first}
use Rattle.rustc_parse_format.specs.Types.{Mode, Position, Implicit, Index, Named, Spec, Argument}
use Rattle.rustc_parse_format.specs.Placeholder.{cut}
use Rattle.rustc_parse_format.specs.Marks.{Mark, Span, up_to, over_first}
use Rattle.rustc_parse_format.specs.Meaning.{argument}
use Rattle.rustc_parse_format.specs.Faults.{Fault, no_brace, brace_fill}
use Rattle.rustc_parse_format.specs.PartFaults.{word_faults, cut_faults}
use Rattle.rustc_parse_format.specs.Values.{number_after_field}
use Rattle.rustc_parse_format.specs.Identifiers.{is_identifier}
use Rattle.rustc_parse_format.specs.Recovery.{Recovery, sign_fault, sign, late_debug, field_fault}
use Rattle.rustc_parse_format.specs.Recovery.{field, recovery}
use Rattle.rustc_parse_format.specs.Literal.{IsSource}
use Rattle.rustc_parse_format.specs.World.{world, place_of}
use Rattle.rustc_parse_format.specs.Call.{Call, call, placeholder, closed_call, unclosed_call}
use Rattle.rustc_parse_format.specs.Call.{text_call, unclosed_fault}
use Rattle.rustc_parse_format.specs.ReadBack.{AllSpans, IsStart, left_at, IsForward, IsInside}
use Rattle.rustc_parse_format.specs.ReadBack.{ReadsBack, optional_list, piece_spans, spans_of_spec}
use Rattle.rustc_parse_format.specs.ReadBack.{spans_of_fault}
use Rattle.rustc_parse_format.proofs.Grammar.Rests.{IsRest, IsRest-le, IsRest-trans, cut_rest}
use Rattle.rustc_parse_format.proofs.Grammar.Rests.{after_first_rest, after_white_rest}
use Rattle.rustc_parse_format.proofs.Spans.Forward.{AreForward, AreFaultsForward, argument-start}
use Rattle.rustc_parse_format.proofs.Spans.Forward.{cut-spec_at, word_faults-forward, all-append}
use Rattle.rustc_parse_format.proofs.Spans.Forward.{all-weaker, up_to-forward, through-forward}
use Rattle.rustc_parse_format.proofs.Spans.Forward.{argument-forward}
use Rattle.rustc_parse_format.proofs.Spans.Forward.{cut_faults-forward}
use Rattle.rustc_parse_format.proofs.Spans.ReadBack.{forward-reads_back, forward-inside}

-- The spans of the fault where no brace closes a placeholder.
brace-forward : (n : ℕ) (fill : Option ℕ) (s : Option Span) → AreForward n (optional_list s)
    → AreForward n (optional_list (brace_fill fill s))
brace-forward n None s h = tt
brace-forward n (Some c) s h = cond_both {A = Option Span} (c == code "}") s None
    (λ o. AreForward n (optional_list o)) (λ yes. h) (λ no. tt)

no_brace-forward : (n : ℕ) (f : Option Span) (c : Option ℕ) (s o : Span)
    → AreForward n (optional_list f)
    → IsForward n s → IsForward n o →
    AreForward n (spans_of_fault (no_brace f c s o))
no_brace-forward n None c s o h k l = (k, (l, tt))
no_brace-forward n (Some f) c s o h k l = (k, (h.0, tt))

-- A list of spans put together of six has its first part in front.
first-part : (n : ℕ) (a b c d e f : List Span) → AreForward n (a ++ b ++ c ++ d ++ e ++ f)
    → AreForward n a
first-part n [] b c d e f h = tt
first-part n (x ∷ a) b c d e f h = (h.0, first-part n a b c d e f h.1)

unclosed-forward : (n : ℕ) (opening : Text) (f : Spec Span) (r : Text)
    → AreForward n (spans_of_spec f) → length r ≤ n → length opening ≤ n →
    AreForward n (spans_of_fault (unclosed_fault opening f r))
unclosed-forward n opening f r h k l =
    no_brace-forward n (brace_fill f.fill f.fill_span) (first r) (up_to r r) (over_first opening)
    (brace-forward n f.fill f.fill_span (first-part n (optional_list f.fill_span) _ _ _ _ _ h))
    (up_to-forward n r r (omega arith) k)
    (through-forward n opening opening (omega arith) l)

-- A mark of n characters that starts a span and is not after the first of t.
record IsInFront (n : ℕ) (m : Mark) (t : Text) : Type 0 where
  start : IsStart m
  left : length t ≤ left_at m
  within : left_at m ≤ n

-- The spans of the faults of a recovery.
field_fault-forward : (n : ℕ) (p : Position) (s : Span) → IsForward n s
    → AreFaultsForward n (field_fault p s)
field_fault-forward n (Named w) s h = ((h, tt), tt)
field_fault-forward n (Index k) s h = ((h, tt), tt)
field_fault-forward n (Implicit k) s h = tt

field-forward : (n c : ℕ) (mode : Mode) (m : Mark) (t : Text) → IsInFront n m t
    → AreFaultsForward n (field mode c m t).faults
unfolding field argument
field-forward n c mode m t h =
    let u : Text = after_first t in
    let a = cut mode u in
    let f = argument c a in
    let less : length u ≤ length t = IsRest-le (after_first_rest t) in
    let span : IsForward n (record { from = m; to = f.position_span.to }) =
    record {
      from_start = h.start;
      in_order = omega (arith, h.left, less, cut-spec_at mode u);
      within = h.within;
    } in
    all-append _ (cut_faults mode a) _
    (cut_faults-forward n mode u (omega (arith, h.left, h.within, less)))
    (cond_both {A = List (Fault Span)} (begins_with 125 a.rest) _ _ (AreFaultsForward n)
    (λ e. field_fault-forward n f.position _ span) (λ e. tt))

late_debug-forward : (n c : ℕ) (t : Text) → length t ≤ n
    → AreFaultsForward n (late_debug c t).faults
unfolding late_debug
late_debug-forward n c t h =
    let w : Text = after_first (after_first t) in
    let less : length w ≤ length t =
    omega (
      arith,
      IsRest-le (after_first_rest t),
      IsRest-le (after_first_rest (after_first t)),
    ) in
    cond_both {A = Recovery} (begins_with 58 (after_first t)) _ _
    (λ k. AreFaultsForward n k.faults)
    (λ e. all-append _ (word_faults w) _ (word_faults-forward n w (omega (arith, less, h)))
    ((through-forward n t t (omega arith) h, tt), tt))
    (λ e. tt)

sign-forward : (n c x y : ℕ) (o t : Text) → length o ≤ n → length t ≤ n →
    AreFaultsForward n (sign c (sign_fault x y (over_first t) (over_first o)) t).faults
sign-forward n c x y o t h k =
    let here = through-forward n t t (omega arith) k in
    let opening = through-forward n o o (omega arith) h in
    let P = λ (f : Option (Fault Span)). AreFaultsForward n (sign c f t).faults in
    cond_both {A = Option (Fault Span)} (is_align x) _ _ P (λ e. ((here, tt), tt))
    (λ e. cond_both {A = Option (Fault Span)} (x == 44) _ _ P (λ e. ((here, (opening, tt)), tt))
    (λ e. cond_both {A = Option (Fault Span)} (x == 43) _ _ P (λ e. ((here, tt), tt))
    (λ e. cond_both {A = Option (Fault Span)} (x == 61 && y == 125) _ _ P
    (λ e. ((here, (opening, tt)), tt))
    (λ e. cond_both {A = Option (Fault Span)} (x == 63 && y == 125) _ _ P (λ e. ((here, tt), tt))
    (λ e. tt)))))

recovery-forward : (n c : ℕ) (mode : Mode) (o t : Text) (a : Argument Span) → length o ≤ n
    → IsInFront n a.position_span.from t →
    AreFaultsForward n (recovery mode c o a t).faults
unfolding recovery
recovery-forward n c mode o [] a h k = tt
recovery-forward n c mode o (x ∷ []) a h k = tt
recovery-forward n c mode o (x ∷ y ∷ t) a h k =
    let inside : length (x ∷ y ∷ t) ≤ n = omega (arith, k.left, k.within) in
    cond_both {A = Recovery} (x == 46 && is_identifier a) _ _ (λ k. AreFaultsForward n k.faults)
    (λ e. field-forward n c mode a.position_span.from (x ∷ y ∷ t) k)
    (λ e. cond_both {A = Recovery} (x == 63 && not (y == 125)) _ _
    (λ k. AreFaultsForward n k.faults)
    (λ f. late_debug-forward n c (x ∷ y ∷ t) inside)
    (λ f. sign-forward n c x y o (x ∷ y ∷ t) h inside))

placeholder-forward : (mode : Mode) (c b : ℕ) (t : Text)
    → AllSpans (IsForward (length (b ∷ t))) (placeholder mode c (b ∷ t) t)
unfolding placeholder
placeholder-forward mode c b t =
    let n : ℕ = length (b ∷ t) in
    let inside : length t ≤ n = omega arith in
    let a = cut mode t in
    let r : Text = after_white a.rest in
    let rest : length r ≤ length t =
    IsRest-le (IsRest-trans (cut_rest mode t) (after_white_rest a.rest)) in
    let spans = argument-forward n c mode t inside in
    let start : IsInFront n (argument c a).position_span.from r =
    rw (argument-start c mode t) (record { start = tt; left = rest; within = inside }) in
    cond_both {A = Call} (begins_with 125 r) (closed_call mode c (b ∷ t) a r)
    (unclosed_call mode c (b ∷ t) a r) (AllSpans (IsForward n))
    (λ yes. record {
      piece = spans;
      closes = (through-forward n (b ∷ t) r (omega (arith, rest)) (omega arith), tt);
      faults = cut_faults-forward n mode t inside;
    })
    (λ no. record {
      piece = spans;
      closes = tt;
      faults = all-append _ _ _ (cut_faults-forward n mode t inside) (
        unclosed-forward n (b ∷ t) (argument c a).format r spans.1 (omega (arith, rest))
            (omega arith),
        recovery-forward n (number_after_field c a.field) mode (b ∷ t) r (argument c a)
            (omega arith) start,
      );
    })

text-forward : (n c : ℕ) (l t : Text) → AllSpans (IsForward n) (text_call c l t)
text-forward n c l t = record { piece = tt; closes = tt; faults = tt }

-- Each span of a call is forward in the text that it is given.
pub call-forward : (mode : Mode) (c : ℕ) (t : Text)
    → AllSpans (IsForward (length t)) (call mode c t)
unfolding call
call-forward mode c [] = record { piece = tt; closes = tt; faults = tt }
call-forward mode c (b ∷ t) =
    let n : ℕ = length (b ∷ t) in
    cond_both {A = Call} (is_brace b) _ _ (AllSpans (IsForward n))
    (λ e. cond_both {A = Call} (begins_with b t) _ _ (AllSpans (IsForward n))
    (λ d. text-forward n c (b ∷ []) (after_first t))
    (λ d. cond_both {A = Call} (b == 123) _ _ (AllSpans (IsForward n))
    (λ o. placeholder-forward mode c b t)
    (λ o. record {
      piece = tt;
      closes = tt;
      faults = ((through-forward n (b ∷ t) (b ∷ t) (omega arith) (omega arith), tt), tt);
    })))
    (λ e. text-forward n c [] (b ∷ t))

pub all_spans-weaker : (P Q : Span → Type 0) (k : Call) → ((s : Span) → P s → Q s) → AllSpans P k
    → AllSpans Q k
all_spans-weaker P Q k f h = record {
  piece = all-weaker P Q (piece_spans k.piece) f h.piece;
  closes = all-weaker P Q (optional_list k.closes) f h.closes;
  faults = all-weaker (λ x. AllByRecursion P (spans_of_fault x))
      (λ x. AllByRecursion Q (spans_of_fault x)) k.faults
      (λ x. all-weaker P Q (spans_of_fault x) f) h.faults;
}

forward-longer : (n m : ℕ) (s : Span) → n ≤ m → IsForward n s → IsForward m s
forward-longer n m s h f = let w = f.within in
    record { from_start = f.from_start; in_order = f.in_order; within = omega arith }

-- and so in each text of which that is a rest.
pub rest-forward : (mode : Mode) (c : ℕ) (input t : Text) → IsRest input t
    → AllSpans (IsForward (length input)) (call mode c t)
rest-forward mode c input t h =
    all_spans-weaker (IsForward (length t)) (IsForward (length input)) (call mode c t)
    (λ s. forward-longer (length t) (length input) s (IsRest-le h)) (call-forward mode c t)

-- In a source literal of the input each of them reads back,
pub rest-reads_back : (mode : Mode) (c : ℕ) (input t : Text) (style : Option ℕ) (snippet : Text)
    (appended : Bool) → IsRest input t →
    IsSource input style snippet appended →
    AllSpans (λ s. ReadsBack input style snippet appended s
    (place_of (world input style (Some snippet) appended) s)) (call mode c t)
rest-reads_back mode c input t style snippet appended h k =
    all_spans-weaker (IsForward (length input))
    (λ s. ReadsBack input style snippet appended s
    (place_of (world input style (Some snippet) appended) s)) (call mode c t)
    (λ s. forward-reads_back input style snippet appended s k) (rest-forward mode c input t h)

-- and has its place in order inside the snippet.
pub rest-inside : (mode : Mode) (c : ℕ) (input t : Text) (style : Option ℕ) (snippet : Text)
    (appended : Bool) → IsRest input t →
    IsSource input style snippet appended →
    AllSpans (λ s. IsInside snippet (place_of (world input style (Some snippet) appended) s))
    (call mode c t)
rest-inside mode c input t style snippet appended h k =
    all_spans-weaker (IsForward (length input))
    (λ s. IsInside snippet (place_of (world input style (Some snippet) appended) s))
    (call mode c t)
    (λ s. forward-inside input style snippet appended s k) (rest-forward mode c input t h)
