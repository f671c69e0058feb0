-- A missing closing brace and the recovery after it, where what is before the text has moved.
use Rattle.std.proofs.Common.{◌≡◌, ℕ, ◌≤◌, ◌++◌, ◌==◌, Bool, true, false, not, ◌&&◌, cond, List, []}
use Rattle.std.proofs.Common.{◌∷◌, length, map, refl, ap, ◌∙◌, sym, arith, Option, Some, None}
use Rattle.std.proofs.lemmas.Bool.{cond_both}
use Rattle.std.proofs.lemmas.List.{map-append}
use Rattle.rustc_parse_format.specs.Characters.{Text, is_align, after_first, begins_with, first}
use Rattle.rustc_parse_format.specs.Types.{Mode, Position, Implicit, Index, Named, Argument, Spec}
use Rattle.rustc_parse_format.specs.Marks.{Mark, Span, up_to, over_first}
use Rattle.rustc_parse_format.specs.Placeholder.{cut}
use Rattle.rustc_parse_format.specs.Meaning.{argument}
use Rattle.rustc_parse_format.specs.Faults.{Fault, map_fault, no_brace, brace_fill, MissingColon}
use Rattle.rustc_parse_format.specs.Faults.{LateAlign, Grouping, DebugPrint, LateSign, FieldAccess}
use Rattle.rustc_parse_format.specs.Faults.{TupleIndex}
use Rattle.rustc_parse_format.specs.PartFaults.{cut_faults, word_faults}
use Rattle.rustc_parse_format.specs.Identifiers.{is_identifier}
use Rattle.rustc_parse_format.specs.Recovery.{Recovery, recovery, field, field_fault, late_debug}
use Rattle.rustc_parse_format.specs.Recovery.{sign, sign_fault}
use Rattle.rustc_parse_format.specs.Call.{unclosed_fault}
use Rattle.rustc_parse_format.specs.ReadBack.{IsForward, left_at, optional_list, spans_of_spec}
use Rattle.rustc_parse_format.proofs.Grammar.Rests.{IsRest-le, after_first_rest}
use Rattle.rustc_parse_format.proofs.Spans.Forward.{AreForward, cut_faults-forward, cut-spec_at}
use Rattle.rustc_parse_format.proofs.Spans.Forward.{word_faults-forward, up_to-forward}
use Rattle.rustc_parse_format.proofs.Spans.Forward.{through-forward, all-append}
use Rattle.fault_fixes.proofs.Moving.{faults-fixed}
use Prim.Native.Char.{code}

-- Two choices by one test.
pub cond_alike : {A : Type 0} (b : Bool) (x y u v : A) (R : A → A → Type 0)
    → (b ≡ true → R x u) → (b ≡ false → R y v) → R (cond b x y) (cond b u v)
cond_alike true x y u v R f g = f refl
cond_alike false x y u v R f g = g refl

-- How spans move, where n characters are left after the edit: what is there stays, the opening
-- brace o becomes the opening brace p, and the mark m before the edit becomes q.
pub record Moves (n : ℕ) (move : Span → Span) (o p : Text) (m q : Mark) : Type 0 where
  pub stays : (s : Span) → IsForward n s → move s ≡ s
  pub opens : move (over_first o) ≡ over_first p
  pub starts : (e : Mark) → left_at e ≤ n
      → move (record { from = m; to = e }) ≡ record { from = q; to = e }

-- The recoveries find the same faults, moved, and end alike.
pub record Alike (move : Span → Span) (x y : Recovery) : Type 0 where
  pub faults : y.faults ≡ map (map_fault move) x.faults
  pub rest : y.rest ≡ x.rest
  pub next : y.next ≡ x.next

field_fault-moved : (move : Span → Span) (a : Position) (s u : Span) → move s ≡ u
    → field_fault a u ≡ map (map_fault move) (field_fault a s)
field_fault-moved move (Named w) s u e = ap (λ x. FieldAccess x ∷ []) (sym e)
field_fault-moved move (Index k) s u e = ap (λ x. TupleIndex x ∷ []) (sym e)
field_fault-moved move (Implicit k) s u e = refl

field-alike : (n c : ℕ) (mode : Mode) (move : Span → Span) (o p : Text) (m q : Mark) (t : Text)
    → Moves n move o p m q → length t ≤ n → Alike move (field mode c m t) (field mode c q t)
unfolding field argument
field-alike n c mode move o p m q t h l =
    let u : Text = after_first t in
    let a = cut mode u in
    let f = argument c a in
    let less : length u ≤ length t = IsRest-le (after_first_rest t) in
    let ends : length a.spec_at ≤ n = omega (arith, less, l, cut-spec_at mode u) in
    let kept : map (map_fault move) (cut_faults mode a) ≡ cut_faults mode a =
    faults-fixed n move h.stays (cut_faults mode a)
    (cut_faults-forward n mode u (omega (arith, less, l))) in
    record {
      faults = ap (λ x. cut_faults mode a ++ x) (cond_alike {A = List (Fault Span)}
          (begins_with 125 a.rest) _ _ _ _ (λ x y. y ≡ map (map_fault move) x)
          (λ e. field_fault-moved move f.position _ _ (h.starts f.position_span.to ends))
          (λ e. refl))
          ∙ ap (λ x. x ++ map (map_fault move) (cond (begins_with 125 a.rest)
          (field_fault f.position (record { from = m; to = f.position_span.to })) [])) (sym kept)
          ∙ sym (map-append (map_fault move) (cut_faults mode a) _);
      rest = refl;
      next = refl;
    }

late_debug-alike : (n c : ℕ) (move : Span → Span) (t : Text)
    → ((s : Span) → IsForward n s → move s ≡ s) → length t ≤ n
    → Alike move (late_debug c t) (late_debug c t)
unfolding late_debug
late_debug-alike n c move t h l =
    let w : Text = after_first (after_first t) in
    let less : length w ≤ length t =
    omega (
      arith,
      IsRest-le (after_first_rest t),
      IsRest-le (after_first_rest (after_first t)),
    ) in
    cond_both {A = Recovery} (begins_with 58 (after_first t)) _ _ (λ k. Alike move k k)
    (λ e. record {
      faults = sym (faults-fixed n move h _ (all-append _ (word_faults w) _
          (word_faults-forward n w (omega (arith, less, l)))
          ((through-forward n t t (omega arith) l, tt), tt)));
      rest = refl;
      next = refl;
    })
    (λ e. record { faults = refl; rest = refl; next = refl })

sign-alike : (n c x y : ℕ) (move : Span → Span) (o p : Text) (m q : Mark) (t : Text)
    → Moves n move o p m q → length t ≤ n →
    Alike move (sign c (sign_fault x y (over_first t) (over_first o)) t)
    (sign c (sign_fault x y (over_first t) (over_first p)) t)
sign-alike n c x y move o p m q t h l =
    let here : move (over_first t) ≡ over_first t = h.stays (over_first t)
    (through-forward n t t (omega arith) l) in
    let R = λ (f g : Option (Fault Span)). Alike move (sign c f t) (sign c g t) in
    cond_alike {A = Option (Fault Span)} (is_align x) _ _ _ _ R
    (λ e. record { faults = ap (λ s. LateAlign x s ∷ []) (sym here); rest = refl; next = refl })
    (λ e. cond_alike {A = Option (Fault Span)} (x == 44) _ _ _ _ R
    (λ e. record { faults = two (sym here) (sym h.opens); rest = refl; next = refl })
    (λ e. cond_alike {A = Option (Fault Span)} (x == 43) _ _ _ _ R
    (λ e. record { faults = ap (λ s. LateSign s ∷ []) (sym here); rest = refl; next = refl })
    (λ e. cond_alike {A = Option (Fault Span)} (x == 61 && y == 125) _ _ _ _ R
    (λ e. record { faults = both (sym here) (sym h.opens); rest = refl; next = refl })
    (λ e. cond_alike {A = Option (Fault Span)} (x == 63 && y == 125) _ _ _ _ R
    (λ e. record { faults = ap (λ s. MissingColon s ∷ []) (sym here); rest = refl; next = refl })
    (λ e. record { faults = refl; rest = refl; next = refl })))))
  where
    two : {a b u v : Span} → a ≡ b → u ≡ v → Grouping a u ∷ [] ≡ Grouping b v ∷ []
    two e f = cc

    both : {a b u v : Span} → a ≡ b → u ≡ v → DebugPrint a u ∷ [] ≡ DebugPrint b v ∷ []
    both e f = cc

-- The recoveries of two arguments that differ in where they start.
pub recovery-alike : (n c : ℕ) (mode : Mode) (move : Span → Span) (o p : Text) (a b : Argument Span)
    (t : Text) → Moves n move o p a.position_span.from b.position_span.from → length t ≤ n
    → is_identifier b ≡ is_identifier a →
    Alike move (recovery mode c o a t) (recovery mode c p b t)
unfolding recovery
recovery-alike n c mode move o p a b [] h l e = record { faults = refl; rest = refl; next = refl }
recovery-alike n c mode move o p a b (x ∷ []) h l e =
    record { faults = refl; rest = refl; next = refl }
recovery-alike n c mode move o p a b (x ∷ y ∷ t) h l e =
    rw e (cond_alike {A = Recovery} (x == 46 && is_identifier a) _ _ _ _ (Alike move)
    (λ d. field-alike n c mode move o p a.position_span.from b.position_span.from (x ∷ y ∷ t) h l)
    (λ d. cond_alike {A = Recovery} (x == 63 && not (y == 125)) _ _ _ _ (Alike move)
    (λ f. late_debug-alike n c move (x ∷ y ∷ t) h.stays l)
    (λ f. sign-alike n c x y move o p a.position_span.from b.position_span.from (x ∷ y ∷ t) h l)))

-- The fault of the missing brace.
no_brace-moved : (n : ℕ) (move : Span → Span) (o p : Span) (f : Option Span) (c : Option ℕ)
    (s : Span) → ((s : Span) → IsForward n s → move s ≡ s) → move o ≡ p
    → AreForward n (optional_list f)
    → IsForward n s → no_brace f c s p ≡ map_fault move (no_brace f c s o)
no_brace-moved n move o p None c s h e k l = let d = h s l in cc
no_brace-moved n move o p (Some f) c s h e k l = let d = h s l in let b = h f k.0 in cc

brace-forward : (n : ℕ) (fill : Option ℕ) (s : Option Span) → AreForward n (optional_list s)
    → AreForward n (optional_list (brace_fill fill s))
brace-forward n None s h = tt
brace-forward n (Some c) s h = cond_both {A = Option Span} (c == code "}") s None
    (λ o. AreForward n (optional_list o)) (λ yes. h) (λ no. tt)

first-part : (n : ℕ) (a b c d e f : List Span) → AreForward n (a ++ b ++ c ++ d ++ e ++ f)
    → AreForward n a
first-part n [] b c d e f h = tt
first-part n (x ∷ a) b c d e f h = (h.0, first-part n a b c d e f h.1)

pub unclosed_fault-moved : (n : ℕ) (move : Span → Span) (o p : Text) (m q : Mark) (f : Spec Span)
    (r : Text) → Moves n move o p m q → AreForward n (spans_of_spec f) → length r ≤ n →
    unclosed_fault p f r ≡ map_fault move (unclosed_fault o f r)
unclosed_fault-moved n move o p m q f r h k l =
    no_brace-moved n move (over_first o) (over_first p) (brace_fill f.fill f.fill_span) (first r)
    (up_to r r) h.stays h.opens
    (brace-forward n f.fill f.fill_span (first-part n (optional_list f.fill_span) _ _ _ _ _ k))
    (up_to-forward n r r (omega arith) l)
