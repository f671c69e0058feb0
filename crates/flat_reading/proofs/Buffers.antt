-- The buffer of texts: the texts written there, which stay there.
use Rattle.std.proofs.Common.{◌≡◌, ℕ, ◌-◌, ◌≤◌, ◌++◌, List, [], ◌∷◌, Option, Some, None, length}
use Rattle.std.proofs.Common.{take, drop, sym, ap, ◌∙◌, append_assoc, arith}
use Rattle.std.proofs.Common.{length-append, length-take-le, take-append-drop, length-drop}
use Rattle.std.proofs.lemmas.List.{take-append-le, take-take}
use Rattle.std.proofs.lemmas.Slice.{between_is, take-put_mid, drop-put_mid, between-put_mid}
use borrow.Rule.Slice.PartMut.{put_mid}
use Rattle.rustc_parse_format.specs.Faults.{Message, Suggestion, Nothing, UsePositional}
use Rattle.rustc_parse_format.specs.Faults.{RemoveRawIdent, ReorderFormatParameter, AddMissingColon}
use Rattle.rustc_parse_format.specs.Faults.{UseRustDebugPrintingMacro}
use Rattle.rustc_parse_format.specs.World.{Place}
use Rattle.flat_reading.specs.declared.records.Extent.{Extent}
use Rattle.flat_reading.specs.declared.records.Fault.{Fault}
use Rattle.flat_reading.proofs.Lists.{still_after}
use Rattle.flat_reading.specs.ErrorRecords.{Extends, Grows, Holds, HoldsError, HoldsErrors}
use Rattle.flat_reading.specs.ErrorRecords.{HoldsMaybe}
use Rattle.flat_reading.specs.ErrorRecords.{HoldsSecond, HoldsSuggestion}

pub Extends-trans : (xs ys zs : List ℕ) → Extends xs ys → Extends ys zs → Extends xs zs
Extends-trans xs ys zs h k = (h.0 ++ k.0, k.1 ∙ ap (λ l. l ++ k.0) h.1 ∙ append_assoc xs h.0 k.0)

pub Extends-all : (n : ℕ) (xs : List ℕ) → Extends (take n xs) xs
Extends-all n xs = (drop n xs, sym (take-append-drop n xs))

pub Grows-trans : (a b c : List ℕ) (i j k : ℕ) → length b ≡ length a → Grows a b i j → Grows b c j k
    → Grows a c i k
Grows-trans a b c i j k e g h =
    let first = g.forward in
    let second = h.forward in
    record {
      forward = omega arith;
      front = λ fit. Extends-trans (take i a) (take j b) (take k c) (g.front (omega arith))
          (h.front (omega arith));
      rest_after = h.rest_after ∙ still_after b a j k second g.rest_after;
    }

-- a text that was put where there is room
pub put_grows : (old ys : List ℕ) (from to : ℕ) → from ≤ to → to ≤ length old
    → length ys ≡ to - from → Grows old (put_mid from (to - from) old ys) from to
put_grows old ys from to forward fit size = record {
  forward = forward;
  front = λ _. (ys, take-put_mid from (to - from) old ys to (omega arith) (omega arith));
  rest_after = drop-put_mid from (to - from) old ys to (omega arith) (omega arith) size;
}

put_length : (old ys : List ℕ) (from to : ℕ) → from ≤ to → to ≤ length old → length ys ≡ to - from
    → length (put_mid from (to - from) old ys) ≡ length old
put_length old ys from to forward fit size =
    let rest = drop (to - from) (drop from old) in
    omega (
      arith,
      length-append (take from old) (ys ++ rest),
      length-append ys rest,
      length-drop (to - from) (drop from old),
      length-drop from old,
      length-take-le from old (omega arith),
    )

pub put_holds : (old ys text : List ℕ) (from to : ℕ) → from ≤ to → to ≤ length old
    → length ys ≡ to - from → ys ≡ text →
    Holds (take to (put_mid from (to - from) old ys)) from to text
put_holds old ys text from to forward fit size e =
    let new = put_mid from (to - from) old ys in
    let long = put_length old ys from to forward fit size in
    record {
      within = omega (arith, length-take-le to new (omega (arith, long)));
      same = between_is (take to new) from to
          ∙ ap (λ l. drop from l) (take-take to to new (omega arith)) ∙ sym (between_is new from to)
          ∙ between-put_mid from (to - from) old ys to (omega arith) size ∙ e;
    }

pub Holds-grow : (xs ys : List ℕ) (from to : ℕ) (t : List ℕ) → Extends xs ys → Holds xs from to t
    → Holds ys from to t
Holds-grow xs ys from to t h k =
    let within = k.within in
    record {
      within = omega (arith, ap length h.1, length-append xs h.0);
      same = between_is ys from to ∙ ap (λ l. drop from (take to l)) h.1
          ∙ ap (λ l. drop from l) (take-append-le to xs h.0 within)
          ∙ sym (between_is xs from to) ∙ k.same;
    }

pub HoldsMaybe-grow : (xs ys : List ℕ) (has : ℕ) (r : Extent) (o : Option (List ℕ)) → Extends xs ys
    → HoldsMaybe xs has r o → HoldsMaybe ys has r o
HoldsMaybe-grow xs ys has r None h k = k
HoldsMaybe-grow xs ys has r (Some t) h k = (k.0, Holds-grow xs ys r.start r.end t h k.1)

pub HoldsSecond-grow : (xs ys : List ℕ) (has : ℕ) (r s : Extent) (o : Option (List ℕ × Place))
    → Extends xs ys → HoldsSecond xs has r s o
    → HoldsSecond ys has r s o
HoldsSecond-grow xs ys has r s None h k = k
HoldsSecond-grow xs ys has r s (Some x) h k = (k.0, Holds-grow xs ys r.start r.end x.0 h k.1, k.2)

pub HoldsSuggestion-grow : (xs ys : List ℕ) (n : ℕ) (s t : Extent) (g : Suggestion Place)
    → Extends xs ys → HoldsSuggestion xs n s t g
    → HoldsSuggestion ys n s t g
HoldsSuggestion-grow xs ys n s t Nothing h k = k
HoldsSuggestion-grow xs ys n s t UsePositional h k = k
HoldsSuggestion-grow xs ys n s t (RemoveRawIdent p) h k = k
HoldsSuggestion-grow xs ys n s t (ReorderFormatParameter p x) h k =
    (k.0, k.1, Holds-grow xs ys t.start t.end x h k.2)
HoldsSuggestion-grow xs ys n s t (AddMissingColon p) h k = k
HoldsSuggestion-grow xs ys n s t UseRustDebugPrintingMacro h k = k

HoldsError-grow : (xs ys : List ℕ) (f : Fault) (m : Message Place) → Extends xs ys
    → HoldsError xs f m → HoldsError ys f m
HoldsError-grow xs ys f m h k = record {
  description = Holds-grow xs ys _ _ _ h k.description;
  note = HoldsMaybe-grow xs ys f.has_note f.note m.note h k.note;
  label = Holds-grow xs ys _ _ _ h k.label;
  span = k.span;
  second = HoldsSecond-grow xs ys f.has_second_label f.second_label f.second_span m.second h
      k.second;
  suggestion =
      HoldsSuggestion-grow xs ys f.suggestion f.suggestion_span f.suggestion_text m.suggestion h
      k.suggestion;
}

pub HoldsErrors-grow : (xs ys : List ℕ) (fs : List Fault) (ms : List (Message Place))
    → Extends xs ys → HoldsErrors xs fs ms → HoldsErrors ys fs ms
HoldsErrors-grow xs ys [] [] h k = tt
HoldsErrors-grow xs ys [] (m ∷ ms) h k = absurd k
HoldsErrors-grow xs ys (f ∷ fs) [] h k = absurd k
HoldsErrors-grow xs ys (f ∷ fs) (m ∷ ms) h k =
    (HoldsError-grow xs ys f m h k.0, HoldsErrors-grow xs ys fs ms h k.1)

pub HoldsErrors-more : (xs : List ℕ) (fs : List Fault) (ms : List (Message Place)) (f : Fault)
    (m : Message Place) → HoldsErrors xs fs ms → HoldsError xs f m →
    HoldsErrors xs (fs ++ f ∷ []) (ms ++ m ∷ [])
HoldsErrors-more xs [] [] f m k h = (h, tt)
HoldsErrors-more xs [] (n ∷ ms) f m k h = absurd k
HoldsErrors-more xs (e ∷ fs) [] f m k h = absurd k
HoldsErrors-more xs (e ∷ fs) (n ∷ ms) f m k h = (k.0, HoldsErrors-more xs fs ms f m k.1 h)

pub Holds-is : (xs : List ℕ) (from to : ℕ) (t u : List ℕ) → t ≡ u → Holds xs from to t
    → Holds xs from to u
Holds-is xs from to t u e h = record { within = h.within; same = h.same ∙ e }
