-- A section of a text has a mark exactly if calls find a fault in it.
use Rattle.std.proofs.Common.{◌≡◌, ℕ, suc, zero, ◌++◌, ◌≤◌, Bool, true, false, cond}
use Rattle.std.proofs.Common.{List, [], ◌∷◌, length, refl, sym, arith}
use Rattle.std.proofs.Common.{append-nil, map}
use Rattle.std.specs.List.{AllByRecursion}
use Rattle.rustc_parse_format.specs.Call.{call}
use Rattle.rustc_parse_format.specs.Characters.{Text}
use Rattle.rustc_parse_format.specs.Faults.{Fault}
use Rattle.rustc_parse_format.specs.Marks.{Span}
use Rattle.rustc_parse_format.specs.Types.{Mode, wants_names}
use Rattle.rustc_parse_format.proofs.Walking.Progress.{call-lt}
use Rattle.format_tokens.specs.Sections.{Section, empty, has_fault, has_mark, in_front}
use Rattle.format_tokens.specs.Sections.{mark_section, opens, sections, sections_within}
use Rattle.format_tokens.specs.Tokens.{Label}
use Rattle.format_tokens.specs.Walk.{call_tokens}
use Rattle.format_tokens.proofs.CallMarks.{Front, Opened, front-call, front-empty, opened-call}

-- The first section, and the others.
head : List Section → Section
head [] = empty
head (s ∷ ss) = s

unfoldable pub tail : List Section → List Section
tail [] = []
tail (s ∷ ss) = ss

-- What is known of the sections from t on.
record Holds (names : Bool) (t : Text) (ss : List Section) : Type 0 where
  first : Front names t (cond (opens t) empty (head ss))
  others : AllByRecursion (Opened names) (cond (opens t) ss (tail ss))

-- The sections in front of which a call comes.
record Follows (names : Bool) (t : Text) (ss : List Section) : Type 0 where
  first : Front names t (head ss)
  others : AllByRecursion (Opened names) (tail ss)

follows : (names : Bool) (t : Text) (ss : List Section) → Holds names t ss
    → Follows names t (cond (opens t) (empty ∷ ss) ss)
unfolding head tail
follows names t ss h = by_test (opens t) h.first h.others
  where
    by_test : (v : Bool) → Front names t (cond v empty (head ss))
        → AllByRecursion (Opened names) (cond v ss (tail ss))
        → Follows names t (cond v (empty ∷ ss) ss)
    by_test true f a = record { first = f; others = a }
    by_test false f a = record { first = f; others = a }

front-first : (fs : List (Fault Span)) (ls : List Label) (ss : List Section) (P : Section → Type 0)
    → P (record { faults = fs ++ (head ss).faults; tokens = ls ++ (head ss).tokens })
    → P (head (in_front fs ls ss))
unfolding head
front-first fs ls [] P h = rw (sym (append-nil fs), sym (append-nil ls)) h
front-first fs ls (s ∷ ss) P h = h

front-tail : (fs : List (Fault Span)) (ls : List Label) (ss : List Section)
    → tail (in_front fs ls ss) ≡ tail ss
unfolding tail
front-tail fs ls [] = refl
front-tail fs ls (s ∷ ss) = refl

front-all : (fs : List (Fault Span)) (ls : List Label) (ss : List Section)
    → in_front fs ls ss ≡ head (in_front fs ls ss) ∷ tail (in_front fs ls ss)
unfolding head tail
front-all fs ls [] = refl
front-all fs ls (s ∷ ss) = refl

holds-nil : (names : Bool) → Holds names [] []
unfolding head tail
holds-nil names = record { first = front-empty names []; others = tt }

holds-call : (mode : Mode) (c b : ℕ) (t : Text) (xs : List Section)
    → Follows (wants_names mode) (call mode c (b ∷ t)).rest xs
    → Holds (wants_names mode) (b ∷ t) (in_front (call mode c (b ∷ t)).faults
    (call_tokens mode (b ∷ t) (call mode c (b ∷ t)).rest) xs)
holds-call mode c b t xs h = by_test (opens (b ∷ t)) refl
  where
    fs : List (Fault Span)
    fs = (call mode c (b ∷ t)).faults

    ls : List Label
    ls = call_tokens mode (b ∷ t) (call mode c (b ∷ t)).rest

    by_test : (v : Bool) → opens (b ∷ t) ≡ v → Holds (wants_names mode) (b ∷ t) (in_front fs ls xs)
    by_test true e = record {
      first = rw e (front-empty (wants_names mode) (b ∷ t));
      others = rw (e, front-all fs ls xs) (
        front-first fs ls xs (Opened (wants_names mode))
            (opened-call mode c b t (head xs) e h.first),
        rw (front-tail fs ls xs) h.others,
      );
    }
    by_test false e = record {
      first = rw e (front-first fs ls xs (Front (wants_names mode) (b ∷ t))
          (front-call mode (wants_names mode) c b t (head xs) e h.first));
      others = rw (e, front-tail fs ls xs) h.others;
    }

all-hold : (n : ℕ) (mode : Mode) (c : ℕ) (t : Text) → length t ≤ n
    → Holds (wants_names mode) t (sections_within n mode c t)
all-hold zero mode c [] h = holds-nil (wants_names mode)
all-hold zero mode c (b ∷ t) h = absurd (omega arith)
all-hold (suc n) mode c [] h = holds-nil (wants_names mode)
all-hold (suc n) mode c (b ∷ t) h =
    let k = call mode c (b ∷ t) in
    holds-call mode c b t _ (follows (wants_names mode) k.rest
    (sections_within n mode k.next k.rest) (all-hold n mode k.next k.rest
    (omega (arith, h, call-lt mode c (b ∷ t) (λ e. cc e)))))

-- So each section has a mark exactly if it has a fault.
marks-agree : (mode : Mode) (ss : List Section) → AllByRecursion (Opened (wants_names mode)) ss
    → AllByRecursion (λ (s : Section). has_mark s.tokens ≡ has_fault s.faults)
    (map (mark_section mode) ss)
marks-agree mode [] h = tt
marks-agree mode (s ∷ ss) h = (h.0.marks, marks-agree mode ss h.1)

holds-agree : (mode : Mode) (t : Text) (ss : List Section) → Holds (wants_names mode) t ss
    → AllByRecursion (λ (s : Section). has_mark s.tokens ≡ has_fault s.faults)
    (map (mark_section mode) ss)
unfolding head tail
holds-agree mode t [] h = tt
holds-agree mode t (s ∷ ss) h = by_test (opens t) h.first h.others
  where
    by_test : (v : Bool) → Front (wants_names mode) t (cond v empty s)
        → AllByRecursion (Opened (wants_names mode)) (cond v (s ∷ ss) ss)
        → AllByRecursion (λ (x : Section). has_mark x.tokens ≡ has_fault x.faults)
        (map (mark_section mode) (s ∷ ss))
    by_test true f a = marks-agree mode (s ∷ ss) a
    by_test false f a = (f.marks, marks-agree mode ss a)

holds-opened : (names : Bool) (t : Text) (ss : List Section) → Holds names t ss
    → AllByRecursion (Opened names) (tail ss)
unfolding tail
holds-opened names t [] h = tt
holds-opened names t (s ∷ ss) h = by_test (opens t) h.others
  where
    by_test : (v : Bool) → AllByRecursion (Opened names) (cond v (s ∷ ss) ss)
        → AllByRecursion (Opened names) ss
    by_test true a = a.1
    by_test false a = a

pub within-opened : (mode : Mode) (t : Text)
    → AllByRecursion (Opened (wants_names mode)) (tail (sections_within (length t) mode 0 t))
within-opened mode t = holds-opened (wants_names mode) t (sections_within (length t) mode 0 t)
    (all-hold (length t) mode 0 t (omega arith))

pub section-marks : (mode : Mode) (t : Text)
    → AllByRecursion (λ (s : Section). has_mark s.tokens ≡ has_fault s.faults) (sections mode t)
unfolding sections
section-marks mode t = holds-agree mode t (sections_within (length t) mode 0 t)
    (all-hold (length t) mode 0 t (omega arith))
