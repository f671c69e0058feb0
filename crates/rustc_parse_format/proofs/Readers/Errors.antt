-- How faults are added to a list of errors: at its start and at its end.
use Rattle.std.proofs.Common.{◌≡◌, ◌≤◌, ◌+◌, ◌++◌, Bool, true, false, cond, not, ℕ, List, [], ◌∷◌}
use Rattle.std.proofs.Common.{length, drop, take, map, reverse, refl, sym, ap, ◌∙◌, arith, suc}
use Rattle.std.proofs.Common.{Option, None, Some, IsNone, MatchOption}
use Rattle.std.proofs.Common.{append_assoc, length-append}
use Rattle.std.specs.List.{filter}
use Rattle.std.proofs.lemmas.List.Elements.{filter-append}
use Rattle.std.proofs.lemmas.List.Sums.{count_by-le-length, length-filter}
use Rattle.std.proofs.lemmas.List.{append-nil, drop-append-le, drop-drop, drop-map, drop-take}
use Rattle.std.proofs.lemmas.List.{drop_at, length-map, length-reverse, map-append, reverse-append}
use Rattle.std.proofs.lemmas.List.{take-map, take_at}
use Rattle.std.proofs.lemmas.Bool.{ltb-false, ltb-true}
use Rattle.std.proofs.lemmas.List.{drop_more}
use Rattle.std.proofs.Math.ListN.{drop_of_length-le}
use Rattle.std.proofs.Math.Seq.{drop-nil, set-append_seam}
use Rattle.std.specs.Slice.{IsItemAt}
use denote.Ref.{Bor}
use Rattle.rustc_parse_format.specs.declared.faults.Fault.{Fault as DeclaredFault}
use Rattle.rustc_parse_format.specs.Faults.{Fault, Message, message, is_front, add_errors, Keeps}
use Rattle.rustc_parse_format.specs.FaultViews.{seen_fault, seen_faults}

-- an error at the back, and errors from one place to another
pub ruleset list_ends = (map-append, set-append_seam)

pub ruleset list_parts = (drop-take, drop-drop, take-map, drop-map)

pub at_back : {X Y : Type 0} (f : X → Y) (n : ℕ) (old new : List X) (y : Y) → n ≤ length old
    → map f new ≡ map f old ++ y ∷ [] → map f (drop n new) ≡ map f (drop n old) ++ y ∷ []
at_back f n old new y few e =
    sym (drop-map f n new) ∙ ap (drop n) e
    ∙ drop-append-le n (map f old) (y ∷ []) (rw (length-map old f) few)
    ∙ ap (λ ys. ys ++ y ∷ []) (drop-map f n old)

one_more : {F M : Type 0} (m : F → M) (b : Bool) (f : F) (fronts backs : List F) (old : List M)
    → reverse (map m fronts) ++ cond b (m f ∷ old) (old ++ m f ∷ []) ++ map m backs
    ≡ reverse (map m (cond b (f ∷ fronts) fronts)) ++ old ++ map m (cond (not b) (f ∷ backs) backs)
one_more m true f fronts backs old =
    rw (
      reverse-append (m f ∷ []) (map m fronts),
      append_assoc (reverse (map m fronts)) (m f ∷ []) old,
    ) refl
one_more m false f fronts backs old =
    rw (
      append_assoc (reverse (map m fronts)) (old ++ m f ∷ []) (map m backs),
      append_assoc old (m f ∷ []) (map m backs),
    )
    (sym (append_assoc (reverse (map m fronts)) old (m f ∷ map m backs)))

-- Those of the front stand in front, the last found first, and the others after the older errors,
-- in the order found.
pub add_errors-ends : {A : Type 0} (old : List (Message A)) (fs : List (Fault A))
    → add_errors old fs ≡ reverse (map message (filter is_front fs)) ++ old
    ++ map message (filter (λ f. not (is_front f)) fs)
add_errors-ends old [] = sym (append-nil old)
add_errors-ends old (f ∷ fs) =
    add_errors-ends (cond (is_front f) (message f ∷ old) (old ++ message f ∷ [])) fs
    ∙ one_more message (is_front f) f (filter is_front fs) (filter (λ g. not (is_front g)) fs) old

-- Faults are added one after the other,
pub add_errors-append : {A : Type 0} (old : List (Message A)) (fs gs : List (Fault A))
    → add_errors old (fs ++ gs) ≡ add_errors (add_errors old fs) gs
add_errors-append old [] gs = refl
add_errors-append old (f ∷ fs) gs =
    add_errors-append (cond (is_front f) (message f ∷ old) (old ++ message f ∷ [])) fs gs

-- and what was there stands after those of the front.
pub add_errors-kept : {A : Type 0} (old : List (Message A)) (fs : List (Fault A))
    → (length (filter is_front fs) + length old ≤ length (add_errors old fs))
    × (take (length old) (drop (length (filter is_front fs)) (add_errors old fs)) ≡ old)
add_errors-kept {A = A} old fs =
    let front = reverse (map message (filter is_front fs)) in
    let back = map message (filter (λ f. not (is_front f)) fs) in
    let n : length front ≡ length (filter is_front fs) =
    length-reverse (map message (filter is_front fs)) ∙ length-map (filter is_front fs) message in
    rw (add_errors-ends old fs, append_assoc front old back) (
      omega (arith, n, length-append front (old ++ back), length-append old back),
      ap (take (length old)) (drop_at front (old ++ back) _ n) ∙ take_at old back (length old) refl,
    )

pub few_fronts : {A : Type 0} (fs : List (Fault A)) → length (filter is_front fs) ≤ length fs
few_fronts fs = rw (length-filter is_front fs) (count_by-le-length is_front fs)

-- Some of the faults are added, and others are left.
pub record Added {A : Type 0} (found left : List (Fault A)) (old new : List (Message A)) (n : ℕ)
    : Type 0 where
  pub done : List (Fault A)
  pub parts : found ≡ done ++ left
  pub errors : new ≡ add_errors old done
  pub fronts : n ≡ length (filter is_front done)

pub added-start : {A : Type 0} (fs : List (Fault A)) (old : List (Message A))
    → Added fs fs old old 0
added-start fs old = record { done = []; parts = refl; errors = refl; fronts = refl }

-- The next one is added too.
pub added-more : {A : Type 0} (found left more : List (Fault A)) (old at new : List (Message A))
    (f : Fault A) (n m : ℕ)
    → Added found left old at n → left ≡ f ∷ more → new ≡ add_errors at (f ∷ [])
    → m ≡ length (filter is_front (f ∷ [])) → Added found more old new (n + m)
added-more found left more old at new f n m a l e k =
    record {
      done = a.done ++ f ∷ [];
      parts = a.parts ∙ ap (λ x. a.done ++ x) l ∙ sym (append_assoc a.done (f ∷ []) more);
      errors = e ∙ ap (λ x. add_errors x (f ∷ [])) a.errors
          ∙ sym (add_errors-append old a.done (f ∷ []));
      fronts = ap (λ x. x + m) a.fronts ∙ ap (λ x. length (filter is_front a.done) + x) k
          ∙ sym (ap length (filter-append is_front a.done (f ∷ []))
          ∙ length-append (filter is_front a.done) (filter is_front (f ∷ [])));
    }

-- The earlier errors are kept.
pub added-kept : {A : Type 0} (found left : List (Fault A)) (old new : List (Message A)) (n : ℕ)
    → Added found left old new n
    → (n + length old ≤ length new) × (take (length old) (drop n new) ≡ old)
added-kept found left old new n a = rw (a.errors, a.fronts) (add_errors-kept old a.done)

-- No more errors are added at the front than there are faults.
pub added-few : {A : Type 0} (found left : List (Fault A)) (old new : List (Message A)) (n : ℕ)
    → Added found left old new n → n + length left ≤ length found
added-few found left old new n a =
    rw (a.parts, length-append a.done left, a.fronts) (omega (arith, few_fronts a.done))

pub add_errors-keeps : {A : Type 0} (old : List (Message A)) (fs : List (Fault A))
    → Keeps old (add_errors old fs)
add_errors-keeps old fs =
    let front = reverse (map message (filter is_front fs)) in
    let back = map message (filter (λ f. not (is_front f)) fs) in
    (front, back, add_errors-ends old fs ∙ append_assoc front old back)

-- A fault after the first two, by its index among those,
later_fault : (fs : List DeclaredFault) (i : ℕ) (x : Option (Bor DeclaredFault)) → IsItemAt fs i x
    → MatchOption x (drop i (map seen_fault fs) ≡ [])
    (λ f. drop i (map seen_fault fs) ≡ seen_fault f.now ∷ drop (i + 1) (map seen_fault fs))
later_fault fs i None h =
    rw (drop-map seen_fault i fs)
    (ap (map seen_fault) (drop_of_length-le fs (ltb-false i (length fs) (sym h.0))))
later_fault fs i (Some f) h =
    rw (drop-map seen_fault i fs, drop-map seen_fault (i + 1) fs)
    (ap (map seen_fault) (drop_more fs i f.now (ltb-true i (length fs) (sym h.0)))
    ∙ ap (λ g. seen_fault g ∷ map seen_fault (drop (i + 1) fs)) (sym h.1))

after_two : (f g : DeclaredFault) (fs : List DeclaredFault) (i n : ℕ) → n ≡ i + 2
    → drop n (seen_faults (Some f) (Some g) fs) ≡ drop i (map seen_fault fs)
after_two f g fs i n e = let two : n ≡ suc (suc i) = omega (arith, e) in rw two refl

-- and by its index among all.
pub fault_at : (f g : Option DeclaredFault) (fs : List DeclaredFault) (i n : ℕ)
    (x : Option (Bor DeclaredFault)) → (IsNone f → IsNone g) × (IsNone g → fs ≡ []) → n ≡ i + 2
    → IsItemAt fs i x → (let all = seen_faults f g fs in MatchOption x (drop n all ≡ [])
    (λ f. drop n all ≡ seen_fault f.now ∷ drop (n + 1) all))
fault_at None g fs i n None p e h = drop-nil n
fault_at None g fs i n (Some f) p e h =
    absurd (omega (arith, ltb-true i (length fs) (sym h.0), ap length (p.1 (p.0 refl))))
fault_at (Some f) None fs i n None p e h =
    let two : n ≡ suc (suc i) = omega (arith, e) in rw two refl
fault_at (Some f) None fs i n (Some g) p e h =
    absurd (omega (arith, ltb-true i (length fs) (sym h.0), ap length (p.1 refl)))
fault_at (Some f) (Some g) fs i n None p e h =
    after_two f g fs i n e ∙ later_fault fs i None h
fault_at (Some f) (Some g) fs i n (Some x) p e h =
    rw (after_two f g fs i n e, after_two f g fs (i + 1) (n + 1) (omega (arith, e)))
    (later_fault fs i (Some x) h)
