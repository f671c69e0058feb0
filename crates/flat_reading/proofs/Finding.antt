-- Which calls found the errors. Some errors of a call go to the start of the list, the others to
-- its end.
use Rattle.std.proofs.Common.{◌≡◌, ℕ, zero, suc, ◌+◌, ◌-◌, ◌≤◌, ◌++◌, Bool, true, false, cond, List}
use Rattle.std.proofs.Common.{[], ◌∷◌, length, replicate, reverse, refl, sym}
use Rattle.std.proofs.Common.{ap, ◌∙◌, append_assoc, arith, add-one, length-append}
use Rattle.std.specs.List.{filter}
use Rattle.std.proofs.lemmas.List.{append-nil, length-map, reverse-append, replicate_more}
use Rattle.std.proofs.lemmas.List.{length-replicate}
use Rattle.rustc_parse_format.specs.Faults.{Fault, Message, add_errors, is_front, message}
use Rattle.rustc_parse_format.specs.World.{faults_in}
use Rattle.rustc_parse_format.specs.Call.{Call}
use Rattle.rustc_parse_format.specs.State.{State, state_after}
use Rattle.flat_reading.specs.Events.{add_finders}

pub length-add_errors : {A : Type 0} (old : List (Message A)) (fs : List (Fault A))
    → length (add_errors old fs) ≡ length old + length fs
length-add_errors old [] = omega arith
length-add_errors {A = A} old (f ∷ fs) = by_end (is_front f) (λ ms. length-add_errors ms fs)
  where
    by_end : (b : Bool)
        → ((ms : List (Message A)) → length (add_errors ms fs) ≡ length ms + length fs)
        → length (add_errors (cond b (message f ∷ old) (old ++ message f ∷ [])) fs)
        ≡ length old + length (f ∷ fs)
    by_end true h = omega (arith, h (message f ∷ old))
    by_end false h = omega (arith, h (old ++ message f ∷ []), length-append old (message f ∷ []))

pub length-after : (s : State) (k : Call) → length (state_after s k).errors
    ≡ length s.errors + length k.faults
length-after s k = length-add_errors s.errors (faults_in s.world k.faults)
    ∙ ap (λ n. length s.errors + n) (length-map k.faults _)

pub few_fronts : {A : Type 0} (fs : List (Fault A)) → length (filter is_front fs) ≤ length fs
few_fronts [] = omega arith
few_fronts (f ∷ fs) = by_end (is_front f) (few_fronts fs)
  where
    by_end : (b : Bool) → length (filter is_front fs) ≤ length fs
        → length (cond b (f ∷ filter is_front fs) (filter is_front fs)) ≤ length (f ∷ fs)
    by_end true h = omega arith
    by_end false h = omega arith

more_front : (n k m : ℕ) (old : List ℕ) → replicate k n ++ ((n ∷ old) ++ replicate m n)
    ≡ replicate (suc k) n ++ (old ++ replicate m n)
more_front n k m old =
    sym (append_assoc (replicate k n) (n ∷ []) (old ++ replicate m n))
    ∙ ap (λ l. l ++ (old ++ replicate m n)) (replicate_more k n
    ∙ ap (λ j. replicate j n) (add-one k))

more_back : (n k m : ℕ) (old : List ℕ) → replicate k n ++ ((old ++ n ∷ []) ++ replicate m n)
    ≡ replicate k n ++ (old ++ replicate (suc m) n)
more_back n k m old = ap (λ l. replicate k n ++ l) (append_assoc old (n ∷ []) (replicate m n))

pub add_finders-is : {A : Type 0} (n : ℕ) (old : List ℕ) (fs : List (Fault A)) →
    add_finders n old fs ≡ replicate (length (filter is_front fs)) n
    ++ (old ++ replicate (length fs - length (filter is_front fs)) n)
add_finders-is n old [] = sym (append-nil old)
add_finders-is n old (f ∷ fs) = by_end (is_front f) (λ ms. add_finders-is n ms fs)
  where
    by_end : (b : Bool)
        → ((ms : List ℕ) → add_finders n ms fs ≡ replicate (length (filter is_front fs)) n
        ++ (ms ++ replicate (length fs - length (filter
        is_front fs)) n))
        → add_finders n (cond b (n ∷ old) (old ++ n ∷ [])) fs
        ≡ replicate (length (cond b (f ∷ filter is_front fs) (filter is_front fs))) n
        ++ (old ++ replicate (length (f ∷ fs) - length (cond b (f ∷ filter
        is_front fs) (filter is_front fs))) n)
    by_end true h =
        let k = length (filter is_front fs) in
        let e : length fs - k ≡ suc (length fs) - suc k = omega arith in
        h (n ∷ old) ∙ more_front n k (length fs - k) old
        ∙ ap (λ m. replicate (suc k) n ++ (old ++ replicate m n)) e
    by_end false h =
        let k = length (filter is_front fs) in
        let few = few_fronts fs in
        let e : suc (length fs - k) ≡ suc (length fs) - k = omega arith in
        h (old ++ n ∷ []) ∙ more_back n k (length fs - k) old
        ∙ ap (λ m. replicate k n ++ (old ++ replicate m n)) e

pub length-add_finders : {A : Type 0} (n : ℕ) (old : List ℕ) (fs : List (Fault A))
    → length (add_finders n old fs) ≡ length old + length fs
length-add_finders n old fs =
    let few = few_fronts fs in
    let k = length (filter is_front fs) in
    ap length (add_finders-is n old fs) ∙ omega (
      arith,
      length-append (replicate k n) (old ++ replicate (length fs - k) n),
      length-append old (replicate (length fs - k) n),
      length-replicate k n,
      length-replicate (length fs - k) n,
    )

-- Numbers that are put after two lists.
reverse-replicate : (k n : ℕ) → reverse (replicate k n) ≡ replicate k n
reverse-replicate zero n = refl
reverse-replicate (suc k) n =
    reverse-append (n ∷ []) (replicate k n) ∙ ap (λ l. l ++ n ∷ []) (reverse-replicate k n)
    ∙ replicate_more k n ∙ ap (λ j. replicate j n) (add-one k)

pub both_ends : (fronts backs f b : List ℕ) (n k m : ℕ) → f ≡ fronts ++ replicate k n
    → b ≡ backs ++ replicate m n →
    reverse f ++ b ≡ replicate k n ++ ((reverse fronts ++ backs) ++ replicate m n)
both_ends fronts backs f b n k m e g =
    ap (λ l. reverse l ++ b) e
    ∙ ap (λ l. l ++ b) (reverse-append fronts (replicate k n)
    ∙ ap (λ l. l ++ reverse fronts) (reverse-replicate k n))
    ∙ append_assoc (replicate k n) (reverse fronts) b
    ∙ ap (λ l. replicate k n ++ (reverse fronts ++ l)) g
    ∙ ap (λ l. replicate k n ++ l) (sym (append_assoc (reverse fronts) backs (replicate m n)))
