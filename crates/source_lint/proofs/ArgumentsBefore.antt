-- The arguments of a call that start before a token, among other tokens.
use Rattle.std.proofs.Common.{◌≡◌, ◌<◌, ◌≤◌, ◌+◌, ◌⊎◌, ℕ, Bool, true, false, List, [], ◌∷◌}
use Rattle.std.proofs.Common.{inl, inr, refl, ap, sym, subst, ◌∙◌, arith, map}
use Rattle.std.specs.Prelude.{min, nat_lt, if◌then◌else◌}
use Rattle.std.specs.List.{AllByRecursion}
use Rattle.std.proofs.lemmas.Bool.{cases_lt, le-ltb, lt-ltb}
use Rattle.format_calls.specs.declared.split.Argument.{Argument}
use Rattle.call_forms.proofs.MovedArguments.{LiesIn, less-same, shifted}
use Rattle.source_lint.specs.Readings.{arguments_before}

-- The arguments that start before a token, and where the last of them ends.
kept : (g end : ℕ) (a : Argument) → shifted g (record {
  start = a.start;
  end = min a.end end;
  is_named = a.is_named;
}) ≡ record { start = g + a.start; end = min (g + a.end) (g + end); is_named = a.is_named }
kept g end a =
    let e : g + min a.end end ≡ min (g + a.end) (g + end) = omega arith in
    ap (λ v. record { start = g + a.start; end = v; is_named = a.is_named }) e

pub before-at : (g end : ℕ) (bs : List Argument)
    → arguments_before (g + end) (map (shifted g) bs) ≡ map (shifted g) (arguments_before end bs)
before-at g end [] = refl
before-at g end (a ∷ bs) =
    ap (λ t. if t then record {
      start = g + a.start;
      end = min (g + a.end) (g + end);
      is_named = a.is_named;
    } ∷ arguments_before (g + end) (map (shifted g) bs) else []) (less-same g a.start end)
    ∙ by_place (nat_lt a.start end) (before-at g end bs)
  where
    by_place : (t : Bool) → arguments_before (g + end) (map (shifted g) bs)
        ≡ map (shifted g) (arguments_before end bs) → (if t then record {
          start = g + a.start;
          end = min (g + a.end) (g + end);
          is_named = a.is_named;
        } ∷ arguments_before (g + end) (map (shifted g) bs) else [])
        ≡ map (shifted g) (if t then record {
          start = a.start;
          end = min a.end end;
          is_named = a.is_named;
        } ∷ arguments_before end bs else [])
    by_place true again =
        ap (λ v. v ∷ arguments_before (g + end) (map (shifted g) bs)) (sym (kept g end a))
        ∙ ap (λ vs. shifted g (record {
          start = a.start;
          end = min a.end end;
          is_named = a.is_named;
        }) ∷ vs) again
    by_place false again = refl

pub before-lie : (from to end : ℕ) (bs : List Argument) → AllByRecursion (λ a. LiesIn from to a) bs
    → AllByRecursion (λ a. LiesIn from to a) (arguments_before end bs)
before-lie from to end [] l = tt
before-lie from to end (a ∷ bs) l =
    by_place (cases_lt a.start end) (before-lie from to end bs l.1)
  where
    by_place : (a.start < end) ⊎ (end ≤ a.start)
        → AllByRecursion (λ a. LiesIn from to a) (arguments_before end bs)
        → AllByRecursion (λ a. LiesIn from to a) (arguments_before end (a ∷ bs))
    by_place (inl h) again =
        let r = l.0.rises in
        let t = l.0.ends in
        subst (λ t. AllByRecursion (λ a. LiesIn from to a) (if t then record {
          start = a.start;
          end = min a.end end;
          is_named = a.is_named;
        } ∷ arguments_before end bs else [])) (sym (lt-ltb a.start end h)) (
          record {
            starts = l.0.starts;
            stops = l.0.stops;
            rises = omega (arith, r, h);
            ends = omega (arith, t);
          },
          again,
        )
    by_place (inr h) again =
        subst (λ t. AllByRecursion (λ a. LiesIn from to a) (if t then record {
          start = a.start;
          end = min a.end end;
          is_named = a.is_named;
        } ∷ arguments_before end bs else [])) (sym (le-ltb a.start end h)) tt

-- All arguments of a list start before its end.
pub before-all : (from to : ℕ) (bs : List Argument) → AllByRecursion (λ a. LiesIn from to a) bs
    → arguments_before to bs ≡ bs
before-all from to [] l = refl
before-all from to (a ∷ bs) l =
    let t = l.0.ends in
    let s = l.0.stops in
    let e : min a.end to ≡ a.end = omega (arith, t) in
    ap (λ t. if t then record { start = a.start; end = min a.end to; is_named = a.is_named }
    ∷ arguments_before to bs else []) (lt-ltb a.start to s)
    ∙ (ap (λ v. record { start = a.start; end = v; is_named = a.is_named }
    ∷ arguments_before to bs) e
    ∙ ap (λ vs. a ∷ vs) (before-all from to bs l.1))
