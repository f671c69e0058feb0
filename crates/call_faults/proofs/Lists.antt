-- Nothing is wrong with a list of arguments exactly if it is in order, and then all count.
use Rattle.std.proofs.Common.{◌≡◌, ℕ, suc, zero, ◌++◌, ◌<◌, Bool, true, false, not, ◌&&◌, ◌||◌}
use Rattle.std.proofs.Common.{List}
use Rattle.std.proofs.Common.{[], ◌∷◌, Option, Some, None, refl, sym, ap, ◌∙◌, arith, append_assoc}
use Rattle.std.proofs.Common.{cond, length, append-nil, get_or}
use Rattle.std.specs.Prelude.{is_some, ◌≢◌}
use Rattle.std.specs.Option.{option_map_or}
use Rattle.std.specs.List.{AllByRecursion, AllPairs, list_any}
use Rattle.std.specs.Str.{bytes_eq}
use Rattle.std.proofs.lemmas.Bool.{or_from, or_parts}
use Rattle.std.proofs.lemmas.Bool.Decides.{not_from_Decides}
use Rattle.std.proofs.lemmas.Bool.{false_from_ne_true}
use Rattle.std.proofs.lemmas.List.Elements.{All-from_recursion, recursion_from_All}
use Rattle.std.proofs.lemmas.List.Kept.{AllPairs-cons}
use Rattle.std.proofs.lemmas.Slice.Eq.{bytes_eq-Decides}
use Rattle.rustc_parse_format.specs.Characters.{Text}
use Rattle.call_faults.specs.Arguments.{FormatArgument, Entry, MayPrecede, first_of, has_name}
use Rattle.call_faults.specs.Arguments.{index_of}
use Rattle.call_faults.specs.Arguments.{is_late, kept_after, list_faults, repeated_name_faults}
use Rattle.call_faults.specs.Arguments.{with_given}
use Rattle.call_faults.specs.CallFaults.{CallFault, PositionalAfterNamed, RepeatedName}
use Rattle.call_faults.proofs.Empty.{else-nil, left-nil, right-nil}

-- order, by recursion on the list
abbrev pub InOrder : List FormatArgument → Type 0
InOrder [] = Unit {0}
InOrder (g ∷ gs) = AllByRecursion (λ h. MayPrecede g.name h.name) gs × InOrder gs

pub order-pairs : (gs : List FormatArgument) → InOrder gs
    → AllPairs (λ g h. MayPrecede g.name h.name) gs
order-pairs [] o = λ i j d a b. absurd (omega arith)
order-pairs (g ∷ gs) o = AllPairs-cons (λ g h. MayPrecede g.name h.name) g gs
    (All-from_recursion (λ h. MayPrecede g.name h.name) gs o.0) (order-pairs gs o.1)

pub pairs-order : (gs : List FormatArgument) → AllPairs (λ g h. MayPrecede g.name h.name) gs
    → InOrder gs
pairs-order [] o = tt
pairs-order (g ∷ gs) o = (
  recursion_from_All (λ h. MayPrecede g.name h.name) gs
      (λ k d b. o 0 (suc k) d (omega arith) (omega arith)),
  pairs-order gs (λ i j d a b. o (suc i) (suc j) d (omega arith) (omega arith)),
)

-- each of these may stand in front of an argument with this name, or none
abbrev pub Precede : List Entry → Option Text → Type 0
Precede ks n = AllByRecursion (λ k. MayPrecede k.argument.name n) ks

unnamed : (n : Option Text) → MayPrecede n None → is_some n ≡ false
unnamed None h = refl
unnamed (Some w) h = absurd h

precedes : (n : Option Text) → is_some n ≡ false → MayPrecede n None
precedes None e = tt
precedes (Some w) e = absurd cc

all-unnamed : (ks : List Entry) → Precede ks None
    → list_any (λ k. is_some k.argument.name) ks ≡ false
all-unnamed [] h = refl
all-unnamed (k ∷ ks) h = or_from (is_some k.argument.name) _ (unnamed k.argument.name h.0)
    (all-unnamed ks h.1)

unnamed-all : (ks : List Entry) → list_any (λ k. is_some k.argument.name) ks ≡ false
    → Precede ks None
unnamed-all [] e = tt
unnamed-all (k ∷ ks) e = let both = or_parts (is_some k.argument.name) _ e in
    (precedes k.argument.name both.0, unnamed-all ks both.1)

other : (n : Option Text) (w : Text) → MayPrecede n (Some w)
    → option_map_or (bytes_eq w) n false ≡ false
other None w h = refl
other (Some v) w h = false_from_ne_true (bytes_eq w v)
    (λ e. h (sym ((bytes_eq-Decides w v).0 e)))

other-precedes : (n : Option Text) (w : Text) → option_map_or (bytes_eq w) n false ≡ false
    → MayPrecede n (Some w)
other-precedes None w e = tt
other-precedes (Some v) w e = λ f. not_from_Decides (bytes_eq w v) (bytes_eq-Decides w v) e (sym f)

pub skipped : (b : Bool) (i : ℕ) (o : Option ℕ) → b ≡ false → cond b (Some i) o ≡ o
skipped true i o e = absurd cc
skipped false i o e = refl

not_found : (b : Bool) (i : ℕ) (o : Option ℕ) → cond b (Some i) o ≡ None
    → (b ≡ false) × (o ≡ None)
not_found true i o e = absurd cc
not_found false i o e = (refl, e)

no_index : (ks : List Entry) (w : Text) → Precede ks (Some w) → index_of ks w ≡ None
no_index [] w h = refl
no_index (k ∷ ks) w h =
    skipped (has_name w k.argument) k.index (index_of ks w) (other k.argument.name w h.0)
    ∙ no_index ks w h.1

index_none : (ks : List Entry) (w : Text) → index_of ks w ≡ None → Precede ks (Some w)
index_none [] w e = tt
index_none (k ∷ ks) w e =
    let both = not_found (has_name w k.argument) k.index (index_of ks w) e in
    (other-precedes k.argument.name w both.0, index_none ks w both.1)

-- an argument with nothing wrong
pub precede-clean : (ks : List Entry) (n v : Option Text) → Precede ks n
    → (is_late ks (record { name = n; variable = v }) ≡ false)
    × (first_of ks (record { name = n; variable = v }) ≡ None)
precede-clean ks None v h = (all-unnamed ks h, refl)
precede-clean ks (Some w) v h = (refl, no_index ks w h)

pub clean-precede : (ks : List Entry) (n v : Option Text)
    → is_late ks (record { name = n; variable = v }) ≡ false
    → first_of ks (record { name = n; variable = v }) ≡ None → Precede ks n
clean-precede ks None v e f = unnamed-all ks e
clean-precede ks (Some w) v e f = index_none ks w f

-- these arguments, with their indices from i on
abbrev pub numbered : ℕ → List FormatArgument → List Entry
numbered i [] = []
numbered i (g ∷ gs) = record { index = i; argument = g } ∷ numbered (suc i) gs

-- each argument of the second list may stand after each of the first
abbrev pub After : List Entry → List FormatArgument → Type 0
After ks gs = AllByRecursion (λ g. Precede ks g.name) gs

no_repeat : (i : ℕ) (o : Option ℕ) → repeated_name_faults i o ≡ [] → o ≡ None
no_repeat i None e = refl
no_repeat i (Some f) e = absurd (cc e)

kept-new : (ks : List Entry) (i : ℕ) (g : FormatArgument) → first_of ks g ≡ None
    → with_given ks i g ≡ ks ++ record { index = i; argument = g } ∷ []
kept-new ks i g e = ap (λ (o : Option ℕ). cond (is_some o) ks (ks ++ record {
  index = i;
  argument
      = g;
} ∷ [])) e

precede-split : (ks : List Entry) (k : Entry) (n : Option Text) → Precede (ks ++ k ∷ []) n
    → Precede ks n × MayPrecede k.argument.name n
precede-split [] k n h = (tt, h.0)
precede-split (l ∷ ks) k n h = let both = precede-split ks k n h.1 in ((h.0, both.0), both.1)

precede-join : (ks : List Entry) (k : Entry) (n : Option Text) → Precede ks n
    → MayPrecede k.argument.name n → Precede (ks ++ k ∷ []) n
precede-join [] k n h p = (p, tt)
precede-join (l ∷ ks) k n h p = (h.0, precede-join ks k n h.1 p)

rest_after-split : (ks : List Entry) (k : Entry) (gs : List FormatArgument)
    → After (ks ++ k ∷ []) gs
    → After ks gs × AllByRecursion (λ h. MayPrecede k.argument.name h.name) gs
rest_after-split ks k [] b = (tt, tt)
rest_after-split ks k (g ∷ gs) b =
    let here = precede-split ks k g.name b.0 in
    let there = rest_after-split ks k gs b.1 in
    ((here.0, there.0), (here.1, there.1))

rest_after-join : (ks : List Entry) (k : Entry) (gs : List FormatArgument) → After ks gs
    → AllByRecursion (λ h. MayPrecede k.argument.name h.name) gs → After (ks ++ k ∷ []) gs
rest_after-join ks k [] b a = tt
rest_after-join ks k (g ∷ gs) b a =
    (precede-join ks k g.name b.0 a.0, rest_after-join ks k gs b.1 a.1)

-- A list of arguments with nothing wrong.
pub record Faultless (ks : List Entry) (i : ℕ) (gs : List FormatArgument) : Type 0 where
  pub rest_after : After ks gs
  pub in_order : InOrder gs
  pub kept : kept_after ks i gs ≡ ks ++ numbered i gs

pub none-order : (ks : List Entry) (i : ℕ) (gs : List FormatArgument) → list_faults ks i gs ≡ []
    → Faultless ks i gs
none-order ks i [] e = record { rest_after = tt; in_order = tt; kept = sym (append-nil ks) }
none-order ks i (g ∷ gs) e =
    let first = else-nil (is_late ks g) _ _ _ e in
    let new : first_of ks g ≡ None = no_repeat i (first_of ks g) (left-nil _ _ first.1) in
    let more = kept-new ks i g new in
    let k : Entry = record { index = i; argument = g } in
    let later : list_faults (ks ++ k ∷ []) (suc i) gs ≡ []
    = ap (λ (l : List Entry). list_faults l (suc i) gs) (sym more) ∙ right-nil _ _ first.1 in
    let rest = none-order (ks ++ k ∷ []) (suc i) gs later in
    let both = rest_after-split ks k gs rest.rest_after in
    record {
      rest_after = (clean-precede ks g.name g.variable first.0 new, both.0);
      in_order = (both.1, rest.in_order);
      kept = ap (λ (l : List Entry). kept_after l (suc i) gs) more
          ∙ (rest.kept ∙ append_assoc ks (k ∷ []) (numbered (suc i) gs));
    }

pub order-none : (ks : List Entry) (i : ℕ) (gs : List FormatArgument) → After ks gs → InOrder gs
    → list_faults ks i gs ≡ []
order-none ks i [] b o = refl
order-none ks i (g ∷ gs) b o =
    let clean = precede-clean ks g.name g.variable b.0 in
    let k : Entry = record { index = i; argument = g } in
    let later = order-none (ks ++ k ∷ []) (suc i) gs (rest_after-join ks k gs b.1 o.0) o.1 in
    rw (clean.0, clean.1) later
