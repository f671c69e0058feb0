-- A report consists of its four lists.
use Rattle.std.proofs.Common.{◌≡◌, ℕ, ◌<◌, ◌≤◌, Bool, true, false, not, ◌&&◌, List, [], ◌∷◌, map}
use Rattle.std.proofs.Common.{refl, ◌∙◌}
use denote.Ref.{Bor}
use Rattle.std.specs.Bool.{Decides}
use Rattle.std.specs.BTreeSet.{BTreeSet}
use Rattle.std.specs.List.{Contains, filter, list_any}
use Rattle.std.specs.Str.{bytes_eq}
use Rattle.std.proofs.lemmas.Bool.Decides.{Decides-at, not_from_Decides}
use Rattle.placeholder_check.specs.declared.uses.Uses.{Uses}
use Rattle.rustc_parse_format.specs.Characters.{Text}
use Rattle.rustc_parse_format.specs.Types.{Count, Is, Name, Param, Star, Implied, Piece, Lit}
use Rattle.rustc_parse_format.specs.Types.{NextArgument, bare_piece, bare_count}
use Rattle.placeholder_check.specs.Uses.{Use, ByIndex, count_uses, used_names, uses}
use Rattle.placeholder_check.specs.Entries.{AreFirsts, Lists}
use Rattle.placeholder_check.specs.Report.{IsReport}
use Rattle.placeholder_check.specs.Collection.{Holds, is_among, is_known, is_noted}
use Rattle.placeholder_check.specs.Views.{texts}
use Rattle.placeholder_check.proofs.Numbers.{Lists-same}
use Rattle.placeholder_check.proofs.Lacked.{AreFirsts-lacked}
use Rattle.placeholder_check.proofs.Noting.{has_index-Decides}

pub reported : (us : List Use) (u : Uses) (later : BTreeSet (Bor (List ℕ))) (positional : ℕ)
    (names missing_name unused_name : List (Bor (List ℕ))) (missing_index unused_index : List ℕ) →
    Holds us u →
    ((t : Text) → is_among names later t ≡ list_any (bytes_eq t) (texts names)) →
    Lists (λ n. (positional ≤ n) × (is_noted u.indices n ≡ true)) missing_index →
    Lists (λ n. (n < positional) × (is_noted u.indices n ≡ false)) unused_index →
    texts missing_name ≡ filter (λ t. not (is_among names later t)) (texts u.names.list.items) →
    ((ys : List Text) → ((t : Text) → is_known u.names t ≡ list_any (bytes_eq t) ys)
    → AreFirsts (texts names) ys (texts unused_name)) →
    IsReport us positional (texts names)
    (record {
      missing_index = missing_index;
      missing_name = texts missing_name;
      unused_index = unused_index;
      unused_name = texts unused_name;
    })
reported us u later positional names missing_name unused_name missing_index unused_index held
    known kept lacked missing unused =
    let used : (n : ℕ) → Decides (is_noted u.indices n) (Contains us (ByIndex n)) =
    λ n. Decides-at _ _ (held.indices n) (has_index-Decides n us) in
    record {
      missing_index = Lists-same _ (λ n. (positional ≤ n) × Contains us (ByIndex n)) _
          (λ n. (λ h. (h.0, (used n).0 h.1), λ h. (h.0, (used n).1 h.1))) kept;
      unused_index = Lists-same _ (λ n. (n < positional) × (¬ Contains us (ByIndex n))) _
          (λ n. (
            λ h. (h.0, not_from_Decides _ (used n) h.1),
            λ h. (h.0, false_from _ (used n) h.1),
          )) lacked;
      missing_name = rw missing (AreFirsts-lacked (is_among names later) (texts names) known
          (used_names us) (texts u.names.list.items) held.names.firsts);
      unused_name = unused (used_names us) (λ t. held.names.same t
          ∙ and-true (list_any (bytes_eq t) (used_names us)));
    }
  where
    false_from : {P : Type 0} (r : Bool) → Decides r P → (¬ P) → r ≡ false
    false_from true d n = absurd (n (d.0 refl))
    false_from false d n = refl

    and-true : (b : Bool) → (b && true) ≡ b
    and-true true = refl
    and-true false = refl

-- Spans do not matter to the uses.
count_uses-bare : {A : Type 0} (k : Count A) → count_uses (bare_count k) ≡ count_uses k
count_uses-bare (Is n) = refl
count_uses-bare (Name w s) = refl
count_uses-bare (Param n) = refl
count_uses-bare (Star n) = refl
count_uses-bare Implied = refl

pub uses-bare : {A : Type 0} (ps : List (Piece A)) → uses (map bare_piece ps) ≡ uses ps
uses-bare [] = refl
uses-bare (Lit t ∷ ps) = uses-bare ps
uses-bare (NextArgument a ∷ ps) =
    rw (uses-bare ps, count_uses-bare a.format.width, count_uses-bare a.format.precision) refl
