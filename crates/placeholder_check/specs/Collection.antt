-- The uses of arguments while they are collected.
use Rattle.std.specs.Prelude.{◌≡◌, ℕ, Bool, false, ◌||◌, ◌&&◌, ◌==◌, List, [], ◌++◌, get_or, not}
use Rattle.std.specs.Prelude.{take}
use Rattle.std.specs.BTreeSet.{BTreeSet, contains, contains_by}
use Rattle.std.specs.Ordering.{nat_cmp}
use Rattle.std.specs.Cmp.Lexicographic.{slice_cmp}
use Rattle.std.specs.List.{list_any}
use Rattle.std.specs.Str.{bytes_eq, encode_utf8_all}
use denote.Ref.{Bor}
use Rattle.rustc_parse_format.specs.Characters.{Text}
use Rattle.placeholder_check.specs.declared.indices.Indices.{Indices}
use Rattle.placeholder_check.specs.declared.names.Names.{Names}
use Rattle.placeholder_check.specs.declared.uses.Uses.{Uses}
use Rattle.placeholder_check.specs.Entries.{AreFirsts}
use Rattle.placeholder_check.specs.Uses.{Use, ByIndex, ByName, used_names}
use Rattle.placeholder_check.specs.Views.{texts}

-- The use is of this number.
abbrev pub is_index : ℕ → Use → Bool
is_index n (ByIndex m) = n == m
is_index n (ByName w) = false

-- This number is among the uses.
abbrev pub has_index : List Use → ℕ → Bool
has_index us n = list_any (is_index n) us

-- The set of indices has this number.
abbrev pub is_noted : Indices → ℕ → Bool
is_noted s n = get_or s.marks.items n false || contains nat_cmp s.others n

-- The set of names has this text.
abbrev pub has_text : BTreeSet (Bor (List ℕ)) → Text → Bool
has_text s t = contains_by (λ k. slice_cmp nat_cmp (encode_utf8_all t) k.now) s

-- This text is among names, of which the set has those after the first 16.
abbrev pub is_among : List (Bor (List ℕ)) → BTreeSet (Bor (List ℕ)) → Text → Bool
is_among ws s t = list_any (bytes_eq t) (texts (take 16 ws)) || has_text s t

-- This text is among the names.
abbrev pub is_known : Names → Text → Bool
is_known s t = is_among s.list.items s.later_set t

-- The names are those of the texts ts that ys does not have, each once, in the order of their first
-- entries.
pub record Follows (ts ys : List Text) (s : Names) : Type 0 where
  pub firsts : AreFirsts ts ys (texts s.list.items)
  pub same : (t : Text) → is_known s t
      ≡ (list_any (bytes_eq t) ts && not (list_any (bytes_eq t) ys))

-- The collection is as it was made: it has no use.
abbrev pub IsNew : Uses → Type 0
IsNew u = (u.indices.marks.items ≡ []) × (u.indices.others.keys ≡ [])
    × (u.indices.count ≡ 0) × (u.names.list.items ≡ [])

-- The collection has exactly these uses.
pub record Holds (us : List Use) (u : Uses) : Type 0 where
  pub indices : (n : ℕ) → is_noted u.indices n ≡ has_index us n
  pub names : Follows (used_names us) [] u.names

-- These uses were added to the collection.
pub record Adds (us : List Use) (old new : Uses) : Type 0 where
  pub indices : (n : ℕ) → is_noted new.indices n ≡ (is_noted old.indices n || has_index us n)
  pub names : (ts : List Text) → Follows ts [] old.names
      → Follows (ts ++ used_names us) [] new.names
