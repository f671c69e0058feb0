-- The effect of an edit on the faults: its own go, the others stay, and no other comes.
use Rattle.std.specs.Prelude.{◌≡◌, ℕ, ◌+◌, ◌-◌, nat_lt, if◌then◌else◌, List, [], ◌∷◌, map, ◌⊎◌}
use Rattle.std.specs.Prelude.{◌++◌, length, codes, IsFalse, Some}
use Rattle.rustc_parse_format.specs.Characters.{Text, begins_with, after_white}
use Rattle.rustc_parse_format.specs.Types.{Format}
use Rattle.rustc_parse_format.specs.Placeholder.{cut}
use Rattle.rustc_parse_format.specs.Meaning.{argument}
use Rattle.rustc_parse_format.specs.Call.{unclosed_fault}
use Rattle.fault_fixes.specs.Fixing.{all_faults}
use Rattle.rustc_parse_format.specs.Marks.{Mark, Start, End, Span, up_to, over_first, span_through}
use Rattle.rustc_parse_format.specs.Faults.{Fault, map_fault, MissingBrace, MissingColon, LateFlag}
use Rattle.rustc_parse_format.specs.Faults.{UnmatchedBrace}
use Prim.Native.Char.{code}

-- Where n characters are left after an edit that replaces so many characters by so many others,
-- how many are left in the edited text at a place where k are left.
abbrev pub moved_count : ℕ → ℕ → ℕ → ℕ → ℕ
moved_count n removed added k = if nat_lt n k then (k - removed) + added else k

-- A mark in the edited text.
abbrev pub moved_mark : ℕ → ℕ → ℕ → Mark → Mark
moved_mark n removed added (Start k) = Start (moved_count n removed added k)
moved_mark n removed added (End k) = End (moved_count n removed added k)

-- A span in the edited text.
abbrev pub moved_span : ℕ → ℕ → ℕ → Span → Span
moved_span n removed added s = record {
  from = moved_mark n removed added s.from;
  to = moved_mark n removed added s.to;
}

-- The last list has the members of the first two and no others, those of each in their order.
abbrev pub IsMerged : {A : Type 0} → List A → List A → List A → Type 0
IsMerged xs ys [] = (xs ≡ []) × (ys ≡ [])
IsMerged {A = A} xs ys (z ∷ zs) = ((us : List A) × (xs ≡ z ∷ us) × IsMerged us ys zs)
    ⊎ ((us : List A) × (ys ≡ z ∷ us) × IsMerged xs us zs)

-- Of the old faults those of `own` go. The others stay, with their spans moved, and are all of the
-- new faults.
pub record LosesOnly (own : List (Fault Span)) (move : Span → Span)
    (old new : List (Fault Span)) : Type 0 where
  pub others : List (Fault Span)
  pub are_all : IsMerged own others old
  pub stay : new ≡ map (map_fault move) others

-- Where u is between an opening brace and a `?`, and the closing brace after the `?` is followed by
-- r: the `?` becomes `:?`.
abbrev pub colon_moves : Text → Span → Span
colon_moves r = moved_span (length (codes "}" ++ r)) 1 2

-- The faults of the missing colon: the missing brace, the `?` in its place, and then the brace that
-- closes nothing.
abbrev pub colon_faults : Text → Text → List (Fault Span)
colon_faults u r =
    let at = codes "?}" ++ r in
    MissingBrace (Some (code "?")) (up_to at at) (over_first (codes "{" ++ u ++ at))
    ∷ MissingColon (over_first at) ∷ UnmatchedBrace (over_first (codes "}" ++ r)) ∷ []

-- Where u is between an opening brace and a colon, and s between the colon and the type `?`, which
-- is followed by the flag f and then z, up to a closing brace and r: the faults of the late flag,
-- the missing brace in front of it, and then the brace that closes nothing.
abbrev pub late_flag_faults : ℕ → Text → Text → ℕ → Text → Text → List (Fault Span)
late_flag_faults c u s f z r =
    let inside = u ++ (codes ":" ++ (s ++ (codes "?" ++ f ∷ z))) in
    LateFlag f (over_first (f ∷ z)) (span_through (codes "?" ++ f ∷ z) (f ∷ z))
    ∷ unclosed_fault (codes "{" ++ inside) (argument c (cut Format inside)).format (f ∷ z)
    ∷ UnmatchedBrace (over_first (codes "}" ++ r)) ∷ []

-- The flag f moves in front of the `?`: all spans stay. Between the colon and the `?` is what comes
-- before a part of a specification and no more, where `left` gives what is left of a text at that
-- part. Only white space is between the flag and the closing brace, and no second one follows.
abbrev pub MovesFlag : ℕ → (Text → Text) → Type 0
MovesFlag f left = (c : ℕ) (u s z r : Text) → (cut Format u).spec_at ≡ [] → left s ≡ []
    → after_white z ≡ codes "}" ++ r → IsFalse (begins_with (code "}") r) →
    LosesOnly (late_flag_faults c u s f z r) (λ x. x)
    (all_faults Format c (codes "{" ++ (u ++ (codes ":" ++ (s ++ (codes "?" ++ f ∷ z))))))
    (all_faults Format c (codes "{" ++ (u ++ (codes ":" ++ (s ++ (f ∷ (codes "?" ++ z)))))))
