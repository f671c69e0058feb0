-- The literal that the suggestions of its faults make of it, with fewer faults and no new ones.
use Rattle.std.specs.Prelude.{◌≡◌, ◌+◌, ◌<◌, ◌≤◌, ℕ, zero, suc, Bool, true, false, IsTrue, List, []}
use Rattle.std.specs.Prelude.{◌∷◌, Option, None, Some, chars, if◌then◌else◌, length, map, nat_lt}
use Rattle.std.specs.Str.{bytes_eq}
use Rattle.rustc_parse_format.specs.Call.{call}
use Rattle.rustc_parse_format.specs.Characters.{Text}
use Rattle.rustc_parse_format.specs.FaultIds.{fault_id}
use Rattle.rustc_parse_format.specs.Faults.{Fault}
use Rattle.rustc_parse_format.specs.Marks.{Span}
use Rattle.rustc_parse_format.specs.Types.{Mode}
use Rattle.fault_fixes.specs.Fixing.{FixedLiteral, IsRound, all_faults}

-- The ids of the faults of a text, in the order in which they are found.
abbrev pub ids : Mode → List ℕ → List (List ℕ)
ids mode text = map fault_id (all_faults mode 0 (chars text))

-- 1 if a call finds these faults, and 0 if there are none.
abbrev pub finds : List (Fault Span) → ℕ
finds [] = 0
finds (f ∷ fs) = 1

-- How many of the calls from t on find a fault, with at most n calls.
abbrev pub faulty_within : ℕ → Mode → ℕ → Text → ℕ
faulty_within n mode c [] = 0
faulty_within zero mode c (b ∷ t) = 0
faulty_within (suc n) mode c (b ∷ t) =
    let k = call mode c (b ∷ t) in
    finds k.faults + faulty_within n mode k.next k.rest

-- How many of all calls from t on find a fault. Each call reads a character.
unfoldable pub faulty_calls : Mode → ℕ → Text → ℕ
faulty_calls mode c t = faulty_within (length t) mode c t

-- How many of the calls of a parser over a text find a fault.
abbrev pub faulty_count : Mode → List ℕ → ℕ
faulty_count mode text = faulty_calls mode 0 (chars text)

-- The first list is the second one without some of its elements.
abbrev pub is_part : List (List ℕ) → List (List ℕ) → Bool
is_part [] ys = true
is_part (x ∷ xs) [] = false
is_part (x ∷ xs) (y ∷ ys) = if bytes_eq x y then is_part xs ys else is_part (x ∷ xs) ys

-- How many calls over a text find a fault, if all of these faults are old ones, in their order.
abbrev pub count_left : List (List ℕ) → Mode → List ℕ → Option ℕ
count_left old mode text = if is_part (ids mode text) old then Some
    (faulty_count mode text) else None

-- The literal that n rounds of edits lead to. The edits of a round may make others possible.
abbrev pub AreRounds : Mode → Option ℕ → Bool → ℕ → FixedLiteral → FixedLiteral → Type 0
AreRounds mode style appended zero f g = f ≡ g
AreRounds mode style appended (suc n) f g =
    (h : FixedLiteral) × AreRounds mode style appended n f h
    × IsRound mode h.text style h.snippet appended g

-- The most rounds that are made.
abbrev pub most_rounds : ℕ
most_rounds = 8

-- In n rounds a literal becomes one of whose calls fewer find a fault, and all of these faults it
-- had before.
pub record IsBetter (mode : Mode) (style : Option ℕ) (appended : Bool) (f : FixedLiteral) (n : ℕ)
    (g : FixedLiteral) : Type 0 where
  pub some : 0 < n
  pub few : n ≤ most_rounds
  pub rounds : AreRounds mode style appended n f g
  pub old : IsTrue (is_part (ids mode g.text) (ids mode f.text))
  pub fewer : faulty_count mode g.text < faulty_count mode f.text

-- Of all that a literal becomes so, the result is the one of whose calls the fewest find a fault,
-- and of two with as few the earlier one.
pub record IsFixed (mode : Mode) (input : List ℕ) (style : Option ℕ) (literal : List ℕ)
    (appended : Bool) (g : FixedLiteral) : Type 0 where
  pub round : ℕ
  pub better : IsBetter mode style appended (record { snippet = literal; text = input }) round g
  pub fewest : (n : ℕ) (h : FixedLiteral)
      → IsBetter mode style appended (record { snippet = literal; text = input }) n h
      → faulty_count mode g.text ≤ faulty_count mode h.text
  pub first : (n : ℕ) (h : FixedLiteral)
      → IsBetter mode style appended (record { snippet = literal; text = input }) n h
      → n < round → faulty_count mode g.text < faulty_count mode h.text

-- The best literal so far, if there is one, and how many of its calls find a fault, or else of
-- those at the start.
pub record Best : Type 0 where
  pub literal : Option FixedLiteral
  pub calls : ℕ

-- The best one, once a literal is seen of whose calls so many find a fault, if it has no new ones.
abbrev pub best_with : Best → FixedLiteral → Option ℕ → Best
best_with b f None = b
best_with b f (Some n) = if nat_lt n b.calls then record { literal = Some f; calls = n } else b
