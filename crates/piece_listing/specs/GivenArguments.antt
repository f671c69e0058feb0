-- The list of arguments after `--args`: the number of those given by position, and the names of the
-- others.
use Prim.Native.Char.{code}
use Rattle.std.specs.Prelude.{ℕ, Bool, not, ◌&&◌, ◌==◌, if◌then◌else◌, nat_lt, nat_le, List, []}
use Rattle.std.specs.Prelude.{◌∷◌, length, map, Option, Some, None, chars}
use Rattle.std.specs.List.{list_all}
use Rattle.std.specs.Char.{digit_value}
use Rattle.std.specs.Str.Parse.{digits_value}
use Rattle.rustc_parse_format.specs.Characters.{Text, is_nil}

-- The arguments of a list.
pub record GivenArguments : Type 0 where
  pub positional : ℕ
  pub names : List Text

-- The text before the first comma, and the text after each comma up to the next one.
unfoldable pub cut : List ℕ → List ℕ × List (List ℕ)
cut [] = ([], [])
cut (b ∷ bs) = if b == code "," then ([], (cut bs).0 ∷ (cut bs).1) else (b ∷ (cut bs).0, (cut bs).1)

-- The parts of a list between its commas.
abbrev pub parts : List ℕ → List (List ℕ)
parts bs = (cut bs).0 ∷ (cut bs).1

-- The part is a number: one to five digits, and at most 65535.
abbrev pub is_number : List ℕ → Bool
is_number ds =
    (nat_lt 0 (length ds) && nat_le (length ds) 5)
    && (list_all (λ b. nat_lt (digit_value b) 10) ds && nat_le (digits_value 10 ds) 65535)

-- The part is a name: any text that is not empty.
abbrev pub is_name : List ℕ → Bool
is_name w = not (is_nil w)

-- The arguments that a word gives: a number, and then any number of names, each after a comma. None
-- for any other word.
abbrev pub given_arguments : List ℕ → Option GivenArguments
given_arguments w =
    if is_number (cut w).0 && list_all is_name (cut w).1
    then Some (record { positional = digits_value 10 (cut w).0; names = map chars (cut w).1 })
    else None
