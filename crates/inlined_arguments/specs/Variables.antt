-- Arguments of a call, and which of them are variables that a format string may capture. The public
-- rules are in the Rust Reference, identifiers, and in the documentation of `std::fmt`.
use Prim.Native.Char.{code}
use Rattle.std.specs.Prelude.{ℕ, suc, Bool, ◌&&◌, ◌==◌, nat_le, if◌then◌else◌}
use Rattle.std.specs.Prelude.{List, [], ◌∷◌, Option, Some, None, is_some, option_and_then, chars}
use Rattle.std.specs.List.{list_any}
use Rattle.rustc_parse_format.specs.Characters.{Text}
use Rattle.inlined_arguments.specs.Keywords.{is_keyword}

-- An argument: its name, if it has one; the bytes of its value as it is written, if that is one
-- word; and those of the source that goes with it.
pub record Argument : Type 0 where
  pub name : Option Text
  pub word : Option (List ℕ)
  pub source : List ℕ

-- Normalization may change the character, or join it with the one before it: it is U+0300, which is
-- the first such one, or a later one.
abbrev pub is_late_character : ℕ → Bool
is_late_character c = nat_le 768 c

-- The name of a variable, if a format string can have it. rustc brings the names of a source into
-- the normal form NFC, but not those in format strings; a text without late characters is in it.
abbrev pub named_in : Text → Option Text
named_in w = if list_any is_late_character w then None else Some w

-- The name of a raw identifier.
abbrev pub raw_name : Text → Option Text
raw_name [] = None
raw_name (c ∷ []) = None
raw_name (c ∷ d ∷ t) = if c == code "r" && d == code "#" then Some t else None

-- The variable that a word is, where this is its name if it is a raw identifier.
abbrev pub variable_or : List ℕ → Option Text → Option Text
variable_or w (Some t) = named_in t
variable_or w None = if is_keyword w then None else named_in (chars w)

-- The variable that a word is: a raw identifier, or a word that is no keyword.
abbrev pub variable_of : List ℕ → Option Text
variable_of w = variable_or w (raw_name (chars w))

-- The variable that an argument is.
abbrev pub variable : Argument → Option Text
variable a = option_and_then variable_of a.word

-- The argument is a variable.
abbrev pub is_variable : Argument → Bool
is_variable a = is_some (variable a)

-- The byte is a slash.
abbrev pub is_slash : ℕ → Bool
is_slash c = c == code "/"

-- A comment is in the source that goes with the argument, if that is a variable: nothing else that
-- may stand there has a slash.
abbrev pub has_comment : Argument → Bool
has_comment a = list_any is_slash a.source

-- The indices of those that are variables among these arguments, the first of which has the index
-- i.
abbrev pub gone_from : ℕ → List Argument → List ℕ
gone_from i [] = []
gone_from i (a ∷ args) = if is_variable a then i ∷ gone_from (suc i) args
    else gone_from (suc i) args
