-- The arguments of a call in a file, each with the source that goes with it.
use Rattle.std.specs.Prelude.{ℕ, ◌+◌, ◌-◌, ◌==◌, List, Option, Some, None, drop, length, min, take}
use Rattle.std.specs.Prelude.{if◌then◌else◌, option_and_then, slice_get}
use Rattle.rustc_parse_format.specs.World.{Place}
use Rattle.rust_trees.specs.Leaves.{Leaf}
use Rattle.format_calls.specs.Marks.{is_word}
use Rattle.format_calls.specs.declared.split.Argument.{Argument}
use Rattle.asm_lint.specs.Names.{name_of}
use Rattle.inlined_arguments.specs.Variables.{Argument as FormatArgument}

abbrev pub end_of : List ℕ → Option Leaf → ℕ
end_of bs None = 0
end_of bs (Some x) = min (length bs) (x.start + length x.text)

-- The offset at which the token i ends in a file, which has the bytes bs.
abbrev pub end_at : List ℕ → List Leaf → ℕ → ℕ
end_at bs xs i = end_of bs (slice_get xs i)

-- The bytes that go with an argument: from the end of the token before its comma to its own end.
abbrev pub removed_place : List ℕ → List Leaf → Argument → Place
removed_place bs xs a = (end_at bs xs (a.start - 2), end_at bs xs (a.end - 1))

abbrev pub word_text : Leaf → Option (List ℕ)
word_text x = if is_word x then Some x.text else None

-- The value of an argument, if that is one word: the last token of one, or of three where a name
-- and `=` stand before it.
abbrev pub word_of : List Leaf → Argument → Option (List ℕ)
word_of xs a = if (a.end - a.start) == (if a.is_named then 3 else 1)
    then option_and_then word_text (slice_get xs (a.end - 1)) else None

abbrev pub bytes_in : List ℕ → Place → List ℕ
bytes_in bs s = take (s.1 - s.0) (drop s.0 bs)

-- An argument with its source.
abbrev pub with_source : List ℕ → List Leaf → Argument → FormatArgument
with_source bs xs a = record {
  name = name_of xs a;
  word = word_of xs a;
  source = bytes_in bs (removed_place bs xs a);
}
