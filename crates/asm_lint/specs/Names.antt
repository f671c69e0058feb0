-- The names of arguments.
use Prim.Native.Char.{code}
use Rattle.std.specs.Prelude.{◌&&◌, ◌==◌, List, [], ◌∷◌, Option, None, chars, option_map}
use Rattle.std.specs.Prelude.{slice_get, if◌then◌else◌}
use Rattle.rustc_parse_format.specs.Characters.{Text}
use Rattle.rust_trees.specs.Leaves.{Leaf}
use Rattle.format_calls.specs.declared.split.Argument.{Argument}

-- A text without `r#` at its start.
abbrev pub without_raw : Text → Text
without_raw [] = []
without_raw (c ∷ []) = c ∷ []
without_raw (c ∷ d ∷ t) = if c == code "r" && d == code "#" then t else c ∷ d ∷ t

-- The name of an argument.
abbrev pub name_of : List Leaf → Argument → Option Text
name_of xs a =
    if a.is_named then option_map (λ x. without_raw (chars x.text)) (slice_get xs a.start) else None
