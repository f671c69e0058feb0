-- Tokens from which no fact comes but that a name is spoiled, so that a walk asks for no other.
use Prim.Native.Char.{code}
use Rattle.std.specs.Prelude.{ℕ, Bool, not, ◌&&◌, ◌||◌, ◌==◌, List, [], ◌∷◌, Option, Some, codes}
use Rattle.rust_trees.specs.Leaves.{Leaf}
use Rattle.format_calls.specs.Marks.{is_mark_of}
use Rattle.macro_owners.specs.Contexts.{Context, is_named, word_of}
use Rattle.macro_owners.specs.Facts.{is_end, is_import}
use Rattle.macro_owners.specs.Names.{has}

-- Words from which facts may come: those before a name that is given, and attributes.
abbrev pub notable_words : List (List ℕ)
notable_words =
    codes "use" ∷ codes "as" ∷ codes "mod" ∷ codes "macro" ∷ codes "macro_use" ∷
    codes "macro_export" ∷ codes "no_std" ∷ codes "no_core" ∷ codes "no_implicit_prelude" ∷ []

-- One of these words may begin with this byte.
abbrev pub begins_notable : ℕ → Bool
begins_notable b = (b == code "u")
    || ((b == code "a") || ((b == code "m") || (b == code "n")))

-- Facts may come from the token or from those after it: it is one of these words, or `!`.
abbrev pub is_notable : Option Leaf → Bool
is_notable o = is_mark_of (code "!") o || has notable_words (word_of o)

-- The last token is not notable, the one before it is not `as`, no import begins, and no item or
-- definition is open from which facts may come. Then a plain token only spoils names.
abbrev pub is_quiet : Context → Bool
is_quiet c = not (is_named (codes "as") c.previous || (is_notable c.last || (c.starts_import
    || (c.uses_macros || c.defines))))

-- A name of an import may end before the token, or with it.
abbrev pub may_end_name : Context → Leaf → Bool
may_end_name c x = is_import c && (is_end x || (is_mark_of (code "*") (Some x)
    || is_mark_of (code "$") c.last))

-- The token is not notable, and no name of an import ends there.
abbrev pub is_plain : Context → Leaf → Bool
is_plain c x = not (is_notable (Some x) || may_end_name c x)
