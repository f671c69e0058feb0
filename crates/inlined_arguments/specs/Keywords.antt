-- The keywords of all editions, without `self`, which is a variable, and with `_`. The public rules
-- are in the Rust Reference, keywords.
use Rattle.std.specs.Prelude.{ℕ, Bool, List, [], ◌∷◌, ◌||◌, codes}
use Rattle.std.specs.List.{list_any}
use Rattle.std.specs.Str.{bytes_eq}

-- Those that stand in expressions.
abbrev pub expressions : List (List ℕ)
expressions = codes "as" ∷ codes "async" ∷ codes "await" ∷ codes "break" ∷ codes "continue"
    ∷ codes "crate" ∷ codes "dyn" ∷ codes "false" ∷ codes "move" ∷ codes "return" ∷ codes "Self"
    ∷ codes "super" ∷ codes "true" ∷ codes "unsafe" ∷ codes "_" ∷ []

-- Those that begin or join statements and branches.
abbrev pub statements : List (List ℕ)
statements = codes "else" ∷ codes "for" ∷ codes "if" ∷ codes "in" ∷ codes "let" ∷ codes "loop"
    ∷ codes "match" ∷ codes "mut" ∷ codes "ref" ∷ codes "while" ∷ []

-- Those that stand in items.
abbrev pub items : List (List ℕ)
items = codes "const" ∷ codes "enum" ∷ codes "extern" ∷ codes "fn" ∷ codes "impl" ∷ codes "mod"
    ∷ codes "pub" ∷ codes "static" ∷ codes "struct" ∷ codes "trait" ∷ codes "type" ∷ codes "use"
    ∷ codes "where" ∷ []

-- Those that are reserved.
abbrev pub reserved_words : List (List ℕ)
reserved_words = codes "abstract" ∷ codes "become" ∷ codes "box" ∷ codes "do" ∷ codes "final"
    ∷ codes "gen" ∷ codes "macro" ∷ codes "override" ∷ codes "priv" ∷ codes "try" ∷ codes "typeof"
    ∷ codes "unsized" ∷ codes "virtual" ∷ codes "yield" ∷ []

-- The word is one of these.
abbrev pub is_keyword : List ℕ → Bool
is_keyword w = list_any (bytes_eq w) expressions || (list_any (bytes_eq w) statements
    || (list_any (bytes_eq w) items || list_any (bytes_eq w) reserved_words))
