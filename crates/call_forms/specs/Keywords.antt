-- The keywords of Rust.
use Rattle.std.specs.Prelude.{ℕ, Bool, ◌||◌, List, [], codes, if◌then◌else◌}
use Rattle.std.specs.Str.{bytes_eq}

-- A keyword around which expressions may stand.
abbrev pub is_control : List ℕ → Bool
is_control w = bytes_eq w (codes "as") || (bytes_eq w (codes "break")
    || (bytes_eq w (codes "continue") || (bytes_eq w (codes "else") || (bytes_eq w (codes "for")
    || (bytes_eq w (codes "if") || (bytes_eq w (codes "in") || (bytes_eq w (codes "let")
    || (bytes_eq w (codes "loop") || (bytes_eq w (codes "match") || (bytes_eq w (codes "return")
    || (bytes_eq w (codes "while") || bytes_eq w (codes "yield"))))))))))))

-- A keyword in front of an expression, a pattern or a type.
abbrev pub is_modifier : List ℕ → Bool
is_modifier w = bytes_eq w (codes "async") || (bytes_eq w (codes "const")
    || (bytes_eq w (codes "dyn") || (bytes_eq w (codes "extern") || (bytes_eq w (codes "fn")
    || (bytes_eq w (codes "impl") || (bytes_eq w (codes "move") || (bytes_eq w (codes "mut")
    || (bytes_eq w (codes "ref") || (bytes_eq w (codes "static")
    || bytes_eq w (codes "unsafe"))))))))))

-- A keyword that is an expression or begins a path.
abbrev pub is_special : List ℕ → Bool
is_special w = bytes_eq w (codes "_") || (bytes_eq w (codes "crate") || (bytes_eq w (codes "false")
    || (bytes_eq w (codes "self") || (bytes_eq w (codes "Self") || (bytes_eq w (codes "super")
    || bytes_eq w (codes "true"))))))

-- A keyword that has no use so far.
abbrev pub is_reserved : List ℕ → Bool
is_reserved w = bytes_eq w (codes "abstract") || (bytes_eq w (codes "become")
    || (bytes_eq w (codes "box") || (bytes_eq w (codes "do") || (bytes_eq w (codes "final")
    || (bytes_eq w (codes "macro") || (bytes_eq w (codes "override") || (bytes_eq w (codes "priv")
    || (bytes_eq w (codes "try") || (bytes_eq w (codes "typeof") || (bytes_eq w (codes "unsized")
    || (bytes_eq w (codes "virtual") || bytes_eq w (codes "yield"))))))))))))

-- A keyword, if the word is not reserved.
abbrev pub is_keyword : List ℕ → Bool
is_keyword w = is_control w || (is_modifier w || (is_special w || (bytes_eq w (codes "await")
    || (bytes_eq w (codes "enum") || (bytes_eq w (codes "mod") || (bytes_eq w (codes "pub")
    || (bytes_eq w (codes "struct") || (bytes_eq w (codes "trait") || (bytes_eq w (codes "type")
    || (bytes_eq w (codes "use") || bytes_eq w (codes "where")))))))))))

-- The words of rustc before a token in a title, with the space after them.
unfoldable pub kind_word : List ℕ → List ℕ
kind_word w = if bytes_eq w (codes "_") then codes "reserved identifier "
    else if is_reserved w then codes "reserved keyword "
    else if is_keyword w then codes "keyword " else []
