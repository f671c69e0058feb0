-- The tokens of a file: a byte order mark and a shebang may stand in front. The public rule is in
-- the Rust Reference, input format: a byte order mark at the start is removed; then SHEBANG : `#!`
-- ~LF*, where (WHITESPACE | LINE_COMMENT | BLOCK_COMMENT)* `[` does not follow the `#!`.
use Prim.Native.Char.{code}
use Rattle.std.specs.Prelude.{◌≡◌, ℕ, Bool, true, false, ◌==◌, ◌++◌, ◌⊎◌, IsTrue, List, [], ◌∷◌}
use Rattle.std.specs.Prelude.{codes}
use Rattle.std.specs.List.{list_all}
use Rattle.rust_tokens.specs.declared.kinds.Kind.{Kind}
use Rattle.rust_tokens.specs.declared.kinds.Kind.TheVariants.{Whitespace, LineComment, BlockComment}
use Rattle.rust_tokens.specs.declared.kinds.Kind.TheVariants.{Shebang, ByteOrderMark}
use Rattle.rust_tokens.specs.Texts.{Text}
use Rattle.rust_tokens.specs.Runs.{first_passes, stops, is_in_line}
use Rattle.rust_tokens.specs.Tokens.{Lexeme, ReadsTo, Reads}

-- White space, or a comment that documents nothing.
abbrev pub is_gap : Kind → Bool
is_gap Whitespace = true
is_gap LineComment = true
is_gap BlockComment = true
is_gap k = false

-- A token that stands before the others of a file.
abbrev pub is_head : Kind → Bool
is_head ByteOrderMark = true
is_head Shebang = true
is_head k = false

-- `[`
abbrev pub is_bracket : ℕ → Bool
is_bracket c = c == code "["

-- The byte order mark.
abbrev pub is_mark : ℕ → Bool
is_mark c = c == 0xFEFF

-- The text goes on with `[` after white space and comments.
abbrev pub OpensAttribute : Text → Type 0
OpensAttribute t = (xs : List Lexeme) × (r : Text) × ReadsTo t xs r
    × IsTrue (list_all (λ x. is_gap x.kind) xs) × IsTrue (first_passes is_bracket r)

-- The byte order mark as a token.
abbrev pub mark : Lexeme
mark = record { kind = ByteOrderMark; is_ended = true; body = 0xFEFF ∷ []; suffix = [] }

-- The shebang with this text after its `#!`.
abbrev pub shebang : Text → Lexeme
shebang u = record { kind = Shebang; is_ended = true; body = codes "#!" ++ u; suffix = [] }

-- The tokens xs are the byte order mark of the text, or nothing if it has none, and t is left.
abbrev pub IsMarked : Text → List Lexeme → Text → Type 0
IsMarked whole xs t = ((xs ≡ mark ∷ []) × (whole ≡ 0xFEFF ∷ t))
    ⊎ ((xs ≡ []) × (whole ≡ t) × IsTrue (stops is_mark t))

-- The tokens xs are the shebang of the text, or nothing if it has none, and t is left.
abbrev pub IsShebanged : Text → List Lexeme → Text → Type 0
IsShebanged whole xs t = ((u : Text) × (xs ≡ shebang u ∷ []) × (whole ≡ codes "#!" ++ (u ++ t))
    × IsTrue (list_all is_in_line u) × IsTrue (stops is_in_line t) × (OpensAttribute (u ++ t) → ⊥))
    ⊎ ((xs ≡ []) × (whole ≡ t) × ((u : Text) → whole ≡ codes "#!" ++ u → OpensAttribute u))

-- The file reads as these tokens: its mark, its shebang and the rest.
abbrev pub ReadsFile : Text → List Lexeme → Type 0
ReadsFile whole xs = (ms ss rs : List Lexeme) × (t u : Text) × IsMarked whole ms t
    × IsShebanged t ss u × Reads u rs × (xs ≡ ms ++ (ss ++ rs))
