-- The paths in front of the names of macros, in bytes.
use Prim.Native.Char.{code}
use Rattle.std.specs.Prelude.{ℕ, Bool, false, ◌==◌, ◌&&◌, ◌||◌, not, nat_le, List, [], ◌∷◌}
use Rattle.std.specs.Prelude.{codes, reverse, take, if◌then◌else◌}
use Rattle.std.specs.Char.{is_ascii_alphanumeric}
use Rattle.std.specs.Str.{bytes_eq}

-- A byte of a word of a path. A variable of a macro begins with `$`, and all bytes of characters
-- beyond ASCII are taken for those of words.
abbrev pub is_in_path : ℕ → Bool
is_in_path b = is_ascii_alphanumeric b || (b == code "_" || (b == code "$" || nat_le 128 b))

-- A word that shows that the path is one of log, tracing or slog, or of the package itself.
abbrev pub is_known : List ℕ → Bool
is_known w = bytes_eq w (codes "log") || (bytes_eq w (codes "tracing")
    || (bytes_eq w (codes "slog") || (bytes_eq w (codes "crate") || (bytes_eq w (codes "$crate")
    || (bytes_eq w (codes "self") || bytes_eq w (codes "super"))))))

-- One of the words of the path is known. The path ends with the word w, and these bytes stand
-- before it, the last one first.
abbrev pub has_known : List ℕ → List ℕ → Bool
has_known w [] = is_known w
has_known w (b ∷ bs) = if is_in_path b then has_known (b ∷ w) bs
    else (is_known w || (b == code ":" && has_known [] bs))

-- A path goes on after these bytes, the last one first: they end with `::`.
abbrev pub ends_path : List ℕ → Bool
ends_path [] = false
ends_path (b ∷ []) = false
ends_path (b ∷ c ∷ bs) = b == code ":" && c == code ":"

abbrev pub is_foreign_after : List ℕ → Bool
is_foreign_after bs = ends_path bs && not (has_known [] bs)

-- A path stands in front of the byte n of a text, and none of its words is known.
abbrev pub is_foreign : List ℕ → ℕ → Bool
is_foreign bs n = is_foreign_after (reverse (take n bs))
