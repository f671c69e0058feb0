-- Faults looked for in another list of faults and in literals, one after the other.
use Rattle.std.specs.Prelude.{◌&&◌, ◌+◌, ℕ, Bool, true, false, List, [], ◌∷◌, if◌then◌else◌}
use Rattle.std.specs.Prelude.{string_bytes}
use Rattle.std.specs.Str.{bytes_eq}
use Rattle.rust_tokens.specs.declared.kinds.Token.{Token}
use Rattle.source_report.specs.declared.report.Finding.{Finding}
use Rattle.file_fixes.specs.Mending.{is_of_literal}

-- The two faults have the same id and title.
abbrev pub is_alike : Finding → Finding → Bool
is_alike x y = bytes_eq x.id.now y.id.now
    && bytes_eq (string_bytes x.title) (string_bytes y.title)

-- Each of the first faults is found in the second ones, after the one before it.
abbrev pub are_found : List Finding → List Finding → Bool
are_found [] ys = true
are_found (x ∷ xs) [] = false
are_found (x ∷ xs) (y ∷ ys) = if is_alike x y then are_found xs ys else are_found (x ∷ xs) ys

-- In how many of these tokens the faults are, each in the same literal as the one before it or in a
-- later one. The literal with which the tokens begin counts only if it is new.
abbrev pub walk_count : List ℕ → Bool → List Token → List Finding → ℕ
walk_count bs is_new ts [] = 0
walk_count bs is_new [] (x ∷ xs) = 0
walk_count bs is_new (t ∷ ts) (x ∷ xs) = if is_of_literal bs t (t ∷ ts) x
    then (if is_new then 1 else 0) + walk_count bs false (t ∷ ts) xs
    else walk_count bs true ts (x ∷ xs)
