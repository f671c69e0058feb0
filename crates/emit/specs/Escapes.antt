-- Texts as the forms have them.
use Rattle.std.specs.Prelude.{ℕ, ◌+◌, ◌/◌, ◌%◌, Bool, ◌||◌, ◌==◌, nat_lt, List, [], ◌∷◌, ◌++◌}
use Rattle.std.specs.Prelude.{codes, flat_map, if◌then◌else◌}
use Rattle.std.specs.Int.{is_in_range}
use Rattle.file_paths.specs.Paths.{path_bytes}
use Rattle.shown_text.specs.Shown.{shown}
use Rattle.shown_text.specs.declared.gate.Kind.TheVariants.{Json}

-- A text as a string of JSON.
abbrev pub quoted : List ℕ → List ℕ
quoted t = 34 ∷ (shown Json t ++ 34 ∷ [])

-- A byte that stands for itself in a path of a URI: one of RFC 3986's `unreserved`, or a slash.
abbrev pub stays_in_uri : ℕ → Bool
stays_in_uri b = is_in_range 48 57 b || is_in_range 65 90 b || is_in_range 97 122 b
    || (b == 45 || (b == 46 || (b == 47 || (b == 95 || b == 126))))

-- A digit of base 16 in upper case.
abbrev pub upper_digit : ℕ → ℕ
upper_digit d = if nat_lt d 10 then 48 + d else 55 + d

-- A byte as a path of a URI has it.
abbrev pub uri_byte : ℕ → List ℕ
uri_byte b = if stays_in_uri b then b ∷ []
    else 37 ∷ upper_digit (b / 16) ∷ upper_digit (b % 16) ∷ []

-- The scheme of a path from the root.
abbrev pub scheme : List ℕ → List ℕ
scheme [] = []
scheme (b ∷ bs) = if b == 47 then codes "file://" else []

-- The path of a text as a URI: one from the root with its scheme, another as a relative one.
abbrev pub uri : List ℕ → List ℕ
uri text = scheme text ++ flat_map uri_byte (path_bytes text)
