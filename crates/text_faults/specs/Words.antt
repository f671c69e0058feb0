-- The words of titles that several crates have, as bytes.
use Rattle.std.specs.Prelude.{ℕ, ◌++◌, List, codes, encode_utf8_all}
use Rattle.rustc_parse_format.specs.Characters.{Text}

-- A name between backquotes.
abbrev pub quoted_name : Text → List ℕ
quoted_name w = codes "`" ++ (encode_utf8_all w ++ codes "`")
