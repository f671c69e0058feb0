-- The classes of the code.
use Rattle.std.specs.Prelude.{ℕ, Bool}
use Rattle.rust_tokens.specs.declared.texts.Class.{Class}
use Rattle.rust_tokens.specs.declared.texts.Class.TheVariants.{Space, Continue, Hash, Escape}
use Rattle.rust_tokens.specs.declared.texts.Class.TheVariants.{Apostrophe, Digit, DigitPart}
use Rattle.rust_tokens.specs.declared.texts.Class.TheVariants.{HexPart}
use Rattle.rust_tokens.specs.declared.texts.Class.TheVariants.{Underscore, Slash, StarOrSlash}
use Rattle.rust_tokens.specs.declared.texts.Class.TheVariants.{PointOrStart}
use Rattle.rust_tokens.specs.Runs.{is_space, is_id_continue, is_hash}
use Rattle.rust_tokens.specs.Runs.{is_apostrophe, is_digit, is_digit_part, is_hex_part}
use Rattle.rust_tokens.specs.Runs.{is_underscore}
use Rattle.rust_tokens.specs.Runs.{is_slash, is_star_or_slash}
use Rattle.rust_tokens.specs.Characters.{is_in_escape}
use Rattle.rust_tokens.specs.Numbers.{is_point_or_start}

-- The character is in the class.
abbrev pub passes : Class → ℕ → Bool
passes Space = is_space
passes Continue = is_id_continue
passes Hash = is_hash
passes Escape = is_in_escape
passes Apostrophe = is_apostrophe
passes Digit = is_digit
passes DigitPart = is_digit_part
passes HexPart = is_hex_part
passes Underscore = is_underscore
passes Slash = is_slash
passes StarOrSlash = is_star_or_slash
passes PointOrStart = is_point_or_start
