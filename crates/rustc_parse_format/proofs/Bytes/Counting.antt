-- A number that is read digit by digit, modulo 65536.
use Rattle.std.proofs.Common.{◌≡◌, ◌%◌, ℕ, Bool, nat_lt}
use Rattle.std.specs.Str.Parse.{digits_value, digits_value_after}
use Rattle.rustc_parse_format.specs.Characters.{Text}

-- The digits read so far write the number whole, and those left follow them.
pub record Counted (value : ℕ) (over : Bool) (left all : Text) : Type 0 where
  pub whole : ℕ
  pub low : value ≡ whole % 65536
  pub high : over ≡ nat_lt 65535 whole
  pub more : digits_value_after 10 whole left ≡ digits_value 10 all
