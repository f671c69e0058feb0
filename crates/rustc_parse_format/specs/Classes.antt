-- The classes of characters whose longest prefix the code reads, each as its test.
use Rattle.std.specs.Prelude.{ℕ, Bool}
use Rattle.std.specs.Char.{is_whitespace}
use Rattle.rustc_parse_format.specs.declared.characters.Class.{Class}
use Rattle.rustc_parse_format.specs.declared.characters.Class.TheVariants.{Continue, White}
use Rattle.rustc_parse_format.specs.declared.characters.Class.TheVariants.{Text, Line, Unescaped}
use Rattle.rustc_parse_format.specs.declared.characters.Class.TheVariants.{Plain, Unchanged}
use Rattle.rustc_parse_format.specs.Characters.{is_id_continue, is_in_line, is_no_brace}
use Rattle.rustc_parse_format.specs.LiteralUnits.{is_plain}
use Rattle.rustc_parse_format.specs.SourceViews.{is_unescaped}
use Rattle.rustc_parse_format.specs.Escaping.{is_unchanged}

-- The test that a class stands for.
abbrev pub passes : Class → ℕ → Bool
passes Continue c = is_id_continue c
passes White c = is_whitespace c
passes Text c = is_no_brace c
passes Line c = is_in_line c
passes Unescaped c = is_unescaped c
passes Plain c = is_plain c
passes Unchanged c = is_unchanged c
