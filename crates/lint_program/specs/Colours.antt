-- The choice whether the output is in colours. The public rules are `--color` of rustc, NO_COLOR
-- (no-color.org: the variable is there and not empty) and that a terminal `dumb` has none.
use Rattle.std.specs.Prelude.{ℕ, Bool, true, false, not, ◌&&◌, ◌==◌, List, Option, Some, None}
use Rattle.std.specs.Prelude.{bytes_eq, codes, length}
use Rattle.lint_program.specs.declared.colours.ColourChoice.{ColourChoice}
use Rattle.lint_program.specs.declared.colours.ColourChoice.TheVariants.{Auto, Always, Never}

-- The variable NO_COLOR with this value says that no colours are wanted.
abbrev pub is_refused : Option (List ℕ) → Bool
is_refused None = false
is_refused (Some w) = not (length w == 0)

-- The variable TERM with this value says that the terminal has colours.
abbrev pub is_coloured : Option (List ℕ) → Bool
is_coloured None = false
is_coloured (Some w) = not (bytes_eq w (codes "dumb"))

-- Colours are wanted.
abbrev pub wants_colours : ColourChoice → Bool → Option (List ℕ) → Option (List ℕ) → Bool
wants_colours Always terminal no_color term = true
wants_colours Never terminal no_color term = false
wants_colours Auto terminal no_color term =
    terminal && (not (is_refused no_color) && is_coloured term)
