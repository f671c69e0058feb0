-- The words that are tried for a count. If no `$` follows such a word, it is given back and read
-- again as the type. Each is given by the rest of the input from it on.
use Rattle.std.specs.Prelude.{◌++◌, if◌then◌else◌, List, [], ◌∷◌}
use Rattle.rustc_parse_format.specs.Characters.{Text, after_first, after_word, first_passes}
use Rattle.rustc_parse_format.specs.Characters.{is_id_start}
use Rattle.rustc_parse_format.specs.Rewinds.{Rewinds, given_back}
use Rattle.rustc_parse_format.specs.Syntax.{CountText, NoCount, WidthText, PaddedWidth}
use Rattle.rustc_parse_format.specs.Syntax.{ZeroIndexWidth, PlainWidth, PrecisionText, NoPrecision}
use Rattle.rustc_parse_format.specs.Syntax.{StarPrecision, DotPrecision, FormatText, SpecText}
use Rattle.rustc_parse_format.specs.Syntax.{Formatting}
use Rattle.rustc_parse_format.specs.Meaning.{from_width, from_precision}

-- The characters that have been given back after these words, one after the other.
abbrev pub back_after : Rewinds → List Text → Rewinds
back_after b [] = b
back_after b (t ∷ ts) = back_after (given_back (after_word t) t b) ts

-- The word that is tried for a count at t, if there is no count.
abbrev pub count_tries : Text → CountText → List Text
count_tries t NoCount = if first_passes is_id_start t then t ∷ [] else []
count_tries t k = []

-- The words that are tried in a width at t.
abbrev pub width_tries : Text → WidthText → List Text
width_tries t (PaddedWidth k) = count_tries (after_first t) k
width_tries t ZeroIndexWidth = []
width_tries t (PlainWidth k) = count_tries t k

-- The words that are tried in a precision at t.
abbrev pub precision_tries : Text → PrecisionText → List Text
precision_tries t NoPrecision = []
precision_tries t StarPrecision = []
precision_tries t (DotPrecision k) = count_tries (after_first t) k

-- The words that are tried in a format specification that is followed by r.
unfoldable pub format_tries : FormatText → Text → List Text
format_tries p r = width_tries (from_width p r) p.width
    ++ precision_tries (from_precision p r) p.precision

-- The words that are tried in a specification that is followed by r.
abbrev pub spec_tries : SpecText → Text → List Text
spec_tries (Formatting p) r = format_tries p r
spec_tries s r = []
