-- The tokens of a whole text, faulty or not: those of each call of the parser, one after the other,
-- up to the end of the text, with those marked that are out of place. A call that returns no piece,
-- for a brace that closes nothing, does not end them.
use Prim.Native.Char.{code}
use Rattle.std.specs.Prelude.{◌≡◌, ℕ, suc, zero, ◌-◌, ◌++◌, ◌==◌, Bool, false, if◌then◌else◌, List}
use Rattle.std.specs.Prelude.{[], ◌∷◌, codes, length, take}
use Rattle.std.specs.Char.{is_whitespace}
use Rattle.rustc_parse_format.specs.Characters.{Text, is_brace, is_no_brace, front, begins_with}
use Rattle.rustc_parse_format.specs.Characters.{after_first, after_white}
use Rattle.rustc_parse_format.specs.Types.{Mode, wants_names}
use Rattle.rustc_parse_format.specs.Spelling.{IsPart}
use Rattle.rustc_parse_format.specs.Syntax.{PieceText, RunText, DoubledText, PlaceholderText}
use Rattle.rustc_parse_format.specs.Syntax.{piece_part}
use Rattle.rustc_parse_format.specs.Placeholder.{cut}
use Rattle.rustc_parse_format.specs.Call.{call}
use Rattle.format_tokens.specs.declared.kinds.Kind.TheVariants.{CloseBrace, Unexpected}
use Rattle.format_tokens.specs.Culprits.{marked_tokens}
use Rattle.format_tokens.specs.Tokens.{Label, token, piece_tokens, opened_tokens}

-- The characters of t before r, which is left of it.
abbrev pub up_to_rest : Text → Text → Text
up_to_rest t r = take (length t - length r) t

-- The text ends with a closing brace.
abbrev pub is_closed : Text → Bool
is_closed [] = false
is_closed (c ∷ []) = c == code "}"
is_closed (c ∷ d ∷ u) = is_closed (d ∷ u)

-- The tokens of the characters that a call reads in place of a closing brace. After a field that is
-- accessed it reads that brace too.
abbrev pub skipped_tokens : Text → List Label
skipped_tokens u =
    if is_closed u then token Unexpected (take (length u - 1) u) ++ token CloseBrace (codes "}")
    else token Unexpected u

-- The tokens of a placeholder, where t is left after its opening brace and s after the call.
unfoldable pub placeholder_tokens : Mode → Text → Text → List Label
placeholder_tokens mode t s =
    let a = cut mode t in
    let space = front is_whitespace a.rest in
    let r = after_white a.rest in
    if begins_with (code "}") r then piece_tokens (PlaceholderText a.field space)
    else opened_tokens a.field space ++ skipped_tokens (up_to_rest r s)

-- The tokens of the call where t is left, and s after it.
unfoldable pub call_tokens : Mode → Text → Text → List Label
call_tokens mode [] s = []
call_tokens mode (b ∷ t) s =
    if is_brace b then
    (if begins_with b t then piece_tokens (DoubledText b (front is_no_brace (after_first t))) else
    (if b == code "{" then placeholder_tokens mode t s else token CloseBrace (b ∷ [])))
    else piece_tokens (RunText (front is_no_brace (b ∷ t)))

-- The tokens of at most n calls from t on, where c is the next number.
abbrev pub tokens_within : ℕ → Mode → ℕ → Text → List Label
tokens_within zero mode c t = []
tokens_within (suc n) mode c [] = []
tokens_within (suc n) mode c (b ∷ t) =
    let k = call mode c (b ∷ t) in
    call_tokens mode (b ∷ t) k.rest ++ tokens_within n mode k.next k.rest

-- The tokens of all calls. Each call reads a character, so there are no more calls than characters.
unfoldable pub read_tokens : Mode → Text → List Label
read_tokens mode t = tokens_within (length t) mode 0 t

-- The tokens of a text: those of all calls, with those marked that are out of place.
abbrev pub tokens_of : Mode → Text → List Label
tokens_of mode t = marked_tokens (wants_names mode) false (read_tokens mode t)

-- The text is written as these pieces, one after the other and to its end.
abbrev pub IsWritten : Mode → Text → List PieceText → Type 0
IsWritten mode t [] = t ≡ []
IsWritten mode t (x ∷ xs) = (r : Text) × IsPart t (piece_part mode x) r × IsWritten mode r xs
