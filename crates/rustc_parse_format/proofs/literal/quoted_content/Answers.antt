use Rattle.std.proofs.Common.{◌≡◌, ◌∷◌, ◌++◌, [], ℕ, List, Option, None, Some, MatchOption, chars}
use Rattle.std.proofs.Common.{Bor, arith, ap, ◌∙◌, sym, ◌<◌}
use Rattle.std.proofs.lemmas.Str.Pattern.{strip_prefix_char, strip_suffix_char}
use Rattle.rustc_parse_format.specs.Characters.{Text}
use Rattle.rustc_parse_format.specs.Literal.{ordinary_frame}
use Rattle.rustc_parse_format.proofs.Literals.Edges.{chars-last, chars-first, first-IsUtf8}
use Rattle.rustc_parse_format.proofs.literal.quoted_content.Goals as goal

-- The text after the first quote ends with a quote, or the whole is not in quotes.
last_quote : (bs rest : List ℕ) (r : Option (Bor (List ℕ))) → chars bs ≡ 34 ∷ chars rest →
    MatchOption r ((t : Text) → t ++ 34 ∷ [] ≡ chars rest → ⊥)
    (λ x. chars x.now ++ 34 ∷ [] ≡ chars rest) →
    MatchOption r ((t : Text) → chars bs ≡ ordinary_frame t → ⊥)
    (λ x. chars bs ≡ ordinary_frame (chars x.now))
last_quote bs rest None e f = λ t g. let same : 34 ∷ (t ++ 34 ∷ []) ≡ 34 ∷ chars rest = sym g ∙ e in
    f t cc
last_quote bs rest (Some x) e f = e ∙ ap (λ s. 34 ∷ s) (sym f)

pub returns-in-Some : goal.returns-in-Some
returns-in-Some c =
    let ascii : 34 < 128 = omega arith in
    let first = strip_prefix_char 34 c.args.snippet.now
    (Some c.in-Some.rest_after) c.in-Some.ensures.cases ascii in
    last_quote c.args.snippet.now c.in-Some.rest_after.now c.strip_suffix.result
    (chars-first 34 c.args.snippet.now (Some c.in-Some.rest_after) c.utf8.snippet ascii first)
    (chars-last 34 c.in-Some.rest_after.now c.strip_suffix.result
    (first-IsUtf8 34 c.args.snippet.now c.in-Some.rest_after.now c.utf8.snippet ascii first) ascii
    (strip_suffix_char 34 c.in-Some.rest_after.now c.strip_suffix.result
    c.strip_suffix.ensures.cases
    ascii))

pub returns-in-None : goal.returns-in-None
returns-in-None c =
    let ascii : 34 < 128 = omega arith in
    let missing = chars-first 34 c.args.snippet.now None c.utf8.snippet ascii
    (strip_prefix_char 34 c.args.snippet.now None c.in-None.ensures.cases ascii) in
    λ t e. missing (t ++ 34 ∷ []) e
