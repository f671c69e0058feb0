-- Worked examples of source literals: which snippet, of which style, is the source literal of an
-- input.
use Prim.Native.Char.{code}
use Rattle.std.proofs.Common.{◌≡◌, ◌++◌, ℕ, Bool, true, false, List, [], ◌∷◌, map, refl, sym, ◌∙◌}
use Rattle.std.proofs.Common.{codes, Option, Some, None}
use Rattle.std.proofs.lemmas.Bool.{false≢true}
use Rattle.rustc_parse_format.specs.Characters.{Text}
use Rattle.rustc_parse_format.specs.LiteralUnits.{LiteralUnit, Plain, SimpleEscape, Continuation}
use Rattle.rustc_parse_format.specs.Literal.{IsLiteral, units, content_value, ordinary_frame}
use Rattle.rustc_parse_format.specs.Source.{is_source, HasSource}
use Rattle.rustc_parse_format.proofs.Sources.Decided.{has_source}
use Rattle.rustc_parse_format.proofs.Literals.Contents.{units-content}
use Rattle.rustc_parse_format.proofs.Rows.Literals.{finding_units}

-- A content in its quotes is a literal.
in_quotes : (content : Text) (us : List LiteralUnit) → units content ≡ Some us
    → IsLiteral None (ordinary_frame content) (content_value us)
in_quotes content us e = (content, us, refl, units-content content us e, refl)

-- There is no source where computing denies it.
no_source : (input : Text) (style : Option ℕ) (snippet : Text) (appended : Bool)
    → is_source input style (Some snippet) appended ≡ false →
    ¬ (HasSource input style (Some snippet) appended)
no_source input style snippet appended e h =
    false≢true (sym e ∙ (has_source input style (Some snippet) appended).1 h)

-- Ordinary literals.
empty_literal-is_the_source : HasSource [] None (Some (codes "\"\"")) false
empty_literal-is_the_source = ([], ([], [], refl, refl, refl), refl)

escape-stands_for_its_character : HasSource (codes "foo\n") None (Some (codes "\"foo\\n\"")) false
unfolding finding_units
escape-stands_for_its_character = (
  codes "foo\n",
  in_quotes (codes "foo\\n") (map Plain (codes "foo")
      ++ SimpleEscape (code "n") ∷ []) refl,
  refl,
)

escape-does_not_stand_for_itself : ¬
    (HasSource (codes "foo\\n") None (Some (codes "\"foo\\n\"")) false)
unfolding finding_units is_source
escape-does_not_stand_for_itself = no_source (codes "foo\\n") None (codes "\"foo\\n\"") false refl

escape-is_no_appended_newline : ¬ (HasSource (codes "foo\n") None (Some (codes "\"foo\\n\"")) true)
unfolding finding_units is_source
escape-is_no_appended_newline = no_source (codes "foo\n") None (codes "\"foo\\n\"") true refl

continuation-stands_for_nothing : HasSource (codes "ab") None (Some (codes "\"a\\\n b\"")) false
unfolding finding_units
continuation-stands_for_nothing = (
  codes "ab",
  in_quotes (codes "a\\\n b") (Plain (code "a") ∷ Continuation (codes " ")
      ∷ Plain (code "b") ∷ []) refl,
  refl,
)

quote-is_no_content : ¬ (HasSource (codes "a\"b") None (Some (codes "\"a\"b\"")) false)
unfolding finding_units is_source
quote-is_no_content = no_source (codes "a\"b") None (codes "\"a\"b\"") false refl

escaped_quote-closes_nothing : ¬ (HasSource (codes "a\"") None (Some (codes "\"a\\\"")) false)
unfolding finding_units is_source
escaped_quote-closes_nothing = no_source (codes "a\"") None (codes "\"a\\\"") false refl

nothing-follows_the_closing_quote : ¬ (HasSource (codes "foo") None (Some (codes "\"foo\"x")) false)
unfolding finding_units is_source
nothing-follows_the_closing_quote = no_source (codes "foo") None (codes "\"foo\"x") false refl

-- Raw literals.
empty_raw_literal-is_the_source : HasSource [] (Some 0) (Some (codes "r\"\"")) false
empty_raw_literal-is_the_source = ([], refl, refl)

raw_text-may_hold_a_quote : HasSource (codes "a\"b") (Some 0) (Some (codes "r\"a\"b\"")) false
raw_text-may_hold_a_quote = (codes "a\"b", refl, refl)

hashes-are_all_named : IsLiteral (Some 2) (codes "r##\"\"##") []
hashes-are_all_named = refl

hashes-are_no_more_than_named : ¬ (HasSource [] (Some 1) (Some (codes "r##\"\"##")) false)
unfolding is_source
hashes-are_no_more_than_named = no_source [] (Some 1) (codes "r##\"\"##") false refl

-- An appended newline is in the input but not in the literal.
appended_newline-is_not_in_the_literal : HasSource (codes "a\n") (Some 1)
    (Some (codes "r#\"a\"#")) true
appended_newline-is_not_in_the_literal = (codes "a", refl, refl)

appended_newline-is_in_the_input : ¬ (HasSource [] (Some 0) (Some (codes "r\"\"")) true)
unfolding is_source
appended_newline-is_in_the_input = no_source [] (Some 0) (codes "r\"\"") true refl

other_character-is_no_appended_newline : ¬
    (HasSource (codes "ab") (Some 0) (Some (codes "r\"a\"")) true)
unfolding is_source
other_character-is_no_appended_newline = no_source (codes "ab") (Some 0) (codes "r\"a\"") true refl

-- Without a snippet there is none.
no_snippet-is_no_source : (input : Text) (style : Option ℕ) (appended : Bool)
    → ¬ (HasSource input style None appended)
no_snippet-is_no_source input style appended h = h
