-- The words of rustc for a fault in the arguments of a call, as bytes.
use Rattle.std.specs.Prelude.{◌≡◌, ◌++◌, ℕ, zero, suc, Bool, true, false, List, [], ◌∷◌}
use Rattle.std.specs.Prelude.{Option, Some, None, codes, option_map, string_bytes, if◌then◌else◌}
use Rattle.call_faults.specs.Spots.{Help, edit}
use Rattle.text_faults.specs.declared.spots.Spot.TheVariants.{Argument as WholeArgument}
use Rattle.source_report.specs.declared.report.Finding.{Finding}
use Rattle.source_report.specs.declared.report.Label.{Label}
use Rattle.source_lint.specs.Findings.{TellsHelp}
use Rattle.call_forms.specs.Keywords.{kind_word}
use Rattle.call_forms.specs.Forms.{Form, NoString, NoLiteral, NoComma, NoOperand, NoExpression}
use Rattle.call_forms.specs.Operators.{Operator}
use Rattle.call_forms.specs.declared.commas.ExpectedTokens.{ExpectedTokens}
use Rattle.call_forms.specs.declared.commas.ExpectedTokens.TheVariants.{Comma, Path, Field, Value}

-- The id of a fault, the same for all of a kind.
unfoldable pub form_id : Form → List ℕ
form_id NoString = codes "missing-format-string"
form_id (NoLiteral n b) = codes "no-string-literal"
form_id (NoComma e o) = codes "missing-comma"
form_id (NoOperand o) = codes "missing-expression"
form_id (NoExpression k b) = codes "missing-expression"

-- A token that rustc found, in its words.
unfoldable pub found_text : Operator → List ℕ
found_text o = kind_word o.first
    ++ (codes "`" ++ (o.first ++ (o.second ++ (o.third ++ codes "`"))))

-- The tokens that rustc expects, in its words.
unfoldable pub expected_words : ExpectedTokens → List ℕ
expected_words Comma = codes "expected `,`, found "
expected_words Path =
    codes "expected one of `!`, `,`, `.`, `::`, `?`, `{`, or an operator, found "
expected_words Field = codes "expected one of `(`, `,`, `.`, `::`, `?`, or an operator, found "
expected_words Value = codes "expected one of `,`, `.`, `?`, or an operator, found "

-- The title where an expression is missing, up to what rustc found.
unfoldable pub missing_words : List ℕ
missing_words = codes "expected expression, found "

-- The end of the call or a comma, in the words of rustc.
unfoldable pub end_words : Bool → List ℕ
end_words true = codes "expected expression, found end of macro arguments"
end_words false = codes "expected expression, found `,`"

unfoldable pub form_title : Form → List ℕ
form_title NoString = codes "requires at least a format string argument"
form_title (NoLiteral n b) = codes "format argument must be a string literal"
form_title (NoComma e o) = expected_words e ++ found_text o
form_title (NoOperand o) = missing_words ++ found_text o
form_title (NoExpression k b) = end_words b

-- More than six tokens are only counted.
unfoldable pub expected_label : ExpectedTokens → List ℕ
expected_label Comma = codes "expected `,`"
expected_label Path = codes "expected one of 7 possible tokens"
expected_label Field = codes "expected one of `(`, `,`, `.`, `::`, `?`, or an operator"
expected_label Value = codes "expected one of `,`, `.`, `?`, or an operator"

-- The text of the primary label.
unfoldable pub form_label : Form → List ℕ
form_label NoString = []
form_label (NoLiteral n b) = []
form_label (NoComma e o) = expected_label e
form_label (NoOperand o) = codes "expected expression"
form_label (NoExpression k b) = codes "expected expression"

unfoldable pub bytes_label : List ℕ
bytes_label = codes "help: consider removing the leading `b`"

-- The labels: whether each is primary, and its text.
pub record FormLabel : Type 0 where
  pub is_primary : Bool
  pub text : List ℕ

-- A byte string literal stands where the format string should.
abbrev pub has_bytes : Form → Bool
has_bytes NoString = false
has_bytes (NoLiteral n b) = b
has_bytes (NoComma e o) = false
has_bytes (NoOperand o) = false
has_bytes (NoExpression k b) = false

-- The second label is that of the `b` of a byte string literal.
abbrev pub form_labels : Form → List FormLabel
form_labels f = record { is_primary = true; text = form_label f }
    ∷ (if has_bytes f then record { is_primary = false; text = bytes_label } ∷ [] else [])

-- These labels are those, one for each.
abbrev pub TellLabels : List FormLabel → List Label → Type 0
TellLabels [] [] = Unit {0}
TellLabels [] (x ∷ xs) = ⊥
TellLabels (l ∷ ls) [] = ⊥
TellLabels (l ∷ ls) (x ∷ xs) = (x.is_primary ≡ l.is_primary) × (string_bytes x.text ≡ l.text)
    × TellLabels ls xs

-- So many placeholders, each after a space.
abbrev pub more_placeholders : ℕ → List ℕ
more_placeholders zero = []
more_placeholders (suc n) = codes " {}" ++ more_placeholders n

-- A format string for an argument and so many others, and the comma after it.
abbrev pub literal_for : ℕ → List ℕ
literal_for n = codes "\"{}" ++ (more_placeholders n ++ codes "\", ")

-- How many arguments stand after the expression in whose place a literal is missing.
abbrev pub lacks_literal : Form → Option ℕ
lacks_literal NoString = None
lacks_literal (NoLiteral n b) = if b then None else Some n
lacks_literal (NoComma e o) = None
lacks_literal (NoOperand o) = None
lacks_literal (NoExpression k b) = None

abbrev pub literal_help : ℕ → Help
literal_help n = record {
  text = codes "you might be missing a string literal to format with";
  edits = edit (WholeArgument 0) (literal_for n) ∷ [];
}

-- The help, if there is one that is no label: the literal that is missing.
abbrev pub form_help : Form → Option Help
form_help f = option_map literal_help (lacks_literal f)

-- The finding says what is wrong.
pub record TellsForm (f : Form) (x : Finding) : Type 0 where
  pub is_warning : x.is_warning ≡ false
  pub id : x.id.now ≡ form_id f
  pub title : string_bytes x.title ≡ form_title f
  pub labels : TellLabels (form_labels f) x.labels.items
  pub notes : x.notes.items ≡ []
  pub help : TellsHelp (form_help f) x.help

-- These findings are that one, if anything is wrong.
abbrev pub TellsForms : Option Form → List Finding → Type 0
TellsForms None xs = xs ≡ []
TellsForms (Some f) xs = (x : Finding) × (xs ≡ x ∷ []) × TellsForm f x
