-- The suggestions that a program may apply by itself, and the label of one.
use Rattle.std.specs.Prelude.{ℕ, Bool, true, false, ◌++◌, ◌&&◌, List, [], ◌∷◌, codes}
use Rattle.diagnostic.specs.Parts.{Edit, Suggestion}
use Rattle.diagnostic.specs.declared.parts.Applicability.{Applicability}
use Rattle.diagnostic.specs.declared.parts.Applicability.TheVariants.{MachineApplicable}
use Rattle.diagnostic.specs.declared.parts.Applicability.TheVariants.{MaybeIncorrect}
use Rattle.diagnostic.specs.declared.parts.SuggestionStyle.{SuggestionStyle}
use Rattle.diagnostic.specs.declared.parts.SuggestionStyle.TheVariants.{CompletelyHidden}
use Rattle.diagnostic.specs.declared.parts.SuggestionStyle.TheVariants.{ShowAlways, ShowCode}

-- A machine may apply a suggestion of which the compiler is so sure.
abbrev pub is_sure : Applicability → Bool
is_sure MachineApplicable = true
is_sure MaybeIncorrect = false

-- A program may apply the suggestion by itself: a machine may, and the source is whole with it.
abbrev pub is_applied : {P : Type 0} → Suggestion P → Bool
is_applied s = is_sure s.applicability && s.is_complete

-- A suggestion of this style is shown as a label.
abbrev pub is_label : SuggestionStyle → Bool
is_label ShowCode = true
is_label ShowAlways = false
is_label CompletelyHidden = false

-- The new text between backquotes, or nothing where text is only removed.
abbrev pub quoted_new : List ℕ → List ℕ
quoted_new [] = []
quoted_new (c ∷ t) = codes ": `" ++ ((c ∷ t) ++ codes "`")

-- The new text of these edits in a label, which has only the first one.
abbrev pub new_text : {P : Type 0} → List (Edit P) → List ℕ
new_text [] = []
new_text (e ∷ es) = e.text

-- The text of the label of a suggestion that is shown as one.
abbrev pub label_text : {P : Type 0} → Suggestion P → List ℕ
label_text s = codes "help: " ++ (s.advice ++ quoted_new (new_text s.edits))
