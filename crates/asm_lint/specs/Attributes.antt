-- The texts of the attributes `diagnostic::on_unimplemented` of a file, and the findings in them.
-- The public rule is in the Rust Reference, on diagnostic attributes.
use Prim.Native.Char.{code}
use Rattle.std.specs.Prelude.{◌≡◌, ◌≤◌, ◌⊎◌, ◌+◌, ◌++◌, ◌&&◌, ◌||◌, ◌==◌, not, ℕ, Bool}
use Rattle.std.specs.Prelude.{false, List, [], ◌∷◌, Option, Some, None, IsTrue, chars}
use Rattle.std.specs.Prelude.{codes, length, map, slice_get}
use Rattle.std.specs.Prelude.{if◌then◌else◌}
use Rattle.rustc_parse_format.specs.Characters.{Text}
use Rattle.rustc_parse_format.specs.Literal.{IsLiteral}
use Rattle.rustc_parse_format.specs.State.{State, first_state}
use Rattle.rustc_parse_format.specs.Types.{Diagnostic}
use Rattle.rust_trees.specs.Forests.{IsPair}
use Rattle.rust_trees.specs.Leaves.{Leaf}
use Rattle.format_calls.specs.Arguments.{AreArguments}
use Rattle.format_calls.specs.Assembly.{is_word_at}
use Rattle.format_calls.specs.Marks.{is_mark}
use Rattle.format_calls.specs.Strings.{is_text_leaf}
use Rattle.format_calls.specs.declared.split.Argument.{Argument}
use Rattle.message_faults.specs.Diagnostics.{diagnostic}
use Rattle.message_faults.specs.Messages.{MessageFault, message_faults}
use Rattle.source_report.specs.declared.report.Finding.{Finding}
use Rattle.call_forms.specs.Generics.{parameters}
use Rattle.asm_lint.specs.Findings.{said, said_by}
use Rattle.asm_lint.specs.Literals.{without_crs}

-- The token i is this word.
abbrev pub has_word_at : List Leaf → ℕ → List ℕ → Bool
has_word_at xs i w = is_word_at w (slice_get xs i)

-- `#[diagnostic::on_unimplemented(` stands from the token i on.
abbrev pub begins_attribute : List Leaf → ℕ → Bool
begins_attribute xs i = is_mark (code "#") xs i && (is_mark (code "[") xs (i + 1)
    && (has_word_at xs (i + 2) (codes "diagnostic") && (is_mark (code ":") xs (i + 3)
    && (is_mark (code ":") xs (i + 4)
    && (has_word_at xs (i + 5) (codes "on_unimplemented") && is_mark (code "(") xs (i + 6))))))

-- Such an attribute stands there, whose list ends with the token c.
pub record IsAttribute (xs : List Leaf) (i c : ℕ) : Type 0 where
  pub begins : IsTrue (begins_attribute xs i)
  pub list : IsPair xs (i + 6) c

-- From the token i on there are two tokens, of which the second opens a pair that belongs to the
-- front of an item: an attribute, or a visibility with a path.
abbrev pub opens_front : List Leaf → ℕ → Bool
opens_front xs i = (is_mark (code "#") xs i && is_mark (code "[") xs (i + 1))
    || (has_word_at xs i (codes "pub") && is_mark (code "(") xs (i + 1))

-- The token i is a word of the front of an item.
abbrev pub is_modifier : List Leaf → ℕ → Bool
is_modifier xs i = has_word_at xs i (codes "pub") || (has_word_at xs i (codes "unsafe")
    || (has_word_at xs i (codes "auto") || has_word_at xs i (codes "const")))

-- A part of the front of an item stands from the token i to the one before j.
abbrev pub IsFront : List Leaf → ℕ → ℕ → Type 0
IsFront xs i j = (IsTrue (opens_front xs i) × ((n : ℕ) × IsPair xs (i + 1) n × (j ≡ n + 1)))
    ⊎ ((opens_front xs i ≡ false) × IsTrue (is_modifier xs i) × (j ≡ i + 1))

-- Parts of the front of an item stand from the token i to the one before k. They start at these
-- tokens.
abbrev pub Fronts : List Leaf → ℕ → List ℕ → ℕ → Type 0
Fronts xs i [] k = i ≡ k
Fronts xs i (j ∷ js) k = (j ≡ i) × (next : ℕ) × IsFront xs i next × Fronts xs next js k

-- The front of the item that starts at the token i ends before k, and its parts start at these
-- tokens.
pub record IsItem (xs : List Leaf) (i : ℕ) (js : List ℕ) (k : ℕ) : Type 0 where
  pub parts : Fronts xs i js k
  pub is_all : (j : ℕ) → IsFront xs k j → ⊥

-- These findings say what rustc says of these faults, one for each, for a trait of this name.
abbrev pub TellMessages : Text → List MessageFault → List Finding → Type 0
TellMessages name fs xs = map said xs ≡ map (λ f. said_by (diagnostic name f)) fs

-- A parser at the start of a text with this literal.
abbrev pub message_start : Text → Text → State
message_start literal t = first_state Diagnostic t None (Some literal) false

-- These are the findings in the text that a literal stands for, if it stands for one, of a trait
-- with this name and these parameters.
abbrev pub ReadsText : Text → List (List ℕ) → Text → List Finding → Type 0
ReadsText name ps literal fs =
    (((style : Option ℕ) (t : Text) → IsLiteral style literal t → ⊥) × (fs ≡ []))
    ⊎ ((style : Option ℕ) × (t : Text) × IsLiteral style literal t
    × TellMessages name (message_faults (Some ps) (message_start literal t)) fs)

-- The option sets this word.
abbrev pub sets_word : List Leaf → Argument → List ℕ → Bool
sets_word xs a w = a.is_named && has_word_at xs a.start w

-- The literal that an option sets, if it is one.
abbrev pub literal_if : Bool → Option Leaf → Option Leaf
literal_if b None = None
literal_if b (Some x) = if b && is_text_leaf x then Some x else None

abbrev pub literal_of : List Leaf → Argument → Option Leaf
literal_of xs a = literal_if (a.end == a.start + 3) (slice_get xs (a.start + 2))

-- An option counts, where a message and a label have been there or not: of several of these only
-- the first counts.
abbrev pub is_effective : List Leaf → Bool → Bool → Argument → Bool
is_effective xs m l a = (sets_word xs a (codes "message") && not m)
    || ((sets_word xs a (codes "label") && not l)
    || sets_word xs a (codes "note"))

-- The literals that options set, one after the other.
abbrev pub literal_list : Bool → Option Leaf → List Leaf
literal_list b None = []
literal_list b (Some x) = if b then x ∷ [] else []

abbrev pub texts_from : List Leaf → Bool → Bool → List Argument → List Leaf
texts_from xs m l [] = []
texts_from xs m l (a ∷ bs) = literal_list (is_effective xs m l a) (literal_of xs a)
    ++ texts_from xs (m || sets_word xs a (codes "message")) (l
    || sets_word xs a (codes "label")) bs

-- These are the findings in these literals, one after the other.
abbrev pub ReadsTexts : Text → List (List ℕ) → List Leaf → List Finding → Type 0
ReadsTexts name ps [] fs = fs ≡ []
ReadsTexts name ps (x ∷ xs) fs = (found others : List Finding) × (fs ≡ found ++ others)
    × ReadsText name ps (without_crs (chars x.text)) found × ReadsTexts name ps xs others

-- These are the findings of the attribute that stands at the token i, if one does, of a trait with
-- this name and these parameters.
abbrev pub ReadsAt : Text → List (List ℕ) → List Leaf → ℕ → List Finding → Type 0
ReadsAt name ps xs i fs = (((c : ℕ) → IsAttribute xs i c → ⊥) × (fs ≡ []))
    ⊎ ((c : ℕ) × (options : List Argument) × IsAttribute xs i c
    × AreArguments xs (i + 7) options c × ReadsTexts name ps (texts_from xs false false options) fs)

-- These are the findings of the attributes among the parts of the front of such a trait, which
-- start at these tokens.
abbrev pub ReadsFronts : Text → List (List ℕ) → List Leaf → List ℕ → List Finding → Type 0
ReadsFronts name ps xs [] fs = fs ≡ []
ReadsFronts name ps xs (j ∷ js) fs = (found others : List Finding) × (fs ≡ found ++ others)
    × ReadsAt name ps xs j found × ReadsFronts name ps xs js others

-- The text of a token, or none.
abbrev pub name_text : Option Leaf → Text
name_text None = []
name_text (Some x) = chars x.text

-- These are the findings of the attributes of the item at the token k. The parts of its front start
-- at the tokens js. Only the attributes of a trait count.
abbrev pub ReadsItem : List Leaf → List ℕ → ℕ → List Finding → Type 0
ReadsItem xs js k fs = ((has_word_at xs k (codes "trait") ≡ false) × (fs ≡ []))
    ⊎ (IsTrue (has_word_at xs k (codes "trait"))
    × ReadsFronts (name_text (slice_get xs (k + 1))) (parameters xs (k + 2)) xs js fs)

-- These are the findings of the attributes from the token i on, where the fronts of items end
-- before these tokens: that of the first item starts at i, and each other one starts after the
-- token where the one before it ended.
abbrev pub ReadsItems : List Leaf → ℕ → List ℕ → List Finding → Type 0
ReadsItems xs i [] fs = (length xs ≤ i) × (fs ≡ [])
ReadsItems xs i (k ∷ ks) fs = (found others : List Finding) × (js : List ℕ)
    × (fs ≡ found ++ others) × IsItem xs i js k × ReadsItem xs js k found
    × ReadsItems xs (k + 1) ks others
