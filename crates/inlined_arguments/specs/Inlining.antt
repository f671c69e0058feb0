-- What inlining is: the arguments that are variables go, and the others stay in their order. The
-- literal keeps its style, and changes only where it refers to arguments. Nothing is wrong with the
-- call before or after it, and it means the same.
use Rattle.std.specs.Prelude.{◌≡◌, ◌≢◌, ◌++◌, ℕ, Bool, IsUtf8, List, map, length, Some, None, chars}
use Rattle.std.specs.Prelude.{option_map}
use Rattle.rustc_parse_format.specs.Characters.{Text}
use Rattle.rustc_parse_format.specs.Call.{pieces_of}
use Rattle.rustc_parse_format.specs.Literal.{IsLiteral, newline}
use Rattle.rustc_parse_format.specs.State.{State, calls, first_state}
use Rattle.rustc_parse_format.specs.Types.{Format, Piece}
use Rattle.rustc_parse_format.specs.World.{Place, pieces_in}
use Rattle.call_faults.specs.Arguments.{FormatArgument}
use Rattle.call_faults.specs.Clean.{IsClean}
use Rattle.inlined_arguments.specs.Conditions.{Call, condition}
use Rattle.inlined_arguments.specs.Edits.{AreApart, Edit, edited_text, new_edits}
use Rattle.inlined_arguments.specs.Meaning.{meaning}
use Rattle.inlined_arguments.specs.Values.{Slot, slot_argument, kept_slots, slots}
use Rattle.inlined_arguments.specs.Variables.{gone_from}
use Rattle.inlined_arguments.specs.declared.call.Obstacle.{Obstacle}
use Rattle.inlined_arguments.specs.declared.call.Obstacle.TheVariants.{Uncounted, NoVariable, Mixed}
use Rattle.inlined_arguments.specs.declared.call.Obstacle.TheVariants.{CapturesNone, Alone}
use Rattle.inlined_arguments.specs.declared.call.Obstacle.TheVariants.{Comment, Faulty, NoLiteral}
use Rattle.inlined_arguments.specs.declared.call.Obstacle.TheVariants.{ConstForm, OtherMeaning}

-- A parser at the start of the format string of a call.
abbrev pub start : Call → State
start c = first_state Format c.text c.style (option_map chars c.literal) c.appended_newline

-- The pieces of that string, with their places in the literal.
abbrev pub pieces : Call → List (Piece Place)
pieces c = pieces_in (start c).world (pieces_of (calls (start c)))

-- Nothing is wrong with a call with these arguments and this string, which has these pieces alone.
abbrev pub ReadsClean : Bool → List FormatArgument → Text → List (Piece (Unit {0})) → Type 0
ReadsClean captures gs t ps = IsClean captures gs t × ((c : IsClean captures gs t) → c.pieces ≡ ps)

-- Nothing is wrong with a call with these slots and this string.
abbrev pub IsCleanCall : Bool → List Slot → Text → Type 0
IsCleanCall captures ss t = IsClean captures (map slot_argument ss) t

-- Nothing is wrong with a call with the slots ts and the string t, and it means what a call means
-- that has the slots ss and a string with the pieces ps.
pub record IsCleanAs {A : Type 0} (captures : Bool) (ss : List Slot) (ps : List (Piece A))
    (ts : List Slot) (t : Text) : Type 0 where
  pub clean : IsCleanCall captures ts t
  pub same : meaning ss ps ≡ meaning ts clean.pieces

-- The call c with this literal, and without the arguments that are variables, means what c does,
-- where ps are the pieces of the string of c. The literal has the style of that of c, and nothing
-- is wrong with the new call.
pub record MeansSame {A : Type 0} (c : Call) (ps : List (Piece A)) (literal : Text) : Type 0 where
  pub text : Text
  pub is_literal : IsLiteral c.style literal text
  pub new : IsCleanAs c.captures_variables (slots c.arguments) ps (kept_slots (slots c.arguments))
      (text ++ newline c.appended_newline)

-- The edits that put the variables among the arguments of the call c into its literal.
abbrev pub call_edits : Call → List Edit
call_edits c = new_edits (slots c.arguments) (pieces c)

-- With its edits the literal of the call c is bs, and the call with that literal, and without the
-- arguments that are variables, means what c does. Nothing is wrong with either call, so each
-- argument of c is used.
pub record KeepsMeaning (c : Call) (bs : List ℕ) : Type 0 where
  pub literal : List ℕ
  pub is_literal : c.literal ≡ Some literal
  pub are_apart : AreApart 0 (call_edits c) (length literal)
  pub is_edited : bs ≡ edited_text 0 (call_edits c) literal
  pub is_text : IsUtf8 bs
  pub old : IsCleanCall c.captures_variables (slots c.arguments) c.text
  pub means_same : MeansSame c old.pieces (chars bs)

-- The call c is inlined: no reason is seen without reading its string, and it keeps its meaning.
abbrev pub IsInlinable : Bool → Call → Type 0
IsInlinable allows_mixed c = (condition allows_mixed c ≡ None)
    × ((bs : List ℕ) × KeepsMeaning c bs)

-- A call that was inlined: the edits of its literal, the bytes of the literal with them, and the
-- indices of the arguments that go.
pub record InlinedCall : Type 0 where
  pub edits : List Edit
  pub literal : List ℕ
  pub removed_indices : List ℕ

-- The call c was inlined, and this is what was made of it. The arguments that go are those that are
-- variables.
pub record IsInlined (allows_mixed : Bool) (c : Call) (r : InlinedCall) : Type 0 where
  pub may_be : condition allows_mixed c ≡ None
  pub edits : r.edits ≡ call_edits c
  pub removed_indices : r.removed_indices ≡ gone_from 0 c.arguments
  pub keeps_meaning : KeepsMeaning c r.literal

-- No reason is seen without reading the string of the call c, whose literal is known.
abbrev pub MayBeRead : Bool → Call → Type 0
MayBeRead m c = (condition m c ≡ None) × (c.literal ≢ None)

-- The call c is left as it is for this reason, the first one that holds.
abbrev pub IsUnchanged : Bool → Call → Obstacle → Type 0
IsUnchanged m c Uncounted = condition m c ≡ Some Uncounted
IsUnchanged m c NoVariable = condition m c ≡ Some NoVariable
IsUnchanged m c Mixed = condition m c ≡ Some Mixed
IsUnchanged m c CapturesNone = condition m c ≡ Some CapturesNone
IsUnchanged m c Alone = condition m c ≡ Some Alone
IsUnchanged m c ConstForm = condition m c ≡ Some ConstForm
IsUnchanged m c Comment = condition m c ≡ Some Comment
IsUnchanged m c NoLiteral = (condition m c ≡ None) × (c.literal ≡ None)
IsUnchanged m c Faulty = MayBeRead m c
    × (IsCleanCall c.captures_variables (slots c.arguments) c.text → ⊥)
IsUnchanged m c OtherMeaning = MayBeRead m c
    × IsCleanCall c.captures_variables (slots c.arguments) c.text
    × ((bs : List ℕ) → KeepsMeaning c bs → ⊥)
