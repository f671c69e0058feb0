-- The templates of a call, one after the other. Each is read as if it stood alone, but placeholders
-- without a position count through all of them.
use Rattle.std.specs.Prelude.{ℕ, suc, false, ◌++◌, if◌then◌else◌, List, [], ◌∷◌}
use Rattle.std.specs.Prelude.{Option, Some, None, is_some}
use Rattle.rustc_parse_format.specs.Characters.{Text}
use Rattle.rustc_parse_format.specs.Call.{pieces_of}
use Rattle.rustc_parse_format.specs.Faults.{Fault}
use Rattle.rustc_parse_format.specs.State.{State, after_all, calls, first_state}
use Rattle.rustc_parse_format.specs.Types.{Piece, InlineAsm}
use Rattle.rustc_parse_format.specs.World.{Place, pieces_in}
use Rattle.text_faults.specs.Texts.{text_fault}
use Rattle.asm_faults.specs.AsmFaults.{AsmFault, TemplateFault}
use Rattle.asm_faults.specs.Lookups.{Lookup, next_after_pieces, piece_lookups}

-- A template: the text that it stands for, the number of hashes of a raw literal, and the literal
-- as it is in the source, if it is known.
pub record Template : Type 0 where
  pub text : Text
  pub style : Option ℕ
  pub snippet : Option Text

-- A parser at the start of a template.
abbrev pub start : Template → State
start t = first_state InlineAsm t.text t.style t.snippet false

-- The pieces of a template.
abbrev pub pieces : Template → List (Piece Place)
pieces t = pieces_in (start t).world (pieces_of (calls (start t)))

-- The lookups for the template k, where its first placeholder without a position means n.
abbrev pub template_lookups : ℕ → ℕ → Template → List Lookup
template_lookups k n t =
    piece_lookups k n (after_all (start t) (calls (start t))).arg_places (pieces t)

-- The index that the next placeholder without a position means after a template.
abbrev pub next_after_template : ℕ → Template → ℕ
next_after_template n t = next_after_pieces n (pieces t)

-- The lookups for these templates, of which the first has the index k, up to the first one that is
-- not in the grammar.
abbrev pub lookups_from : ℕ → ℕ → List Template → List Lookup
lookups_from k n [] = []
lookups_from k n (t ∷ ts) = if is_some (text_fault (start t)) then []
    else template_lookups k n t ++ lookups_from (suc k) (next_after_template n t) ts

-- The fault of the template k, or else this one.
abbrev pub fault_or : ℕ → Option (Fault Place) → Option AsmFault → Option AsmFault
fault_or k None o = o
fault_or k (Some f) o = Some (TemplateFault k f)

-- The fault of the first of these templates that is not in the grammar, if there is one.
abbrev pub template_fault : ℕ → List Template → Option AsmFault
template_fault k [] = None
template_fault k (t ∷ ts) = fault_or k (text_fault (start t)) (template_fault (suc k) ts)
