-- The findings of the faults of a call.
use Rattle.std.specs.Prelude.{◌≡◌, ℕ, Bool, true, false, List, [], ◌∷◌, filter}
use Rattle.std.specs.Prelude.{◌++◌, ◌||◌, Option, Some, None, is_some, length, map, not}
use Rattle.std.specs.Prelude.{if◌then◌else◌, string_bytes}
use Rattle.std.specs.List.{list_any}
use Rattle.rustc_parse_format.specs.World.{Place}
use Rattle.placeholder_check.specs.Report.{IsReport, Report}
use Rattle.placeholder_check.specs.Uses.{uses}
use Rattle.call_faults.specs.CallFaults.{CallFault, is_warning, PositionalAfterNamed, RepeatedName}
use Rattle.call_faults.specs.CallFaults.{TextFault, MissingName, UnknownTrait, MissingArguments}
use Rattle.call_faults.specs.CallFaults.{UnusedArguments, RedundantArguments, NameUsedByIndex}
use Rattle.call_faults.specs.Labels.{Call, labels}
use Rattle.call_faults.specs.Notes.{help, notes}
use Rattle.call_faults.specs.Spots.{Edit, Help}
use Rattle.text_faults.specs.declared.spots.Spot.{Spot}
use Rattle.call_faults.specs.Words.{TitleParts, call_id, title}
use Rattle.source_report.specs.declared.report.Edit.{Edit as FileEdit}
use Rattle.source_report.specs.declared.report.Finding.{Finding}
use Rattle.source_report.specs.declared.report.Help.{Help as FileHelp}

-- The parts of a call that titles tell, with the numbers that are too large.
abbrev pub report_in : Call → List ℕ → TitleParts Place
report_in c ns = record {
  arguments = c.arguments;
  count = length c.kept;
  pieces = c.pieces;
  total = c.total;
  numbers = ns;
}

-- The source that an edit copies: none if it copies no place.
abbrev pub Copies : Option Spot → List ℕ → Type 0
Copies None s = s ≡ []
Copies (Some p) s = Unit {0}

-- The new text of an edit: its own, the source that it copies, and the rest.
abbrev pub HasText : Edit → List ℕ → Type 0
HasText e t = (s : List ℕ) × (t ≡ e.text ++ (s ++ e.rest)) × Copies e.copied s

-- These edits of a file have the texts of these edits, one for each.
abbrev pub TellEdits : List Edit → List FileEdit → Type 0
TellEdits [] [] = Unit {0}
TellEdits [] (x ∷ xs) = ⊥
TellEdits (e ∷ es) [] = ⊥
TellEdits (e ∷ es) (x ∷ xs) = HasText e (string_bytes x.text) × TellEdits es xs

-- The help in a file is this one, if there is one.
abbrev pub TellsHelp : Option Help → Option FileHelp → Type 0
TellsHelp None None = Unit {0}
TellsHelp None (Some x) = ⊥
TellsHelp (Some h) None = ⊥
TellsHelp (Some h) (Some x) = (string_bytes x.text ≡ h.text) × TellEdits h.edits x.edits.items

-- One of the edits copies source.
abbrev pub copies : List Edit → Bool
copies es = list_any (λ e. is_some e.copied) es

-- The help that counts. Where the number of arguments is not known, none counts that copies source,
-- since that goes into an argument.
abbrev pub counted_help : Bool → Option Help → Option Help
counted_help b None = None
counted_help b (Some h) = if b || not (copies h.edits) then Some h else None

-- The finding says what the fault is: its texts are those of the fault in the call c, whose number
-- of arguments is known or not.
pub record Tells (b : Bool) (c : Call) (f : CallFault) (x : Finding) : Type 0 where
  pub is_warning : x.is_warning ≡ is_warning f
  pub id : x.id.now ≡ call_id f
  pub title : (r : Report) → IsReport (uses c.pieces) (length c.kept) [] r
      → string_bytes x.title ≡ title (report_in c r.missing_index) f
  pub are_primary : map (λ l. l.is_primary) x.labels.items ≡ map (λ l. l.is_primary) (labels c f)
  pub label_texts : map (λ l. string_bytes l.text) x.labels.items ≡ map (λ l. l.text) (labels c f)
  pub note_texts : map (λ n. string_bytes n.text) x.notes.items ≡ map (λ n. n.text) (notes c f)
  pub shown_counts : map (λ n. length n.ranges.items) x.notes.items
      ≡ map (λ n. length n.spots) (notes c f)
  pub has_help : TellsHelp (counted_help b (help c f)) x.help

-- These findings say what these faults are, one for each.
abbrev pub TellAll : Bool → Call → List CallFault → List Finding → Type 0
TellAll b c [] [] = Unit {0}
TellAll b c [] (x ∷ xs) = ⊥
TellAll b c (f ∷ fs) [] = ⊥
TellAll b c (f ∷ fs) (x ∷ xs) = Tells b c f x × TellAll b c fs xs

-- The fault is one of the format string.
abbrev pub is_text_fault : CallFault → Bool
is_text_fault (PositionalAfterNamed i ns) = false
is_text_fault (RepeatedName i f) = false
is_text_fault (TextFault f) = true
is_text_fault (MissingName r w) = false
is_text_fault (UnknownTrait k t) = false
is_text_fault (MissingArguments rs) = false
is_text_fault (UnusedArguments is) = false
is_text_fault (RedundantArguments is) = false
is_text_fault (NameUsedByIndex r i) = false

-- The faults that count where the number of arguments is known, and where it is not.
abbrev pub counted_faults : Bool → List CallFault → List CallFault
counted_faults true fs = fs
counted_faults false fs = filter is_text_fault fs

-- These are the findings of the faults of a call that count.
abbrev pub AreFindings : Bool → Call → List Finding → Type 0
AreFindings b c xs = TellAll b c (counted_faults b c.faults) xs
