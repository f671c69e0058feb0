-- A file with its calls inlined.
use Rattle.std.specs.Prelude.{◌≡◌, ◌⊎◌, ℕ, Bool, List, [], IfSome, IsNone, IsPermutation, length}
use Rattle.std.specs.Prelude.{string_bytes}
use Rattle.std.specs.List.Sorted.{IsNonDecreasingBy}
use Rattle.rust_trees.specs.Leaves.{Leaf}
use Rattle.format_calls.specs.Rows.{Entry}
use Rattle.source_lint.specs.CallLists.{OfCalls}
use Rattle.source_lint.specs.Files.{AreLeaves}
use Rattle.source_lint.specs.Macros.{macro_names}
use Rattle.source_lint.specs.Reports.{IsReport}
use Rattle.source_report.specs.declared.report.Report.{Report}
use Rattle.file_fixes.specs.FileFixes.{IsNoWorse, bytes_or}
use Rattle.inlined_arguments.specs.Edits.{AreApart, Edit, MakeNoText, edited_text}
use Rattle.file_inlines.specs.CallInlines.{InlinesOn}
use Rattle.file_inlines.specs.Terms.{Terms}
use Rattle.file_inlines.specs.declared.calls.CallInlining.{CallInlining}
use Rattle.file_inlines.specs.declared.file.FileInlines.{FileInlines}

-- The edits fs are es in the order of their places.
pub record AreSorted (es fs : List Edit) : Type 0 where
  pub are_same : IsPermutation es fs
  pub rise : IsNonDecreasingBy (λ e. e.span.0) fs

-- The bytes cs are bs with these edits.
pub record IsEdited (bs : List ℕ) (es : List Edit) (cs : List ℕ) : Type 0 where
  pub in_order : List Edit
  pub are_sorted : AreSorted es in_order
  pub are_apart : AreApart 0 in_order (length bs)
  pub text : cs ≡ edited_text 0 in_order bs

-- There is no edit, or with the edits the bytes bs are no text.
abbrev pub GiveNoText : List ℕ → List Edit → Type 0
GiveNoText bs es = (es ≡ [])
    ⊎ ((fs : List Edit) × AreSorted es fs × MakeNoText bs fs)

-- With the edits the bytes bs have a report that is worse.
abbrev pub MakeWorse : List Entry → Bool → List ℕ → List Edit → Type 0
MakeWorse es is_new bs edits = (cs : List ℕ) × IsEdited bs edits cs
    × ((old new : Report) × IsReport es is_new bs old × IsReport es is_new cs new
    × (IsNoWorse old new → ⊥))

-- This becomes of the calls of a file with the bytes bs on these terms, in the order of their
-- names, and they have these edits.
pub record InlinesFile (t : Terms) (es : List Entry) (is_new : Bool) (bs : List ℕ)
    (rs : List CallInlining) (edits : List Edit) : Type 0 where
  pub leaves : List Leaf
  pub are_leaves : AreLeaves bs leaves
  pub inlines : OfCalls (InlinesOn t (record { text = bs; own = []; defined = macro_names leaves })
      is_new) es leaves rs edits

-- A file with the bytes bs and its calls inlined on these terms, where the report is that on the
-- new text. If the file is changed, it has the edits of all its calls, and is no worse. If it stays
-- as it is, there is no edit, or with the edits it is no text, or is worse.
pub record AreInlines (t : Terms) (es : List Entry) (is_new : Bool) (bs : List ℕ)
    (x : FileInlines) : Type 0 where
  pub edits : List Edit
  pub inlines : InlinesFile t es is_new bs x.calls.items edits
  pub text : IfSome x.text (λ s. IsEdited bs edits (string_bytes s))
  pub report : IsReport es is_new (bytes_or x.text bs) x.report
  pub no_worse : IfSome x.text (λ s. (old : Report) × IsReport es is_new bs old
      × IsNoWorse old x.report)
  pub stays : IsNone x.text → GiveNoText bs edits ⊎ MakeWorse es is_new bs edits
