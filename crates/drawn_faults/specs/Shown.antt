-- What the drawing of a diagnostic shows of the source, said by the source: the theorems on
-- drawings are about this.
use Rattle.std.specs.Prelude.{◌≡◌, ◌<◌, ◌≤◌, ◌⊎◌, ℕ, ◌+◌, ◌++◌, ◌==◌, Bool, true, false, List, ◌∷◌}
use Rattle.std.specs.Prelude.{[], Option, None, Some, codes, decimal, chars, filter}
use Rattle.std.specs.Prelude.{if◌then◌else◌, map}
use Rattle.std.specs.List.{AllByRecursion}
use Rattle.std.specs.Option.{option_map_or}
use Rattle.drawn_lines.specs.Frames.{Frame}
use Rattle.drawn_lines.specs.Glyphs.{glyph_bytes, run}
use Rattle.drawn_lines.specs.Lines.{parting}
use Rattle.drawn_lines.specs.Painting.{has_colours, painted_text, palette_of}
use Rattle.drawn_lines.specs.Places.{Picture, extent, offset, origin}
use Rattle.drawn_lines.specs.Positions.{IsSpot}
use Rattle.drawn_lines.specs.declared.extent.Spot.{Spot}
use Rattle.drawn_lines.specs.declared.paint.Style.TheVariants.{Bold, Primary, Secondary}
use Rattle.shown_text.specs.Shown.{shown}
use Rattle.shown_text.specs.declared.gate.Kind.TheVariants.{Line}
use Rattle.drawn_labels.specs.Labels.{Label, mark_in}
use Rattle.drawn_labels.specs.LongSigns.{AddsLong}
use Rattle.drawn_labels.specs.Rows.{Mark}
use Rattle.drawn_labels.specs.Signs.{AddsLabels, IsAmong}
use Rattle.drawn_faults.specs.Diagnostics.{Diagnostic, SourceLabel, arrow, first_spot, gap_after}
use Rattle.drawn_faults.specs.Diagnostics.{helps_rows, in_line, is_before, label_of, level_of}
use Rattle.drawn_faults.specs.Diagnostics.{level_word, notes_rows, parting_above}

-- The spot at which a label begins.
abbrev pub start_of : Picture → SourceLabel → Spot
start_of p l = (extent p l.span).start

-- A primary one of these labels begins at this spot of the source.
abbrev pub OneBegins : Picture → List SourceLabel → Spot → Type 0
OneBegins p [] at = ⊥
OneBegins p (l ∷ ls) at =
    ((l.is_primary ≡ true) × IsSpot (offset p l.span.0) (chars p.source) at) ⊎ OneBegins p ls at

-- No primary one of these labels begins before this spot.
abbrev pub NoneBefore : Picture → List SourceLabel → Spot → Type 0
NoneBefore p ls at =
    AllByRecursion (λ l. l.is_primary ≡ true → is_before (start_of p l) at ≡ false) ls

-- None of these labels is primary.
abbrev pub NoneIsPrimary : List SourceLabel → Type 0
NoneIsPrimary ls = AllByRecursion (λ l. l.is_primary ≡ false) ls

-- The first spot at which a primary one of these labels begins, or the start of the source if none
-- is primary.
abbrev pub IsFirst : Picture → List SourceLabel → Spot → Type 0
IsFirst p ls at =
    (OneBegins p ls at × NoneBefore p ls at) ⊎ (NoneIsPrimary ls × (at ≡ origin))

-- A spot as an arrow names it: the path, the line, and the column, which counts characters from 1.
abbrev pub spot_name : Picture → Spot → List ℕ
spot_name p at =
    shown Line p.path
    ++ (codes ":" ++ (decimal (p.line_start + at.line)
    ++ (codes ":" ++ (decimal (at.chars + 1) ++ codes "\n"))))

-- The row that says what a diagnostic is.
abbrev pub title_row : Picture → Diagnostic → List ℕ
title_row p d =
    let colours = palette_of p.colours (level_of d.is_warning) in
    painted_text colours Primary (level_word d.is_warning)
    ++ (painted_text colours Bold (codes ": " ++ glyph_bytes d.title) ++ codes "\n")

-- Under the title of a diagnostic the arrow names the first spot at which a primary label begins.
pub record PointsAt (p : Picture) (d : Diagnostic) (text : List ℕ) : Type 0 where
  pub at : Spot
  pub is_first : IsFirst p d.labels at
  pub columns : ℕ
  pub rows_below : List ℕ
  pub whole : text ≡ title_row p d
      ++ (run columns 32
      ++ (painted_text (palette_of p.colours (level_of d.is_warning)) Secondary (codes "--> ")
      ++ (spot_name p at ++ rows_below)))

-- No label is in a line above that of a label before it.
abbrev pub Descend : List Mark → Type 0
Descend [] = Unit {0}
Descend (m ∷ ms) = AllByRecursion (λ n. m.line ≤ n.line) ms × Descend ms

-- The labels ms are the labels ls, line by line.
pub record AreByLine (ls ms : List Mark) : Type 0 where
  pub each_is : (m : Mark) → IsAmong m ms → IsAmong m ls
  pub each_stays : (m : Mark) → IsAmong m ls → IsAmong m ms
  pub descend : Descend ms

-- A line with these labels is added to a text, unless it was drawn before: after the rows between,
-- the line, and under it the signs of its labels in their columns, and no sign elsewhere.
abbrev pub AddsNext : Bool → Frame → Option ℕ → ℕ → List Mark → List ℕ → List ℕ → Type 0
AddsNext true f before n ms old new = new ≡ old
AddsNext false f before n ms old new =
    AddsLabels f n (in_line n ms) (old ++ gap_after f before n) new

-- The lines in which these labels begin are added to a text, each once.
abbrev pub AddsLines : Frame → Option ℕ → List Mark → List ℕ → List ℕ → Type 0
AddsLines f before [] old new = new ≡ old
AddsLines f before (m ∷ ms) old new = (mid : List ℕ)
    × AddsNext (option_map_or (λ n. n == m.line) before false) f before m.line (m ∷ ms) old mid
    × AddsLines f (Some m.line) ms mid new

-- The same for labels in any order.
abbrev pub AddsEach : Frame → List Label → List ℕ → List ℕ → Type 0
AddsEach f ls old new = (ms : List Mark) × AreByLine (map (mark_in f) ls) ms
    × AddsLines f None ms old new

-- The lines of one label are added to a text: its line with its signs under it, or the lines of a
-- label that ends in a later one.
pub record AddsOne (f : Frame) (l : Label) (old new : List ℕ) : Type 0 where
  pub in_line : l.extent.start.line ≡ l.extent.end.line → AddsEach f (l ∷ []) old new
  pub in_lines : l.extent.start.line < l.extent.end.line → has_colours f.gutter.palette ≡ false
      → AddsLong f l old new
  pub in_order : l.extent.start.line ≤ l.extent.end.line

-- The lines of labels are added to a text.
abbrev pub AddsAll : Frame → List Label → List ℕ → List ℕ → Type 0
AddsAll f (l ∷ []) old new = AddsOne f l old new
AddsAll f [] old new = AddsEach f [] old new
AddsAll f (l ∷ k ∷ ls) old new = AddsEach f (l ∷ k ∷ ls) old new

-- Between its title, its arrow and the rows below, a drawing has the lines of its labels.
pub record ShowsLabels (p : Picture) (d : Diagnostic) (text : List ℕ) : Type 0 where
  pub layout : Frame
  pub is_of : layout.picture ≡ p
  pub mid : List ℕ
  pub labels : AddsAll layout (map (label_of p) d.labels)
      (title_row p d ++ (arrow layout (first_spot (map (label_of p) d.labels)) ++ parting layout))
      mid
  pub whole : text ≡ mid
      ++ (parting_above layout d ++ (notes_rows p layout.gutter d.notes
      ++ (helps_rows layout d.helps ++ codes "\n")))
