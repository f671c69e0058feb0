-- Labels of ranges of the source.
use Rattle.std.specs.Prelude.{ℕ, ◌+◌, ◌-◌, ◌==◌, if◌then◌else◌, max, List}
use Rattle.drawn_lines.specs.Places.{Extent, seen_extent}
use Rattle.drawn_labels.specs.Rows.{Mark}
use Rattle.drawn_labels.specs.declared.labels.Label.{Label as DeclaredLabel}
use Rattle.drawn_lines.specs.Frames.{Frame}
use Rattle.drawn_lines.specs.Windows.{shift}

-- A label: the sign under its columns, its text, and where it is.
pub record Label : Type 0 where
  pub sign : ℕ
  pub text : List ℕ
  pub extent : Extent

-- A label as a contract sees it.
abbrev pub seen_label : DeclaredLabel → Label
seen_label l = record { sign = l.sign; text = l.text.now; extent = seen_extent l.extent }

-- A label in the line in which it begins: at least one column.
unfoldable pub mark : ℕ → Label → Mark
mark cut l = record {
  line = l.extent.start.line;
  start = l.extent.start.column - cut;
  end = max (l.extent.start.column - cut + 1)
      (if l.extent.end.line == l.extent.start.line then l.extent.end.column - cut else 0);
  sign = l.sign;
  text = l.text;
}

-- A label as it is drawn in the line in which it begins.
abbrev pub mark_in : Frame → Label → Mark
mark_in f l = mark (shift f l.extent.start.line) l
