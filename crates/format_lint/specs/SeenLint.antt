-- A task, a source, faults that are shown and an output, as a contract sees them.
use Rattle.std.specs.Prelude.{List, map, option_map, string_bytes}
use Rattle.rustc_parse_format.specs.Views.{seen_mode}
use Rattle.rustc_parse_format.specs.FaultViews.{seen_fault}
use Rattle.format_lint.specs.declared.task.Task.{Task as DeclaredTask}
use Rattle.format_lint.specs.declared.faults.Source.{Source as DeclaredSource}
use Rattle.format_lint.specs.declared.findings.Finding.{Finding as DeclaredFinding}
use Rattle.format_lint.specs.declared.findings.Findings.{Findings}
use Rattle.format_lint.specs.declared.outputs.Outputs.{Outputs as DeclaredShown}
use Rattle.format_lint.specs.Findings.{AreCounted, Finding}
use Rattle.format_lint.specs.Lint.{Outputs, Source, Task}

-- A task as a contract sees it.
abbrev pub seen_task : DeclaredTask → Task
seen_task t = record {
  mode = seen_mode t.mode;
  is_literal = t.is_literal;
  path = t.path.now;
  output_kind = t.output_kind;
  width = t.width;
  colours = t.colours;
}

-- A source as a contract sees it.
abbrev pub seen_source : DeclaredSource → Source
seen_source s = record {
  text = s.text.now;
  style = s.style;
  literal = option_map (λ l. l.now) s.literal;
  lines = s.lines.now;
  line_start = s.line_start;
  start = s.start;
}

-- A fault that is shown, as a contract sees it.
abbrev pub seen_finding : DeclaredFinding → Finding
seen_finding f = record { fault = seen_fault f.fault; is_consequence = f.is_consequence }

-- The first of these faults are kept, and the others and the mistakes are counted.
abbrev pub Keeps : Findings → List Finding → Type 0
Keeps f fs = AreCounted (map seen_finding f.first.items) f.others f.mistake_count fs

-- The result of a task, as a contract sees it.
abbrev pub seen_outputs : DeclaredShown → Outputs
seen_outputs x = record {
  output = string_bytes x.output;
  error_output = string_bytes x.error_output;
  mistake_count = x.mistake_count;
}
