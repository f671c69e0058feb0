-- A report and names as a contract sees them: texts as their characters.
use Rattle.std.specs.Prelude.{ℕ, List, map, chars}
use denote.Ref.{Bor}
use Rattle.rustc_parse_format.specs.Characters.{Text}
use Rattle.placeholder_check.specs.declared.checker.Report.{Report as DeclaredReport}
use Rattle.placeholder_check.specs.Report.{Report}

-- A name as its characters.
abbrev pub text : Bor (List ℕ) → Text
text w = chars w.now

-- Names as their characters.
abbrev pub texts : List (Bor (List ℕ)) → List Text
texts ws = map text ws

-- A report as a contract sees it.
abbrev pub seen_report : DeclaredReport → Report
seen_report r = record {
  missing_index = r.missing_index.items;
  missing_name = texts r.missing_name.items;
  unused_index = r.unused_index.items;
  unused_name = texts r.unused_name.items;
}
