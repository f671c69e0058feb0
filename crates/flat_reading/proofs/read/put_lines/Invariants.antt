use Rattle.std.proofs.Common.{◌≡◌, ◌≤◌, length, map, take, drop}
use Rattle.rustc_parse_format.specs.Views.{pair}
use Rattle.flat_reading.specs.Meaning.{place}
use Rattle.flat_reading.proofs.read.put_lines.Given as goal

abbrev pub invariant-loop-i : goal.invariant-loop-i
invariant-loop-i l = record {
  held : l.i ≤ length l.lines → map place (take l.i l.lines) ≡ map pair (take l.i l.spans);
  kept : drop l.i l.lines ≡ drop l.i l.fn.lines;
}
