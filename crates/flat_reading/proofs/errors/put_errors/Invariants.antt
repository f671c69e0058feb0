use Rattle.std.proofs.Common.{◌≡◌, ◌≤◌, length, map, min, take, drop}
use Rattle.rustc_parse_format.specs.Views.{seen_error}
use Rattle.flat_reading.specs.declared.records.Fault.{Fault}
use Rattle.flat_reading.specs.ErrorRecords.{Grows, HoldsErrors, texts_len}
use Rattle.flat_reading.proofs.errors.put_errors.Given as goal

abbrev pub invariant-loop-i : goal.invariant-loop-i
invariant-loop-i l = record {
  grows : Grows l.fn.texts l.texts 0 l.size;
  holds : l.size ≤ length l.texts → l.i ≤ length l.faults
      → HoldsErrors (take l.size l.texts) (take l.i l.faults) (map seen_error (take l.i l.errors));
  found : l.i ≤ length l.faults → map (λ (f : Fault). f.step) (take l.i l.faults)
      ≡ take l.i l.finders.calls;
  counted : l.size ≡ min (texts_len (map seen_error (take l.i l.errors))) 18446744073709551615;
  kept : drop l.i l.faults ≡ drop l.i l.fn.faults;
}
