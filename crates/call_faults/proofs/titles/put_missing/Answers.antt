use Rattle.std.proofs.Common.{◌≡◌, ◌∙◌, length, map, rules, sym, true}
use Rattle.std.specs.List.{list_any}
use Rattle.rustc_parse_format.specs.Views.{seen_piece}
use Rattle.call_faults.specs.Words.{has_number}
use Rattle.call_faults.proofs.titles.put_missing.Goals as goal

pub returns-then-have_numbers : goal.returns-then-have_numbers
returns-then-have_numbers c = λ r h.
    let count : c.len-count.result ≡ length c.args.call.now.indices.items = search rules in
    let is = c.in_ok-report.ensures.only r
    (rw (c.deref-then-have_numbers.ensures.value, count) h) in
    let some : list_any has_number (map seen_piece c.args.call.now.pieces.items) ≡ true
    = sym (rw c.deref.ensures.value at c.have_numbers.ensures) ∙ c.if-have_numbers.true in
    let written = c.in_ok-put_numbers_title.ensures in
    rw (some, is) (rw (c.deref-then-have_numbers-2.ensures.value, count) at written)
