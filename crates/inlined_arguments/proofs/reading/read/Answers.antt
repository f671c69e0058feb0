use Rattle.std.proofs.Common.{◌≡◌, ◌∙◌, chars, map, sym, true}
use Rattle.std.specs.List.{list_all}
use Rattle.std.proofs.lemmas.Bool.{false≢true}
use Rattle.std.proofs.lemmas.List.Sums.{AllPass-from_list_all, list_all-from_AllPass}
use Rattle.rustc_parse_format.specs.World.{quote_offset}
use Rattle.call_faults.specs.CallFaults.{is_warning}
use Rattle.call_faults.specs.Views.{seen_fault, seen_given, start}
use Rattle.inlined_arguments.proofs.CleanPieces.{clean-pieces}
use Rattle.inlined_arguments.proofs.reading.read.Goals as goal

pub returns-then-are_warnings : goal.returns-then-are_warnings
returns-then-are_warnings c =
    let walk = c.in_ok-report.ensures.walk.0 in
    let all : list_all is_warning (map seen_fault c.in_ok-report.report.faults.items) ≡ true
    = rw c.deref.ensures.value at (sym c.are_warnings.ensures ∙ c.if-are_warnings.true) in (
      walk,
      clean-pieces c.args.string.captures_variables (map seen_given c.args.arguments.now)
          (chars c.args.string.text.now) (start c.args.string).world
          (quote_offset c.args.string.style) _ walk
          (c.in_ok-report.ensures.clean.0 (AllPass-from_list_all is_warning _ all)),
    )

pub returns : goal.returns
returns c = λ clean. false≢true (sym c.if-are_warnings.false
    ∙ (rw c.deref.ensures.value at c.are_warnings.ensures)
    ∙ list_all-from_AllPass is_warning _ (c.in_ok-report.ensures.clean.1 clean))
