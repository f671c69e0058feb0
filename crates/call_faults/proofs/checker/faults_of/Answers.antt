use Rattle.std.proofs.Common.{◌≡◌, ◌++◌, ◌<◌, ◌∙◌, [], ap, arith, length, map, false, List, subst}
use Rattle.std.proofs.Common.{ℕ, ◌+◌}
use Rattle.std.specs.List.{AllByRecursion, list_any}
use Rattle.std.proofs.lemmas.List.{length-map}
use Rattle.rustc_parse_format.specs.Views.{seen_piece}
use Rattle.call_faults.specs.Arguments.{kept_after, list_faults}
use Rattle.call_faults.specs.Calls.{is_last}
use Rattle.call_faults.specs.CallFaults.{CallFault}
use Rattle.call_faults.specs.Comparison.{comparison_faults}
use Rattle.call_faults.specs.Lookups.{lookups_from}
use Rattle.call_faults.specs.Views.{Holds, seen_fault, seen_given, seen_lookup, start}
use Rattle.text_faults.specs.Texts.{text_fault}
use Rattle.call_faults.proofs.Checking.{read-total}
use Rattle.call_faults.proofs.Comparing.{kept-below}
use Rattle.call_faults.proofs.checker.faults_of.Goals as goal

pub returns-clause-faults : goal.returns-clause-faults
returns-clause-faults c = λ e.
    let gs = map seen_given c.args.call_arguments.now in
    let ks = kept_after [] 0 gs in
    let holds : Holds ks c.in-Some.arguments = rw c.in-Some.is at c.in_ok-arguments.ensures.some in
    let goes_on : list_any is_last (list_faults [] 0 gs) ≡ false
    = rw c.in-Some.is at c.in_ok-arguments.ensures.ends in
    let count : 0 + length gs ≡ length c.args.call_arguments.now
    = omega (arith, length-map c.args.call_arguments.now seen_given) in
    let below : AllByRecursion (λ k. k.index < length c.args.call_arguments.now) ks
    = subst (λ (n : ℕ). AllByRecursion (λ k. k.index < n) ks) count (kept-below [] 0 gs tt) in
    let outcome : map seen_fault c.arguments_of.new.faults.items ≡ list_faults [] 0 gs
    = rw c.new-faults.ensures.items at c.in_ok-arguments.ensures.outcome in
    let looked : map seen_lookup c.deref-2.result.now
    ≡ lookups_from 0 (map seen_piece c.args.pieces.now)
    = rw c.deref-2.ensures.value c.in_ok-lookups.ensures in
    read-total c.args.string.captures_variables gs (text_fault (start c.args.string))
    (map seen_piece c.args.pieces.now) (map seen_fault c.compare.new.faults.items)
    (e ∙ c.if-not-is_read.false) goes_on
    (c.in_ok-compare.ensures ks holds below
    ∙ ap (λ (xs : List CallFault). xs
    ++ comparison_faults c.args.string.captures_variables ks (map seen_lookup c.deref-2.result.now))
    outcome
    ∙ ap (λ ls. list_faults [] 0 gs
    ++ comparison_faults c.args.string.captures_variables ks ls) looked)
