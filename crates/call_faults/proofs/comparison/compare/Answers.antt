use Rattle.std.proofs.Common.{◌≡◌, ◌++◌, ◌∙◌, [], ap, length, map, rules, sym}
use Rattle.std.specs.List.{filter_map}
use Rattle.std.proofs.lemmas.List.{append-nil, length-map, map-append}
use Rattle.call_faults.specs.Comparison.{invalid_reference, is_settled, lookup_faults}
use Rattle.call_faults.specs.Comparison.{invalid_references, names, unused_arguments}
use Rattle.call_faults.specs.Views.{seen_fault, seen_entry, seen_lookup}
use Rattle.call_faults.proofs.Comparing.{compared-parts, holds-knows, joined, left-is}
use Rattle.call_faults.proofs.comparison.compare.Goals as goal

pub returns-then-not-is_settled : goal.returns-then-not-is_settled
returns-then-not-is_settled c = λ ks h a.
    let ls = map seen_lookup c.args.lookups.now in
    let count : c.len.result ≡ length c.args.arguments.now.list.items = search rules in
    let left : map seen_entry c.in_ok-rest.rest.items ≡ unused_arguments ks ls =
    c.in_ok-rest.ensures
    ∙ (rw (c.deref-2.ensures.value, c.deref.ensures.value, h.list)
    (left-is c.in_ok-marks.marks.items ks ls (c.in_ok-marks.ensures ks h a))) in
    let lacked : c.in_ok-references.references.items ≡ invalid_references ks ls =
    c.in_ok-references.ensures
    ∙ ap (λ n. filter_map (invalid_reference n) ls)
    (count ∙ sym (length-map c.args.arguments.now.list.items seen_entry) ∙ ap length h.list) in
    let found : map seen_fault c.look_up.new.faults.items
    ≡ lookup_faults c.args.captures_variables (names ks) ls = rw c.new-list.ensures.items
    at (c.in_ok-look_up.ensures (names ks) (holds-knows ks c.args.arguments.now h)) in
    joined (map seen_fault c.args.faults.now.items) (map seen_fault c.append.new.self.items)
    (map seen_fault c.push_missing_fault.new.faults.items)
    (map seen_fault c.push_unused_faults.new.faults.items) _
    (map seen_fault c.look_up.new.faults.items) _ _ [] _
    (ap (map seen_fault) c.in_ok-append.ensures.items
    ∙ map-append seen_fault c.args.faults.now.items c.look_up.new.faults.items)
    c.in_ok-push_missing_fault.ensures
    (rw c.deref-6.ensures.value at c.in_ok-push_unused_faults.ensures)
    (sym (append-nil (map seen_fault c.push_unused_faults.new.faults.items)))
    (compared-parts c.args.captures_variables ks ls _ _ _ _ found lacked left
    (sym (rw (c.deref-3.ensures.value, c.deref-4.ensures.value, c.deref-5.ensures.value)
    at c.is_settled-is_settled.ensures) ∙ c.if-not-is_settled.true))

pub returns : goal.returns
returns c = λ ks h a.
    let ls = map seen_lookup c.args.lookups.now in
    let count : c.len.result ≡ length c.args.arguments.now.list.items = search rules in
    let left : map seen_entry c.in_ok-rest.rest.items ≡ unused_arguments ks ls =
    c.in_ok-rest.ensures
    ∙ (rw (c.deref-2.ensures.value, c.deref.ensures.value, h.list)
    (left-is c.in_ok-marks.marks.items ks ls (c.in_ok-marks.ensures ks h a))) in
    let lacked : c.in_ok-references.references.items ≡ invalid_references ks ls =
    c.in_ok-references.ensures
    ∙ ap (λ n. filter_map (invalid_reference n) ls)
    (count ∙ sym (length-map c.args.arguments.now.list.items seen_entry) ∙ ap length h.list) in
    let found : map seen_fault c.look_up.new.faults.items
    ≡ lookup_faults c.args.captures_variables (names ks) ls = rw c.new-list.ensures.items
    at (c.in_ok-look_up.ensures (names ks) (holds-knows ks c.args.arguments.now h)) in
    joined (map seen_fault c.args.faults.now.items) (map seen_fault c.append.new.self.items)
    (map seen_fault c.push_missing_fault.new.faults.items)
    (map seen_fault c.push_unused_faults.new.faults.items)
    (map seen_fault c.push_index_faults.new.faults.items)
    (map seen_fault c.look_up.new.faults.items) _ _ _ _
    (ap (map seen_fault) c.in_ok-append.ensures.items
    ∙ map-append seen_fault c.args.faults.now.items c.look_up.new.faults.items)
    c.in_ok-push_missing_fault.ensures
    (rw c.deref-6.ensures.value at c.in_ok-push_unused_faults.ensures)
    (rw (c.deref-7.ensures.value, h.list) at c.in_ok-push_index_faults.ensures)
    (compared-parts c.args.captures_variables ks ls _ _ _ _ found lacked left
    (sym (rw (c.deref-3.ensures.value, c.deref-4.ensures.value, c.deref-5.ensures.value)
    at c.is_settled-is_settled.ensures) ∙ c.if-not-is_settled.false))
