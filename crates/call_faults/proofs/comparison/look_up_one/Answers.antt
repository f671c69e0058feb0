use Rattle.std.proofs.Common.{◌≡◌, ◌++◌, ◌∷◌, ◌∙◌, [], ap, chars, false, map, sym, List}
use Rattle.std.specs.Prelude.{is_some, not}
use Rattle.std.specs.List.{list_any}
use Rattle.std.specs.Str.{bytes_eq}
use Rattle.std.proofs.lemmas.List.{map-append}
use Rattle.call_faults.specs.declared.lookups.Lookup.TheVariants.{Refer as DeclaredRefer}
use Rattle.call_faults.specs.declared.lookups.ArgRef.TheVariants.{Name}
use Rattle.call_faults.specs.CallFaults.{CallFault}
use Rattle.call_faults.specs.Comparison.{lookup_faults}
use Rattle.call_faults.specs.Views.{found_in, seen_fault, seen_lookup}
use Rattle.call_faults.proofs.Comparing.{now-known, outcome-name}
use Rattle.call_faults.proofs.comparison.look_up_one.Goals as goal

pub returns-in_ok-push-in-Refer-default-Name : goal.returns-in_ok-push-in-Refer-default-Name
returns-in_ok-push-in-Refer-default-Name c = λ known h.
    let w = chars c.in-Refer-default-Name.name.now in
    let r = c.in-Refer-default-Name.reference in
    let captures : c.args.captures_variables ≡ false = c.if-not-captures_variables.true in
    let lacked : list_any (bytes_eq w) known ≡ false = sym (h.same w)
    ∙ ap is_some (sym c.index_of.ensures) ∙ c.is_none.ensures ∙ ap not c.if-is_none.true in
    let is : c.args.lookup.now ≡ DeclaredRefer r (Name c.in-Refer-default-Name.name)
    = c.in-Refer-default-Name.is ∙ ap (DeclaredRefer r)
    (rw c.in-Refer-default-Name.is at c.in-Refer-default-Name.field-1-is) in (
      w ∷ known,
      record {
        same = λ t. now-known (bytes_eq t w) 0 (found_in c.args.indices.now t) _
            (list_any (bytes_eq t) known) (c.in_ok-insert-in-Refer-default-Name.ensures t) (h.same
            t);
      },
      λ ls. ap (λ (xs : List CallFault). xs
          ++ lookup_faults c.args.captures_variables (w ∷ known) ls)
          (ap (map seen_fault) c.in_ok-push-in-Refer-default-Name.ensures.items
          ∙ map-append seen_fault c.args.faults.now.items _)
          ∙ outcome-name (map seen_fault c.args.faults.now.items) c.args.captures_variables known r
          w ls
          captures
          lacked
          ∙ ap (λ l. map seen_fault c.args.faults.now.items
          ++ lookup_faults c.args.captures_variables known (seen_lookup l ∷ ls)) (sym is),
    )
