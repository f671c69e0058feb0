use Rattle.std.specs.List.{filter_map}
use Rattle.std.proofs.Common.{◌≡◌, ◌∷◌, ◌++◌, List, Some, map, reverse, subst, sym, arith, true}
use Rattle.std.proofs.lemmas.Grind.{common_steps}
use Rattle.rustc_parse_format.specs.Views.{seen_error, seen_mode}
use Rattle.rustc_parse_format.specs.Faults.{Message}
use Rattle.rustc_parse_format.specs.World.{Place}
use Rattle.fault_fixes.specs.Edits.{AreInOrder, Edit, edits, edit_of, is_after, made_edits}
use Rattle.fault_fixes.specs.SeenEdits.{seen_edit}
use Rattle.fault_fixes.proofs.EditLaws.{made-order, some-made}
use Rattle.fault_fixes.proofs.fixes.edits.Goals as goal

pub returns-clause-order : goal.returns-clause-order
returns-clause-order c =
    let e : map seen_edit c.loop-error.edits.items
    ≡ edits (seen_mode c.args.mode) (map seen_error c.args.errors.now) = grind (
      arith,
      common_steps,
    ) in
    subst (AreInOrder 0) (sym e) (made-order 0
    (filter_map (edit_of (seen_mode c.args.mode)) (reverse (map seen_error c.args.errors.now))))

pub returns-in_err-push-clause-spare : goal.returns-in_err-push-clause-spare
returns-in_err-push-clause-spare c = λ none.
    let l = c.loop-error in
    let m : Message Place = seen_error c.in-Some.error.now in
    let e : Edit = seen_edit c.in-Some-offered_edit.edit in
    let rest : List (Message Place) = reverse (map seen_error l.error-iterator.iter.rest.now) in
    let left : List (Message Place) =
    reverse (map seen_error c.next.new.self.iter.rest.now) in
    let h : map seen_edit l.edits.items ++ made_edits l.end
    (filter_map (edit_of (seen_mode c.args.mode))
    rest)
    ≡ edits (seen_mode c.args.mode) (map seen_error c.args.errors.now) = l.invariant in
    let r : rest ≡ m ∷ left = grind (arith, common_steps) in
    let s : edit_of (seen_mode c.args.mode) m ≡ Some e = grind (arith, common_steps) in
    let b : is_after l.end e ≡ true = grind (arith, common_steps) in
    absurd (some-made (seen_mode c.args.mode) (map seen_edit l.edits.items) l.end rest left m e _ h
    r s b none)
