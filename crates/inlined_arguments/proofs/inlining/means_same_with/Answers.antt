use Rattle.std.proofs.Common.{chars, map}
use Rattle.rustc_parse_format.specs.Views.{seen_piece}
use Rattle.call_faults.specs.Views.{seen_given}
use Rattle.inlined_arguments.specs.Views.{seen_slot, seen_slots}
use Rattle.inlined_arguments.proofs.CleanPieces.{clean-as, not-clean}
use Rattle.inlined_arguments.proofs.Keeping.{never}
use Rattle.inlined_arguments.proofs.inlining.means_same_with.Goals as goal

pub returns-in_default : goal.returns-in_default
returns-in_default c = λ knows given.
    never (not-clean c.args.string.captures_variables (seen_slots c.args.old.values.now)
    (map seen_slot c.args.slots.now) (map seen_given c.args.arguments.now)
    (chars c.args.string.text.now) (map seen_piece c.args.old.pieces.now) given
    (rw c.in_default.is at c.in_ok-pieces.ensures))

pub returns : goal.returns
returns c = λ knows given.
    let read = rw c.in-Some.is at c.in_ok-pieces.ensures in
    let both = clean-as c.args.string.captures_variables (seen_slots c.args.old.values.now)
    (map seen_slot c.args.slots.now) (map seen_given c.args.arguments.now)
    (chars c.args.string.text.now) (map seen_piece c.args.old.pieces.now)
    (map seen_piece c.in-Some.pieces.items) given read.1 in
    let same = rw (c.deref.ensures.value, c.in_ok-values.ensures.slots)
    at (c.means_same.ensures knows c.in_ok-values.ensures.knows) in
    (λ e. both.0 (same.0 e), λ h. same.1 (both.1 h))
