use Rattle.std.proofs.Common.{refl}
use Rattle.call_faults.proofs.Holding.{Holds-named, Holds-unnamed}
use Rattle.call_faults.proofs.arguments.keep.Goals.{in-Some+in_ok-insert, in_default}
use Rattle.call_faults.proofs.arguments.keep.Goals as goal

pub returns : goal.returns
returns c = λ ks h f. elim c.match-argument.branch [
  | in-Some+in_ok-insert w ↦ rw w.arguments-is (Holds-named ks c.args.arguments.now _
      (record { index = c.args.index; argument = c.args.argument }) w.in-Some.name h w.in-Some.is f
      (rw w.arguments-is at c.in_ok-push.ensures.items) w.in_ok-insert.ensures refl)
  | in_default w ↦ rw w.arguments-is (Holds-unnamed ks c.args.arguments.now _
      (record { index = c.args.index; argument = c.args.argument }) h w.in_default.is
      (rw w.arguments-is at c.in_ok-push.ensures.items) refl refl)
]
