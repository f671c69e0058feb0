use Rattle.std.proofs.Common.{◌≡◌, length, map}
use Rattle.rustc_parse_format.specs.FaultViews.{seen_fault}
use Rattle.rustc_parse_format.specs.State.{calls}
use Rattle.rustc_parse_format.specs.World.{faults_in}
use Rattle.text_faults.specs.Texts.{first_faults, or_else}
use Rattle.text_faults.proofs.text.first_faults.Given as goal

-- The faults that were found, or else those of the calls that are left, are all.
abbrev pub invariant-loop-parser : goal.invariant-loop-parser
invariant-loop-parser l = or_else (map seen_fault l.faults.items)
    (faults_in l.parser.world (first_faults (calls l.parser)))
    ≡ faults_in l.fn.parser.world (first_faults (calls l.fn.parser))

abbrev pub decreases-loop-parser : goal.decreases-loop-parser
decreases-loop-parser l = length l.parser.rest
