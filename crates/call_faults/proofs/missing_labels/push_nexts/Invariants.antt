use Rattle.std.proofs.Common.{◌≡◌, ◌++◌, drop, map}
use Rattle.rustc_parse_format.specs.Views.{pair, seen_piece}
use Rattle.call_faults.specs.Labels.{next_labels}
use Rattle.text_faults.specs.Views.{seen_label}
use Rattle.call_faults.proofs.missing_labels.push_nexts.Given as goal

-- What is added, and then the labels of what is left, is all.
abbrev pub invariant-loop-piece : goal.invariant-loop-piece
invariant-loop-piece l = map seen_label l.labels.items
    ++ next_labels (map seen_piece (drop l.piece-index l.pieces)) (map pair l.rest)
    ≡ map seen_label l.fn.labels.items ++ next_labels (map seen_piece l.pieces) (map pair l.places)
